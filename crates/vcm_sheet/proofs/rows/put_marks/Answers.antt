use Rattle.std.proofs.Common.{◌++◌}
use Rattle.std.specs.Prelude.{codes}
use Rattle.vcm_sheet.specs.Tables.{sign_row}
use Rattle.vcm_sheet.proofs.Saying.{adds_last}
use Rattle.vcm_sheet.proofs.rows.put_marks.Goals as goal

pub returns : goal.returns
returns c =
    let u = c.args.used in
    let touched = sign_row u.touched (codes "point touched, with its number") in
    let end = sign_row u.end (codes "end") in
    let home = sign_row u.home (codes "home") in
    let contact = sign_row u.contact (codes "contact") in
    let limits = sign_row u.limits (codes "limits") in
    let hidden = sign_row u.hidden (codes "hidden block") in
    adds_last c.put_sign-6.result touched (end ++ (home ++ (contact ++ (limits ++ hidden)))) _ _ _ c.in_ok-at.ensures
    (adds_last c.put_sign-6.result end (home ++ (contact ++ (limits ++ hidden))) _ _ _ c.in_ok-at-2.ensures
    (adds_last c.put_sign-6.result home (contact ++ (limits ++ hidden)) _ _ _ c.in_ok-at-3.ensures
    (adds_last c.put_sign-6.result contact (limits ++ hidden) _ _ _ c.in_ok-at-4.ensures
    (adds_last c.put_sign-6.result limits hidden _ _ _ c.in_ok-at-5.ensures c.put_sign-6.ensures))))

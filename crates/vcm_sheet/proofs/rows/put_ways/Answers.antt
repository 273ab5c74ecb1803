use Rattle.std.proofs.Common.{◌++◌}
use Rattle.std.specs.Prelude.{codes}
use Rattle.vcm_sheet.specs.Tables.{sign_row}
use Rattle.vcm_sheet.proofs.Saying.{adds_last}
use Rattle.vcm_sheet.proofs.rows.put_ways.Goals as goal

pub returns : goal.returns
returns c =
    let u = c.args.used in
    let moves = sign_row u.moves (codes "move") in
    let approach = sign_row u.approach (codes "approach") in
    let search = sign_row u.search (codes "search") in
    let retract = sign_row u.retract (codes "retract") in
    let rest = sign_row u.rest (codes "not reached") in
    let elsewhere = sign_row u.elsewhere (codes "begins elsewhere") in
    adds_last c.put_sign-6.result moves (approach ++ (search ++ (retract ++ (rest ++ elsewhere)))) _ _ _ c.in_ok-at.ensures
    (adds_last c.put_sign-6.result approach (search ++ (retract ++ (rest ++ elsewhere))) _ _ _ c.in_ok-at-2.ensures
    (adds_last c.put_sign-6.result search (retract ++ (rest ++ elsewhere)) _ _ _ c.in_ok-at-3.ensures
    (adds_last c.put_sign-6.result retract (rest ++ elsewhere) _ _ _ c.in_ok-at-4.ensures
    (adds_last c.put_sign-6.result rest elsewhere _ _ _ c.in_ok-at-5.ensures c.put_sign-6.ensures))))

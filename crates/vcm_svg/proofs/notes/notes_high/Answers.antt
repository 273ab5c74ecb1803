use Rattle.std.proofs.Common.{◌≡◌, ◌≤◌, refl, pos, ◌*◌, arith, w64, rules, FitsSigned, to_z, to_z-of_z, take, length}
use Rattle.std.proofs.lemmas.Int.{to_z_pos}
use Rattle.vcm_svg.proofs.Noting.{held, few_count}
use Rattle.vcm_svg.proofs.notes.notes_high.Goals as goal

pub returns-clause-high : goal.returns-clause-high
returns-clause-high c =
    let n = length c.few_notes.result.now in
    let few : n ≤ 40 = c.few_notes.ensures.few in
    let e : to_z w64 n ≡ pos n = to_z_pos w64 n (omega (arith, few)) in
    let k : n ≡ length (take 40 (held c.args.lines.now)) = few_count c.few_notes.result.now c.args.lines.now c.few_notes.ensures.first in
    let fits : FitsSigned w64 (pos (18 * n)) = search rules in
    rw (e, to_z-of_z fits, k) refl

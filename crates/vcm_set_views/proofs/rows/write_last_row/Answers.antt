use Rattle.std.proofs.Common.{subst, arith}
use Rattle.vcm_turning.specs.Machine.{TurningEnded}
use Rattle.vcm_set_views.proofs.rows.write_last_row.Goals as goal

pub write_lost_row-requires : goal.write_lost_row-requires
write_lost_row-requires g c =
    let f = c.args.fitted.now in
    let e = c.args.ending.now.end in
    let h = subst (λ x. TurningEnded c.requires.0 f.part f.probes f.variable f.code e.done x) c.in-Lost.is c.requires.2.ended.ended in
    let less = h.0 in
    let few = c.requires.1 in
    omega (arith, less, few)

pub returns-in-Lost : goal.returns-in-Lost
returns-in-Lost g c = rw c.in-Lost.is (rw c.requires.2.state at c.write_lost_row.ensures)

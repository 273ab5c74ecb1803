use Rattle.std.proofs.Common.{◌+ℤ◌, FitsSigned, to_z-of_z}
use mir.Syntax.{w128}
use Rattle.vcm_first_contact.proofs.Passes.{from_short, to_short, product_fits, sum_fits, sum_small}
use Rattle.vcm_first_contact.proofs.entry.place_at.Goals as goal

pub scaled-requires-clause-corner : goal.scaled-requires-clause-corner
scaled-requires-clause-corner c = from_short c.args.pass.now c.requires.small.pass c.args.axis c.requires.axis

pub scaled_run-requires-clause-run : goal.scaled_run-requires-clause-run
scaled_run-requires-clause-run c = to_short c.args.pass.now c.requires.small.pass c.args.axis c.requires.axis

pub returns-clause-small : goal.returns-clause-small
returns-clause-small c =
    let one = c.scaled.ensures.small in
    let other = c.scaled_run.ensures.small in
    let fa : FitsSigned w128 c.scaled.result = product_fits _ one in
    let fb : FitsSigned w128 c.scaled_run.result = product_fits _ other in
    let fs : FitsSigned w128 (c.scaled.result +ℤ c.scaled_run.result) = sum_fits _ _ one other in
    rw (to_z-of_z fa, to_z-of_z fb, to_z-of_z fs) (sum_small _ _ one other)

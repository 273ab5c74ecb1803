use Rattle.std.proofs.Common.{◌≡◌, ℕ, ◌+◌, subst, arith}
use Rattle.vcm_clearance.specs.inner.Following.{IsMetWith}
use Rattle.vcm_clearance.proofs.rooms.narrowed.Goals as goal

pub returns-clause-met : goal.returns-clause-met
returns-clause-met c =
    let order = c.loop-beyond.invariant.order in
    let done = c.loop-beyond-test.false in
    let one : c.loop-beyond.beyond ≡ c.loop-beyond.clear + 1 = omega (arith, order, done) in
    subst (λ (k : ℕ). IsMetWith c.args.blocks.now.blocks c.args.body.now c.args.gone.now k c.loop-beyond.found) one c.loop-beyond.invariant.narrow

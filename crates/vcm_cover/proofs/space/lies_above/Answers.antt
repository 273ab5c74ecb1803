use Rattle.std.proofs.Common.{◌≡◌, ℤ, pos, ◌*ℤ◌, arith, rules, subst}
use Rattle.std.proofs.lemmas.Int.{ints}
use mir.Syntax.{w32}
use mir.Val.{SFits}
use lib.Signed.{◌<ℤ◌}
use Rattle.vcm_cover.proofs.Settled.{strictly_above}
use Rattle.vcm_cover.proofs.space.lies_above.Goals as goal

pub returns-then-low-stretch : goal.returns-then-low-stretch
returns-then-low-stretch c = λ _ s z some on.
    let w = c.args.stretch.now in
    let f : SFits w32 w.low = search rules in
    strictly_above s c.args.low w.low z some (omega (arith, ints, c.if-low-stretch.true)) on.from_low

pub returns : goal.returns
returns c = λ e s z some on.
    let w = c.args.stretch.now in
    let f : SFits w32 w.low = search rules in
    let same : w.low ≡ c.args.low = omega (arith, ints, c.if-low-stretch.false, c.if-stretch-low.false) in
    subst (λ (a : ℤ). (pos s *ℤ a) <ℤ z) same (on.off_low e)

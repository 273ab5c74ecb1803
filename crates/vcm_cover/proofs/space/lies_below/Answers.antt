use Rattle.std.proofs.Common.{◌≡◌, ℤ, pos, ◌*ℤ◌, arith, rules, subst}
use Rattle.std.proofs.lemmas.Int.{ints}
use mir.Syntax.{w32}
use mir.Val.{SFits}
use lib.Signed.{◌<ℤ◌}
use Rattle.vcm_cover.proofs.Settled.{strictly_below}
use Rattle.vcm_cover.proofs.space.lies_below.Goals as goal

pub returns-then-stretch-high : goal.returns-then-stretch-high
returns-then-stretch-high c = λ _ s z some on.
    let w = c.args.stretch.now in
    let f : SFits w32 w.high = search rules in
    strictly_below s w.high c.args.high z some (omega (arith, ints, c.if-stretch-high.true)) on.to_high

pub returns : goal.returns
returns c = λ e s z some on.
    let w = c.args.stretch.now in
    let f : SFits w32 w.high = search rules in
    let same : w.high ≡ c.args.high = omega (arith, ints, c.if-stretch-high.false, c.if-high-stretch.false) in
    subst (λ (a : ℤ). z <ℤ (pos s *ℤ a)) same (on.off_high e)

use Rattle.std.proofs.Common.{arith, rules}
use Rattle.std.proofs.lemmas.Int.{ints}
use mir.Syntax.{w32}
use mir.Val.{SFits}
use Rattle.vcm_boxing.proofs.Inside.{void_low, void_high}
use Rattle.vcm_boxing.proofs.range.is_void.Goals as goal

pub returns-then-stretch-2 : goal.returns-then-stretch-2
returns-then-stretch-2 c = λ _ s z on.
    let w = c.args.stretch.now in
    let l : SFits w32 w.low = search rules in
    let h : SFits w32 w.high = search rules in
    void_low w s z (omega (arith, ints, c.if-stretch.false)) c.if-stretch-2.true on

pub returns : goal.returns
returns c = λ e s z on.
    let w = c.args.stretch.now in
    let l : SFits w32 w.low = search rules in
    let h : SFits w32 w.high = search rules in
    void_high w s z (omega (arith, ints, c.if-stretch.false)) e on

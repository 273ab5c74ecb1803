use Rattle.std.proofs.Common.{arith, ◌≡◌, ◌==◌, false}
use Rattle.vcm_words.proofs.WordLaws.{ending_is, ending_isnt}
use Rattle.vcm_words.proofs.items.before_end.Goals as goal

pub returns-then-last-mark : goal.returns-then-last-mark
returns-then-last-mark c = ending_is c.args.mark c.in-Some.last.now c.args.word.now c.in-Some.front.now c.in-Some.ensures.cases.0 c.if-last-mark.true

pub returns-else-last-mark : goal.returns-else-last-mark
returns-else-last-mark c =
    let other : (c.in-Some.last.now == c.args.mark) ≡ false = grind (arith, c.if-last-mark.false) in
    ending_isnt c.args.mark c.in-Some.last.now c.args.word.now c.in-Some.front.now c.in-Some.ensures.cases.0 other

use Rattle.std.proofs.Common.{sym, ◌∙◌}
use Rattle.vcm_blocks.specs.Words.{turn_of}
use Rattle.vcm_blocks.proofs.Turning.{ends}
use Rattle.vcm_blocks.proofs.words.turn_word.Goals as goal

pub returns-in_err-turn : goal.returns-in_err-turn
returns-in_err-turn c =
    c.from_residual.ensures
    ∙ sym (ends c.loop-front.turn c.loop-front.rest.now (turn_of c.args.word.now) c.loop-front.invariant c.in-Some.front.now c.in-Some.behind.now
    c.in-Some.ensures.some.0 (sym c.turned.ensures ∙ c.in_err-turn.was))

use Rattle.std.proofs.Common.{◌∙◌}
use Rattle.vcm_lines.proofs.Marking.{logical_made}
use Rattle.vcm_lines.proofs.lines.Unfinished.finish.Goals as goal

pub returns-clause-made : goal.returns-clause-made
returns-clause-made c = λ rows h. logical_made c.args.self.now rows _ _ _ c.in-Some.is c.from-line.ensures (c.in_ok-text.ensures ∙ c.deref-3.ensures.value)
    (rw (c.deref.ensures.value, c.deref-2.ensures.value) at c.in_ok-words.ensures) h

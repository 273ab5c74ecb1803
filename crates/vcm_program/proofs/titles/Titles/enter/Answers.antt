use Rattle.std.proofs.Common.{sym, ◌∙◌, arith, rules}
use Rattle.std.proofs.lemmas.Grind.{common_steps}
use Rattle.vcm_program.proofs.Titled.{name_added}
use Rattle.vcm_program.proofs.titles.Titles.enter.Goals as goal

pub returns-in_ok-insert-in-None-clause-names : goal.returns-in_ok-insert-in-None-clause-names
returns-in_ok-insert-in-None-clause-names c =
    rw (← c.self.view_is)
    (c.in_ok-insert-in-None.ensures.keys ∙ name_added c.self.inside.names.keys c.args.name (rw (← c.self.view_is) at (sym c.find.ensures ∙ c.in-None.is)))

pub invariant_of-self-in-None : goal.invariant_of-self-in-None
invariant_of-self-in-None c = grind (arith, common_steps)

pub returns-in_ok-insert-in-None-clause-ok : goal.returns-in_ok-insert-in-None-clause-ok
returns-in_ok-insert-in-None-clause-ok c = search rules

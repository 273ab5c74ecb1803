use Rattle.vcm_tree.proofs.AcceptanceLaws.{not_refused_from, one_from, one_refusal_from}
use Rattle.vcm_tree.proofs.laws.statements_are_judged_once.Goals as goal

pub returns-clause-not_refused : goal.returns-clause-not_refused
returns-clause-not_refused c = not_refused_from

pub returns-clause-one_program : goal.returns-clause-one_program
returns-clause-one_program c = one_from

pub returns-clause-one_line : goal.returns-clause-one_line
returns-clause-one_line c = one_refusal_from

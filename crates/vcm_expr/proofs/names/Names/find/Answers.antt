use Rattle.std.proofs.Common.{rules, sym}
use Rattle.vcm_items.proofs.NameLemmas.{kind_at}
use Rattle.vcm_expr.proofs.names.Names.find.Goals as goal

pub returns-in_err-index-in-None : goal.returns-in_err-index-in-None
returns-in_err-index-in-None c = search rules

pub returns : goal.returns
returns c = (search rules, rw (← c.self.view_is) (kind_at c.self.inside.variables.entries c.match-index_in.index _ (sym c.in_ok-kind.ensures.entry)))

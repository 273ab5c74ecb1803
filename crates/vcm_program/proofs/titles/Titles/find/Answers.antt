use Rattle.std.proofs.Common.{◌∙◌, sym}
use Rattle.vcm_nodes.proofs.SameNames.{same_name}
use Rattle.vcm_program.proofs.Titled.{position_same}
use Rattle.vcm_program.proofs.titles.Titles.find.Goals as goal

pub returns-in-Some : goal.returns-in-Some
returns-in-Some c = sym c.in-Some.is ∙ rw (← c.self.view_is) (c.get_index_of.ensures.index ∙ position_same _ _ (same_name c.args.name.now) c.self.inside.names.keys)

pub returns-in-None : goal.returns-in-None
returns-in-None c = sym c.in-None.is ∙ rw (← c.self.view_is) (c.get_index_of.ensures.index ∙ position_same _ _ (same_name c.args.name.now) c.self.inside.names.keys)

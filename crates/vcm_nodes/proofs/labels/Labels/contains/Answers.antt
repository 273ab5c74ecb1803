use Rattle.vcm_nodes.proofs.labels.Labels.contains.Goals as goal

pub returns : goal.returns
returns c = rw (← c.self.view_is) c.contains.ensures

use Rattle.vcm_tree.proofs.Walking.{walk_clean, walk_ends}
use Rattle.vcm_tree.proofs.Ending.{walk_labels}
use Rattle.vcm_tree.proofs.program.drafted.Goals as goal

pub returns-in-Ok-clause-clean : goal.returns-in-Ok-clause-clean
returns-in-Ok-clause-clean c = walk_clean c.args.all.items c.take_all.new.read c.in-Ok.ensures.ok.0 c.in-Ok.ensures.ok.1

pub returns-in-Ok-clause-program : goal.returns-in-Ok-clause-program
returns-in-Ok-clause-program c = λ written e.
    rw (c.draft_of.ensures.tree, c.draft_of.ensures.names, c.draft_of.ensures.notices, e)
    (walk_ends written c.args.all.items c.take_all.new.read c.in-Ok.ensures.ok.0 c.requires.ended c.in-Ok.ensures.ok.1)

pub returns-in-Ok-clause-labels : goal.returns-in-Ok-clause-labels
returns-in-Ok-clause-labels c =
    rw (c.draft_of.ensures.labels, c.draft_of.ensures.tree) (walk_labels c.args.all.items c.take_all.new.read c.in-Ok.ensures.ok.0 c.requires.ended c.in-Ok.ensures.ok.1)

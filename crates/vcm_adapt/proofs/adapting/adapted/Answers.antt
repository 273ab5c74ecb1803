use Rattle.vcm_adapt.proofs.Whole.{adapted_lines, adapted_count}
use Rattle.vcm_adapt.proofs.Restoring.{adapted_restored, unmarked_restored}
use Rattle.vcm_adapt.proofs.adapting.adapted.Goals as goal

pub returns-clause-lines : goal.returns-clause-lines
returns-clause-lines c = rw c.in_ok-out.ensures.text (adapted_lines c.args.edits.now c.args.text.now c.in_ok-out.ensures.new)

pub returns-clause-back : goal.returns-clause-back
returns-clause-back c = rw c.in_ok-out.ensures.text (adapted_restored c.args.edits.now c.args.text.now c.in_ok-out.ensures.new)

pub returns-clause-count : goal.returns-clause-count
returns-clause-count c = rw c.in_ok-out.ensures.text (adapted_count c.args.edits.now c.args.text.now c.in_ok-out.ensures.new)

pub returns-clause-unmarked : goal.returns-clause-unmarked
returns-clause-unmarked c = rw c.in_ok-out.ensures.text (unmarked_restored c.args.edits.now c.args.text.now c.in_ok-out.ensures.new)

use Rattle.std.proofs.Common.{rules}
use Rattle.vcm_tree.proofs.program.note.Goals as goal

pub returns-in_ok-push : goal.returns-in_ok-push
returns-in_ok-push c = search rules

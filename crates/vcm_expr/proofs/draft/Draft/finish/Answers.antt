use Rattle.std.proofs.Common.{rules}
use Rattle.vcm_expr.proofs.draft.Draft.finish.Goals as goal

pub new-requires : goal.new-requires
new-requires c = search rules

use Rattle.std.proofs.Common.{rules}
use Rattle.vcm_listing.proofs.lines.unread.Goals as goal

pub returns-in-Some : goal.returns-in-Some
returns-in-Some c = search rules

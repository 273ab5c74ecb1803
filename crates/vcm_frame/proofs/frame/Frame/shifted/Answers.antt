use Rattle.std.proofs.Common.{rules}
use Rattle.vcm_frame.proofs.frame.Frame.shifted.Goals as goal

pub returns : goal.returns
returns c = search rules

pub returns-in_err-origin : goal.returns-in_err-origin
returns-in_err-origin c = search rules

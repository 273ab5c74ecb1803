use Rattle.std.proofs.Common.{length, Result}
use Rattle.vcm_dap.specs.declared.fault.DapFault.{DapFault}
use Rattle.vcm_dap.specs.Talking.{Talking}
use Rattle.vcm_dap.specs.Telling.{ToldLines}
use Rattle.vcm_dap.proofs.output.tell_lines.Given as goal

abbrev pub invariant-loop-rest : goal.invariant-loop-rest
invariant-loop-rest g l = (new : Talking) (r : Result (Unit {0}) DapFault) → ToldLines l.talk new l.rest r → ToldLines l.fn.talk new l.lines r

abbrev pub decreases-loop-rest : goal.decreases-loop-rest
decreases-loop-rest g l = length l.rest

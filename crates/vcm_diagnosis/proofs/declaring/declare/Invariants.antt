use Rattle.std.proofs.Common.{drop}
use Rattle.vcm_tree.specs.Declaring.{DeclareVariables}
use Rattle.vcm_diagnosis.proofs.declaring.declare.Given as goal

abbrev pub invariant-loop-statement : goal.invariant-loop-statement
invariant-loop-statement l = DeclareVariables (drop l.statement-index l.all) → DeclareVariables l.all

use Rattle.std.proofs.Common.{◌≡◌, ◌++◌, drop}
use Rattle.vcm_hardware.specs.Pieces.{texts}
use Rattle.vcm_hardware.proofs.pieces.put.Given as goal

abbrev pub invariant-loop-piece : goal.invariant-loop-piece
invariant-loop-piece l = record { bytes : l.out.items ++ texts (drop l.piece-index l.pieces) ≡ l.fn.out.items ++ texts l.pieces }

use Rattle.std.proofs.Common.{◌≡◌, ◌++◌, drop}
use Rattle.std.specs.List.{flat_map}
use Rattle.vcm_templates.specs.Templates.{asks_piece}
use Rattle.vcm_templates.proofs.templates.ask_pieces.Given as goal

abbrev pub invariant-loop-piece : goal.invariant-loop-piece
invariant-loop-piece l = record {
  left : l.out.items ++ flat_map (asks_piece l.line l.names) (drop l.piece-index l.pieces) ≡ l.initial.out.items ++ flat_map (asks_piece l.line l.names) l.pieces;
}

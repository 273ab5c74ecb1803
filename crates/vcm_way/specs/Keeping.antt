-- Ways that are kept step by step: what a kept way is of the whole one.
use Rattle.std.specs.Prelude.{◌≡◌, ℕ, ◌+◌, ◌-◌, List, ◌++◌}
use Rattle.vcm_marks.specs.declared.mark.PlacedMark.{PlacedMark}
use Rattle.vcm_marks.specs.Pieces.{pieces}
use Rattle.vcm_way.specs.Ways.{Kept, last_pieces, most_pieces}

-- these marks, so many pieces being left out before them
abbrev pub kept : List PlacedMark → ℕ → Kept
kept marks left_out = record { marks = marks; left_out = left_out }

-- with the last pieces alone
abbrev pub shortened : Kept → Kept
shortened k = kept (last_pieces most_pieces k.marks) (k.left_out + (pieces k.marks - pieces (last_pieces most_pieces k.marks)))

-- it stands for a whole way: its last pieces are those of the way, whatever comes behind, and all others are left out
pub record StandsFor (k : Kept) (whole : List PlacedMark) : Type 0 where
  pub total : k.left_out + pieces k.marks ≡ pieces whole
  pub last : (ms : List PlacedMark) → last_pieces most_pieces (k.marks ++ ms) ≡ last_pieces most_pieces (whole ++ ms)

-- The strips of each block.
use Rattle.std.specs.Prelude.{ℕ, ℤ, ◌+◌, Bool, nat_le, ◌&&◌, List, [], ◌∷◌}
use Rattle.vcm_num.specs.Point.{coordinate}
use Rattle.vcm_spec.specs.declared.workpiece.Block3.{Block3}
use Rattle.vcm_motion.specs.declared.layout.Span.{Span}
use Rattle.vcm_motion.specs.Strips.{strip_at, numbered}

-- the first and the last strip that a block stands in
abbrev pub span_at : ℤ → ℕ → Block3 → Span
span_at low width block = record { first = strip_at low width (coordinate block.low 0); last = strip_at low width (coordinate block.high 0) }

-- whether the strip s is one of them
abbrev pub has_strip : ℕ → Span → Bool
has_strip s span = nat_le span.first s && nat_le s span.last

-- the numbers, counted from n, of the blocks that have the strip s
abbrev pub having : ℕ → ℕ → List Span → List ℕ
having s n [] = []
having s n (span ∷ spans) = numbered (has_strip s span) n (having s (n + 1) spans)

-- What of a whole program wasn't tried, in its pictures.
use Rattle.std.specs.Prelude.{ℕ, ◌==◌, Bool, true, false, ◌&&◌, List, map}
use Rattle.std.specs.List.{list_any}
use Rattle.vcm_marks.specs.declared.mark.Going.{Going}
use Rattle.vcm_marks.specs.declared.mark.Going.TheVariants.{Move, Approach}
use Rattle.vcm_marks.specs.declared.mark.Mark.{Mark}
use Rattle.vcm_marks.specs.declared.mark.Mark.TheVariants.{Goes}
use Rattle.vcm_marks.specs.declared.mark.PlacedMark.{PlacedMark}
use Rattle.vcm_views.specs.declared.untried.Untried.{Untried}

-- a piece is a move or an approach
abbrev pub is_first : Going → Bool
is_first Move = true
is_first Approach = true
is_first g = false

-- a mark is the piece that a way begins with
abbrev pub is_begun : Mark → Bool
is_begun (Goes p) = is_first p.going
is_begun m = false

-- a mark, which begins elsewhere if its way begins with it and its step is one of these
abbrev pub flagged_by : List ℕ → PlacedMark → PlacedMark
flagged_by steps m = record {
  mark = m.mark;
  step = m.step;
  number = m.number;
  line = m.line;
  is_elsewhere = is_begun m.mark && list_any (λ s. s == m.step) steps;
}

-- marks likewise
abbrev pub flagged : List ℕ → List PlacedMark → List PlacedMark
flagged steps marks = map (flagged_by steps) marks

-- the lines that report what wasn't tried
abbrev pub lines_of : Untried → List (List ℕ)
lines_of u = map (λ line. line.items) u.lines.now

-- the marks of a run of which this wasn't tried
abbrev pub marks_with : Untried → List PlacedMark → List PlacedMark
marks_with u marks = flagged u.elsewhere.now marks

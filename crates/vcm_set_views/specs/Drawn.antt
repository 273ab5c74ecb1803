-- The picture of a run with several probes.
use Rattle.std.specs.Prelude.{ℕ, Bool, List, [], flat_map}
use Rattle.vcm_marks.specs.declared.mark.Mark.{Mark}
use Rattle.vcm_marks.specs.declared.mark.PlacedMark.{PlacedMark}
use Rattle.vcm_picture.specs.Picture.{sheet, picture_text}
use Rattle.vcm_turning.specs.Steps.{TurnedStep, turned_marks}
use Rattle.vcm_way.specs.Ways.{Kept, placed, kept_of}
use Rattle.vcm_set_views.specs.declared.ends.SetEnd.{SetEnd}
use Rattle.vcm_set_views.specs.Fit.{Fit, steps_of, part_behind}
use Rattle.vcm_set_views.specs.Reasons.{held_at}

-- marks of a step, with it and with the number and the line of its statement
abbrev pub placed_turned : TurnedStep → List Mark → List PlacedMark
placed_turned s marks = placed s.passage.count s.passage.number s.passage.statement.line marks

-- what is kept of the way behind so many steps
abbrev pub kept_way : Fit → ℕ → Kept
kept_way f n = kept_of (flat_map (λ s. placed_turned s (turned_marks f.part f.probes s)) (steps_of f n))

-- the picture of a run that ended so, beside the workpiece with the tip that is on there
abbrev pub picture_of : Fit → SetEnd → (is_close : Bool) → List ℕ
picture_of f e is_close =
    picture_text (sheet (part_behind f e.done) (held_at f e.done) e.done (kept_way f e.done).marks (kept_way f e.done).left_out is_close [])

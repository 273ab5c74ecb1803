-- Lists of marks, points and shapes, one more at a time.
use Rattle.std.proofs.Common.{◌≡◌, ◌∙◌, sym, ℕ, ◌+◌, ◌<◌, List, get_or, length, drop}
use Rattle.std.proofs.lemmas.List.{at_drop_more}
use Rattle.vcm_marks.specs.declared.mark.PlacedMark.{PlacedMark}
use Rattle.vcm_picture.specs.Sights.{Scope}
use Rattle.vcm_svg.specs.declared.rect.Rect.{Rect}
use Rattle.vcm_sheet.specs.declared.numbers.Numbered.{Numbered}
use Rattle.vcm_sheet.specs.declared.points.Pointed.{Pointed}
use Rattle.vcm_sheet.specs.Numbers.{Numbering, with_number, with_numbers}
use Rattle.vcm_sheet.specs.Points.{with_point, with_points}

-- the boxes that are taken, and the numbers that stand
abbrev pub numbering : List Rect → List Numbered → Numbering
numbering taken numbers = record { taken = taken; numbers = numbers }

pub pointed_more : (marks : List PlacedMark) (i : ℕ) (d : PlacedMark) (ps new whole : List Pointed) → i < length marks
    → new ≡ with_point ps (get_or marks i d) (get_or marks i d).mark → with_points ps (drop i marks) ≡ whole
    → with_points new (drop (i + 1) marks) ≡ whole
pointed_more marks i d ps new whole h e w = rw e (sym (at_drop_more (λ ms. with_points ps ms) marks i d h) ∙ w)

pub numbered_more : (s : Scope) (points : List Pointed) (i : ℕ) (d : Pointed) (n new whole : Numbering) → i < length points
    → new ≡ with_number s (get_or points i d) n → with_numbers s (drop i points) n ≡ whole → with_numbers s (drop (i + 1) points) new ≡ whole
numbered_more s points i d n new whole h e w = rw e (sym (at_drop_more (λ ps. with_numbers s ps n) points i d h) ∙ w)

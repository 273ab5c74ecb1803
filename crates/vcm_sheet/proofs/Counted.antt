-- The numbers of touched points.
use Rattle.std.proofs.Common.{◌≡◌, ◌∙◌, sym, ap, refl, ℤ, pos, ◌+ℤ◌, List, [], ◌∷◌, ◌++◌, map, length, append_assoc, append-nil, arith}
use Rattle.std.proofs.lemmas.Int.{ints}
use Rattle.vcm_marks.specs.declared.mark.Mark.{Mark}
use Rattle.vcm_marks.specs.declared.mark.Mark.TheVariants.{Goes, Touches, Meets}
use Rattle.vcm_marks.specs.declared.mark.PlacedMark.{PlacedMark}
use Rattle.vcm_marks.specs.declared.mark.Touched.{Touched}
use Rattle.vcm_sheet.specs.declared.points.Pointed.{Pointed}
use Rattle.vcm_sheet.specs.Laws.{touched_of, touched_in, PointsHaveNumbers, IsCounted, NumbersAreCounted}
use Rattle.vcm_sheet.specs.Points.{with_point, with_points}

-- the touched points of points
abbrev pub touched : List Pointed → List Touched
touched ps = map (λ p. p.touched) ps

touched_push : (ps : List Pointed) (x : Pointed) → touched (ps ++ x ∷ []) ≡ touched ps ++ x.touched ∷ []
touched_push [] x = refl
touched_push (p ∷ ps) x = ap (λ l. p.touched ∷ l) (touched_push ps x)

touched_one : (ps : List Pointed) (m : PlacedMark) (k : Mark) → touched (with_point ps m k) ≡ touched ps ++ touched_of k
touched_one ps m (Goes p) = sym (append-nil (touched ps))
touched_one ps m (Touches t) = touched_push ps _
touched_one ps m (Meets c) = sym (append-nil (touched ps))

touched_all : (marks : List PlacedMark) (ps : List Pointed) → touched (with_points ps marks) ≡ touched ps ++ touched_in marks
touched_all [] ps = sym (append-nil (touched ps))
touched_all (m ∷ ms) ps =
    touched_all ms (with_point ps m m.mark) ∙ ap (λ l. l ++ touched_in ms) (touched_one ps m m.mark)
    ∙ append_assoc (touched ps) (touched_of m.mark) (touched_in ms)

pub points_have_numbers : PointsHaveNumbers
points_have_numbers marks = touched_all marks []

counted_push : (n : ℤ) (ps : List Pointed) (x : Pointed) → x.number ≡ n +ℤ pos (length ps) → IsCounted n ps → IsCounted n (ps ++ x ∷ [])
counted_push n [] x e h = (omega (arith, ints), tt)
counted_push n (p ∷ ps) x e h = (h.0, counted_push (n +ℤ pos 1) ps x (omega (arith, ints)) h.1)

counted_one : (ps : List Pointed) (m : PlacedMark) (k : Mark) → IsCounted (pos 1) ps → IsCounted (pos 1) (with_point ps m k)
counted_one ps m (Goes p) h = h
counted_one ps m (Touches t) h = counted_push (pos 1) ps _ (omega (arith, ints)) h
counted_one ps m (Meets c) h = h

counted_all : (marks : List PlacedMark) (ps : List Pointed) → IsCounted (pos 1) ps → IsCounted (pos 1) (with_points ps marks)
counted_all [] ps h = h
counted_all (m ∷ ms) ps h = counted_all ms (with_point ps m m.mark) (counted_one ps m m.mark h)

pub numbers_are_counted : NumbersAreCounted
numbers_are_counted marks = counted_all marks [] tt

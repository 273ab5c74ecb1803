-- How a block is shown behind rectangles.
use Rattle.std.proofs.Common.{◌≡◌, ◌∙◌, ap, sym, refl, ℤ, Bool, true, false, true≢false, ◌&&◌, ◌||◌, cond, List, [], ◌∷◌}
use Rattle.std.specs.Prelude.{Option}
use Rattle.vcm_svg.specs.declared.rect.Rect.{Rect}
use Rattle.vcm_svg.specs.Rect.{is_same, contains}
use Rattle.vcm_picture.specs.declared.shown.Face.{Face}
use Rattle.vcm_picture.specs.declared.shown.Figure.{Figure}
use Rattle.vcm_picture.specs.declared.shown.Shown.{Shown}
use Rattle.vcm_picture.specs.declared.shown.Shown.TheVariants.{Repeated, Hidden, Open}
use Rattle.vcm_picture.specs.Shown.{is_repeated, is_hidden, figure_of, shown_of}

same_or : (s t : Bool) (x y : Bool) → (s ≡ true → t ≡ true) → (x ≡ true → y ≡ true) → (s || x) ≡ true → (t || y) ≡ true
same_or true t x y h k e = rw (h refl) refl
same_or false true x y h k e = refl
same_or false false x y h k e = k e

same_contains : (s t : Bool) → (s && t) ≡ true → s ≡ true
same_contains true t e = refl
same_contains false t e = e

-- a rectangle that is repeated is hidden
repeated_hidden : (before : List Rect) (r : Rect) → is_repeated before r ≡ true → is_hidden before r ≡ true
repeated_hidden [] r e = e
repeated_hidden (o ∷ os) r e =
    same_or (is_same o r) (contains o r) (is_repeated os r) (is_hidden os r) (same_contains (contains o r) (contains r o)) (repeated_hidden os r) e

third : (s t : Bool) (x y z : Shown) → (s ≡ true → t ≡ true) → t ≡ false → z ≡ cond s x (cond t y z)
third true t x y z h e = absurd (true≢false (sym (h refl) ∙ e))
third false t x y z h e = rw e refl

-- what isn't hidden is open
pub shown_open : (before : List Rect) (f : Face) (unit : ℤ) (b : Bool) (o : Option Figure) → b ≡ is_hidden before f.rect → b ≡ false
    → o ≡ figure_of before f unit → Open o ≡ shown_of before f unit
shown_open before f unit b o e h k =
    ap Open k
    ∙ third (is_repeated before f.rect) (is_hidden before f.rect) Repeated Hidden (Open (figure_of before f unit)) (repeated_hidden before f.rect)
    (sym e ∙ h)

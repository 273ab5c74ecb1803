-- Layouts, and pictures of their parts.
use Rattle.std.proofs.Common.{◌≡◌, ◌∙◌, ap, subst, ℕ, ℤ, pos, negsuc, ◌*◌, ◌*ℤ◌, ◌≤ℤ◌, ◌≤◌, List, [], ◌++◌, arith}
use Rattle.std.specs.Prelude.{Bool, Option, Result}
use Rattle.std.proofs.lemmas.Int.{ints}
use Rattle.std.proofs.Math.IntN.{pos-*ℤ-pos}
use Rattle.std.proofs.Math.Nat.{mul-le-mul_right}
use Rattle.vcm_spec.specs.Workpiece.{Workpiece}
use Rattle.vcm_state.specs.Held.{Held}
use Rattle.vcm_marks.specs.declared.mark.PlacedMark.{PlacedMark}
use Rattle.vcm_picture.specs.Sights.{Layout}
use Rattle.vcm_picture.specs.declared.picture.PictureFault.{PictureFault}
use Rattle.vcm_picture.specs.Outcome.{IsPicture}
use Rattle.vcm_picture.specs.Sights.{Window}
use Rattle.vcm_picture.specs.Heading.{first_line}
use Rattle.vcm_picture.specs.Picture.{above, layout_of, layout_with, picture_of, picture_text, sheet, window_round}
use Rattle.vcm_picture.specs.inner.Layouts.{IsLine, IsSlim}
use Rattle.vcm_picture.specs.Ranges.{IsLayout}
use Rattle.vcm_svg.specs.Ranges.{IsSize}

-- how high the heading is
pub record IsTop (z : ℤ) : Type 0 where
  pub from_below : pos 0 ≤ℤ z
  pub from_above : z ≤ℤ pos 17179870000

pub top_of : (a b : ℤ) → IsLine a → IsSlim b → IsTop (a *ℤ b)
top_of (pos x) (pos y) h i =
    let p : x ≤ 1000 = omega (arith, ints, h.from_above) in
    let q : y ≤ 17179870 = omega (arith, ints, i.from_above) in
    let l : x * y ≤ 1000 * y = mul-le-mul_right y p in
    rw (pos-*ℤ-pos x y) (record { from_below = omega (arith, ints); from_above = omega (arith, ints) })
top_of (negsuc x) b h i = absurd (omega (arith, ints, h.from_below))
top_of (pos x) (negsuc y) h i = absurd (omega (arith, ints, i.from_below))

pub layout_small : (r : Layout) (u up wide deep high : ℤ) → r ≡ layout_with u up wide deep high → IsSlim u → IsLine up → IsSize wide → IsSize deep
    → IsSize high → IsLayout r
layout_small r u up wide deep high e h i w d g =
    let t : IsTop (up *ℤ u) = top_of up u i h in
    let a = t.from_below in
    let b = t.from_above in
    let p : IsLayout (layout_with u up wide deep high) = record {
      left = record { from_below = omega (arith, ints); from_above = omega (arith, ints) };
      top = record { from_below = omega (arith, ints, a, b); from_above = omega (arith, ints, a, b) };
      front = record { from_below = omega (arith, ints, a, b); from_above = omega (arith, ints, a, b) };
      side = record { from_below = omega (arith, ints); from_above = omega (arith, ints) };
      wide = record { from_below = omega (arith, ints); from_above = omega (arith, ints) };
      high = record { from_below = omega (arith, ints, a, b); from_above = omega (arith, ints, a, b) };
    } in
    rw e p

-- the bytes of a picture, as its steps give them
pub picture_made : (o m first : List ℕ) (part : Workpiece) (held : Held) (done : ℕ) (marks : List PlacedMark) (left_out : ℕ) (is_close : Bool) (untried : List (List ℕ)) (w : Window)
    (l : Layout) (up : ℤ) → o ≡ [] → m ≡ o ++ picture_of part held done marks left_out untried w l first → w ≡ window_round part held marks is_close
    → l ≡ layout_of w up → up ≡ above left_out untried → first ≡ first_line held.tables held.state.stop done
    → m ≡ picture_text (sheet part held done marks left_out is_close untried)
picture_made o m first part held done marks left_out is_close untried w l up a h b d e f =
    let laid : l ≡ layout_of (window_round part held marks is_close) (above left_out untried) =
    d ∙ ap (λ (v : Window). layout_of v up) b ∙ ap (λ (n : ℤ). layout_of (window_round part held marks is_close) n) e in
    h ∙ ap (λ (k : List ℕ). k ++ picture_of part held done marks left_out untried w l first) a
    ∙ ap (λ (v : Window). picture_of part held done marks left_out untried v l first) b
    ∙ ap (λ (v : Layout). picture_of part held done marks left_out untried (window_round part held marks is_close) v first) laid
    ∙ ap (λ (v : List ℕ). picture_of part held done marks left_out untried (window_round part held marks is_close)
    (layout_of (window_round part held marks is_close) (above left_out untried)) v) f

-- the bytes that were written are those of the picture
pub picture_written : {A : Type 0} (o n : Option (List ℕ)) (r : Result A PictureFault) (b d : List ℕ) → b ≡ d → IsPicture o n b r → IsPicture o n d r
picture_written o n r b d e h = subst (λ (k : List ℕ). IsPicture o n k r) e h

-- Lists one element after the other, as loops go over them.
use Rattle.std.proofs.Common.{◌≡◌, ℕ, ℤ, ◌+◌, ◌<◌, ◌≤◌, ◌==◌, List, ◌∷◌, ◌++◌, length, get_or, drop, sym, ap, ◌∙◌, arith, append_assoc, append-nil}
use Rattle.std.specs.Prelude.{flat_map}
use Rattle.std.specs.Int.{int_max}
use Rattle.std.proofs.lemmas.List.{drop_more, drop_all}
use Rattle.vcm_hardware.specs.declared.angle.Turning.{Turning}
use Rattle.vcm_hardware.specs.declared.description.Place.{Place}
use Rattle.vcm_hardware.specs.declared.description.Cylinder.{Cylinder}
use Rattle.vcm_hardware.specs.declared.description.Ball.{Ball}
use Rattle.vcm_hardware.specs.declared.description.Choice.{Choice}
use Rattle.vcm_hardware.specs.declared.swing.Reach.{Reach}
use Rattle.vcm_hardware.specs.Boxes.{part_boxes, parts_count}
use Rattle.vcm_hardware.specs.Swings.{farther_of, cylinder_reach, cylinders_reach, ball_reach, balls_reach}
use Rattle.vcm_hardware.specs.ProbeFile.{ball_text, balls_text, steps_of, most_steps}

-- the element here, and those behind it
cut : {X : Type 0} (xs : List X) (i : ℕ) (x : X) → i < length xs → get_or xs i x ≡ x → drop i xs ≡ x ∷ drop (i + 1) xs
cut xs i x lt at = drop_more xs i x lt ∙ ap (λ y. y ∷ drop (i + 1) xs) at

pub flat_more : {X : Type 0} (f : X → List ℕ) (xs : List X) (i : ℕ) (x : X) (o q total : List ℕ) → i < length xs → get_or xs i x ≡ x → o ++ flat_map f (drop i xs) ≡ total
    → q ≡ o ++ f x → q ++ flat_map f (drop (i + 1) xs) ≡ total
flat_more f xs i x o q total lt at so_far one =
    let rest = flat_map f (drop (i + 1) xs) in
    ap (λ l. l ++ rest) one ∙ append_assoc o (f x) rest ∙ ap (λ l. o ++ flat_map f l) (sym (cut xs i x lt at)) ∙ so_far

pub flat_all : {X : Type 0} (f : X → List ℕ) (xs : List X) (i : ℕ) (o total : List ℕ) → length xs ≤ i → o ++ flat_map f (drop i xs) ≡ total → o ≡ total
flat_all f xs i o total le so_far = sym (append-nil o) ∙ ap (λ l. o ++ flat_map f l) (sym (drop_all i xs le)) ∙ so_far

pub counted_part : (t : Turning) (tip : Place) (xs : List Cylinder) (i : ℕ) (x : Cylinder) (k r total : ℕ) → i < length xs → get_or xs i x ≡ x
    → k + parts_count t tip (drop i xs) ≡ total → r ≡ length (part_boxes t tip x) → (k + r) + parts_count t tip (drop (i + 1) xs) ≡ total
counted_part t tip xs i x k r total lt at so_far one =
    let more : parts_count t tip (drop i xs) ≡ length (part_boxes t tip x) + parts_count t tip (drop (i + 1) xs) = ap (parts_count t tip) (cut xs i x lt at) in
    omega (arith, more, so_far, one)

pub counted_parts : (t : Turning) (tip : Place) (xs : List Cylinder) (i : ℕ) (k total : ℕ) → length xs ≤ i → k + parts_count t tip (drop i xs) ≡ total → k ≡ total
counted_parts t tip xs i k total le so_far =
    let none : parts_count t tip (drop i xs) ≡ 0 = ap (parts_count t tip) (drop_all i xs le) in
    omega (arith, none, so_far)

pub cylinders_more : (xs : List Cylinder) (i : ℕ) (x : Cylinder) (all next : Reach) (total : Reach) → i < length xs → get_or xs i x ≡ x → cylinders_reach all (drop i xs) ≡ total
    → next ≡ farther_of all (cylinder_reach x) → cylinders_reach next (drop (i + 1) xs) ≡ total
cylinders_more xs i x all next total lt at so_far one =
    ap (λ (r : Reach). cylinders_reach r (drop (i + 1) xs)) one ∙ ap (cylinders_reach all) (sym (cut xs i x lt at)) ∙ so_far

pub cylinders_all : (xs : List Cylinder) (i : ℕ) (all total : Reach) → length xs ≤ i → cylinders_reach all (drop i xs) ≡ total → all ≡ total
cylinders_all xs i all total le so_far = ap (cylinders_reach all) (sym (drop_all i xs le)) ∙ so_far

pub balls_more : (xs : List Ball) (i : ℕ) (x : Ball) (all next : Reach) (total : Reach) → i < length xs → get_or xs i x ≡ x → balls_reach all (drop i xs) ≡ total
    → next ≡ farther_of all (ball_reach x) → balls_reach next (drop (i + 1) xs) ≡ total
balls_more xs i x all next total lt at so_far one =
    ap (λ (r : Reach). balls_reach r (drop (i + 1) xs)) one ∙ ap (balls_reach all) (sym (cut xs i x lt at)) ∙ so_far

pub balls_all : (xs : List Ball) (i : ℕ) (all total : Reach) → length xs ≤ i → balls_reach all (drop i xs) ≡ total → all ≡ total
balls_all xs i all total le so_far = ap (balls_reach all) (sym (drop_all i xs le)) ∙ so_far

pub ball_put : (t : Turning) (tip : Place) (own : ℕ) (xs : List Ball) (i : ℕ) (x : Ball) (o q total : List ℕ) → i < length xs → get_or xs i x ≡ x
    → o ++ balls_text t tip own i (drop i xs) ≡ total → q ≡ o ++ ball_text t tip (i == own) x → q ++ balls_text t tip own (i + 1) (drop (i + 1) xs) ≡ total
ball_put t tip own xs i x o q total lt at so_far one =
    let rest = balls_text t tip own (i + 1) (drop (i + 1) xs) in
    ap (λ l. l ++ rest) one ∙ append_assoc o (ball_text t tip (i == own) x) rest ∙ ap (λ l. o ++ balls_text t tip own i l) (sym (cut xs i x lt at)) ∙ so_far

pub balls_put : (t : Turning) (tip : Place) (own : ℕ) (xs : List Ball) (i : ℕ) (o total : List ℕ) → length xs ≤ i → o ++ balls_text t tip own i (drop i xs) ≡ total → o ≡ total
balls_put t tip own xs i o total le so_far = sym (append-nil o) ∙ ap (λ l. o ++ balls_text t tip own i l) (sym (drop_all i xs le)) ∙ so_far

pub steps_more : (xs : List Choice) (i : ℕ) (x : Choice) (most next : ℤ) (total : ℤ) → i < length xs → get_or xs i x ≡ x → most_steps most (drop i xs) ≡ total
    → next ≡ int_max most (steps_of x) → most_steps next (drop (i + 1) xs) ≡ total
steps_more xs i x most next total lt at so_far one =
    ap (λ (z : ℤ). most_steps z (drop (i + 1) xs)) one ∙ ap (most_steps most) (sym (cut xs i x lt at)) ∙ so_far

pub steps_all : (xs : List Choice) (i : ℕ) (most total : ℤ) → length xs ≤ i → most_steps most (drop i xs) ≡ total → most ≡ total
steps_all xs i most total le so_far = ap (most_steps most) (sym (drop_all i xs le)) ∙ so_far

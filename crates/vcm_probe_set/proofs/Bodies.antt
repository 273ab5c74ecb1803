-- Bodies one after the other, as a loop puts them together.
use Rattle.std.proofs.Common.{◌≡◌, ℕ, zero, suc, ◌+◌, ◌<◌, ◌≤◌, Bool, true, false, List, [], ◌∷◌, ◌++◌, length, get_or, take, drop, refl, sym, ap, ◌∙◌, arith}
use Rattle.std.specs.List.{list_all}
use Rattle.std.specs.Str.{bytes_eq}
use Rattle.std.proofs.lemmas.Bool.{and_parts, and_from}
use Rattle.std.proofs.lemmas.List.{drop_more, drop_all, take_more, append-nil}
use Rattle.vcm_spec.specs.declared.workpiece.Block3.{Block3}
use Rattle.vcm_boxes.specs.declared.boxes.ProbeBox.{ProbeBox}
use Rattle.vcm_boxes.specs.Boxes.{is_box, is_taken}
use Rattle.vcm_probe_set.specs.Bodies.{Body, IsBody, is_near_block, with_block, blocks_named, body_from, with_body, bodies_behind}

-- ---- the blocks of one name

pub fewer : (name : List ℕ) (bs : List ProbeBox) → length (blocks_named name bs) ≤ length bs
fewer name [] = omega arith
fewer name (b ∷ bs) = by (bytes_eq b.name name) (fewer name bs)
  where
    by : (t : Bool) → length (blocks_named name bs) ≤ length bs → length (with_block t b.block (blocks_named name bs)) ≤ suc (length bs)
    by true h = omega arith
    by false h = omega arith

pub near_each : (name : List ℕ) (bs : List ProbeBox) → list_all is_box bs ≡ true → list_all is_near_block (blocks_named name bs) ≡ true
near_each name [] h = refl
near_each name (b ∷ bs) h = by (bytes_eq b.name name) (and_parts (is_box b) (list_all is_box bs) h) (near_each name bs (and_parts (is_box b) (list_all is_box bs) h).1)
  where
    by : (t : Bool) → (is_box b ≡ true) × (list_all is_box bs ≡ true) → list_all is_near_block (blocks_named name bs) ≡ true
        → list_all is_near_block (with_block t b.block (blocks_named name bs)) ≡ true
    by true p k = and_from _ _ p.0 k
    by false p k = k

module _ (name : List ℕ) (bs : List ProbeBox) (i : ℕ) (front total : List Block3) (so_far : front ++ blocks_named name (drop i bs) ≡ total) where
  pub one_named : (b : ProbeBox) → i < length bs → get_or bs i b ≡ b → (new : List Block3)
      → ((rest : List Block3) → new ++ rest ≡ front ++ with_block (bytes_eq b.name name) b.block rest) → new ++ blocks_named name (drop (i + 1) bs) ≡ total
  one_named b lt at new h =
      let here : drop i bs ≡ b ∷ drop (i + 1) bs = drop_more bs i b lt ∙ ap (λ x. x ∷ drop (i + 1) bs) at in
      h (blocks_named name (drop (i + 1) bs)) ∙ ap (λ x. front ++ blocks_named name x) (sym here) ∙ so_far

  pub all_named : length bs ≤ i → front ≡ total
  all_named le = sym (append-nil front) ∙ ap (λ x. front ++ blocks_named name x) (sym (drop_all i bs le)) ∙ so_far

-- ---- a body stands where its first box does

module _ (front : List Body) (bs : List ProbeBox) (i : ℕ) (total : List Body) (so_far : front ++ bodies_behind (take i bs) (drop i bs) ≡ total) where
  module _ (b : ProbeBox) (lt : i < length bs) (at : get_or bs i b ≡ b) where
    here : drop i bs ≡ b ∷ drop (i + 1) bs
    here = drop_more bs i b lt ∙ ap (λ x. x ∷ drop (i + 1) bs) at

    above : take (i + 1) bs ≡ take i bs ++ b ∷ []
    above = take_more bs i b lt ∙ ap (λ x. take i bs ++ x ∷ []) at

    cut : front ++ with_body (is_taken b.name (take i bs)) (body_from b (drop (i + 1) bs)) (bodies_behind (take (i + 1) bs) (drop (i + 1) bs)) ≡ total
    unfolding bodies_behind
    cut = ap (λ x. front ++ with_body (is_taken b.name (take i bs)) (body_from b (drop (i + 1) bs)) (bodies_behind x (drop (i + 1) bs))) above
        ∙ ap (λ x. front ++ bodies_behind (take i bs) x) (sym here) ∙ so_far

    pub one_body : (new : List Body)
        → ((rest : List Body) → new ++ rest ≡ front ++ with_body (is_taken b.name (take i bs)) (body_from b (drop (i + 1) bs)) rest)
        → new ++ bodies_behind (take (i + 1) bs) (drop (i + 1) bs) ≡ total
    one_body new h = h (bodies_behind (take (i + 1) bs) (drop (i + 1) bs)) ∙ cut

  pub is_done : length bs ≤ i → front ≡ total
  unfolding bodies_behind
  is_done le = sym (append-nil front) ∙ ap (λ x. front ++ bodies_behind (take i bs) x) (sym (drop_all i bs le)) ∙ so_far

-- what is left of those that are boxes
all_drop : (bs : List ProbeBox) (i : ℕ) → list_all is_box bs ≡ true → list_all is_box (drop i bs) ≡ true
all_drop bs zero h = h
all_drop [] (suc i) h = refl
all_drop (x ∷ bs) (suc i) h = all_drop bs i (and_parts (is_box x) (list_all is_box bs) h).1

pub left_are : (bs : List ProbeBox) (i : ℕ) (b : ProbeBox) → i < length bs → get_or bs i b ≡ b → list_all is_box bs ≡ true → list_all is_box (b ∷ drop (i + 1) bs) ≡ true
left_are bs i b lt at h =
    let here : drop i bs ≡ b ∷ drop (i + 1) bs = drop_more bs i b lt ∙ ap (λ x. x ∷ drop (i + 1) bs) at in
    ap (list_all is_box) (sym here) ∙ all_drop bs i h

-- a body of boxes of one name
pub valid_from : (b : ProbeBox) (bs : List ProbeBox) → length bs < 64 → list_all is_box (b ∷ bs) ≡ true → IsBody (b.block ∷ blocks_named b.name bs)
valid_from b bs few h =
    let least : length (blocks_named b.name bs) ≤ length bs = fewer b.name bs in
    let parts : (is_box b ≡ true) × (list_all is_box bs ≡ true) = and_parts (is_box b) (list_all is_box bs) h in
    record {
      some = omega arith;
      few = omega arith;
      each = and_from _ _ parts.0 (near_each b.name bs parts.1);
    }

-- Rows and keys one after the other, as loops read them.
use Rattle.std.proofs.Common.{◌≡◌, ℕ, ◌+◌, ◌<◌, ◌≤◌, Bool, true, false, List, [], ◌∷◌, ◌++◌, length, get_or, drop, map, Option, Some, None, Result, Ok, Err}
use Rattle.std.proofs.Common.{String, Global, string_bytes, refl, sym, ◌∙◌}
use Rattle.std.specs.List.{list_all, list_any}
use Rattle.std.specs.Str.{bytes_eq}
use Rattle.std.proofs.lemmas.List.{drop_all}
use Rattle.std.proofs.lemmas.List.Folds.{list_all-append}
use Rattle.toml.specs.Data.{item}
use Rattle.toml.specs.View.{view, items_view, members_view}
use Rattle.toml.specs.declared.value.Value.{Value}
use Rattle.toml.proofs.Views.{items_view-drop}
use Rattle.vcm_boxes.specs.declared.boxes.ProbeBox.{ProbeBox}
use Rattle.vcm_boxes.specs.declared.fault.Refusal.{Refusal}
use Rattle.vcm_boxes.specs.declared.fault.BoxesFault.{BoxesFault}
use Rattle.vcm_boxes.specs.declared.fault.BoxesFault.TheVariants.{NoMemory, Refused}
use Rattle.vcm_boxes.specs.Boxes.{is_box}
use Rattle.vcm_boxes.specs.BoxFile.{unknown_key, box_of, boxes_behind}
use Rattle.vcm_boxes.specs.inner.Reads.{Fails}

-- ---- keys

module _ (known : List (List ℕ)) (e : String Global × Value) (es rest : List (String Global × Value)) (total : Option (List ℕ)) (left : es ≡ e ∷ rest)
    (so_far : unknown_key known (members_view es) ≡ total) where
  pub key_found : list_any (λ k. bytes_eq k (string_bytes e.0)) known ≡ false → Some (string_bytes e.0) ≡ total
  key_found none = (let one : unknown_key known (members_view es) ≡ Some (string_bytes e.0) = rw (left, none) refl in sym one ∙ so_far)

  pub key_known : list_any (λ k. bytes_eq k (string_bytes e.0)) known ≡ true → unknown_key known (members_view rest) ≡ total
  key_known one_of = (let one : unknown_key known (members_view es) ≡ unknown_key known (members_view rest) = rw (left, one_of) refl in sym one ∙ so_far)

-- ---- rows

module _ (front : List ProbeBox) (vs : List Value) (i : ℕ) (total : Result (List ProbeBox) Refusal) (so_far : boxes_behind front (items_view (drop i vs)) ≡ total) where
  module _ (v : Value) (lt : i < length vs) (at : get_or vs i v ≡ v) where
    here : items_view (drop i vs) ≡ item (view v) (items_view (drop (i + 1) vs))
    here = rw (items_view-drop vs i v lt, at) refl

    pub goes_on : (b : ProbeBox) → box_of front (view v) ≡ Ok b → boxes_behind (front ++ b ∷ []) (items_view (drop (i + 1) vs)) ≡ total
    unfolding boxes_behind
    goes_on b h =
        let one : boxes_behind front (items_view (drop i vs)) ≡ boxes_behind (front ++ b ∷ []) (items_view (drop (i + 1) vs)) = rw (here, h) refl in
        sym one ∙ so_far

    pub ends : (e : BoxesFault) → Fails e (box_of front (view v)) → Fails e total
    unfolding boxes_behind
    ends NoMemory h = tt
    ends (Refused r) h =
        let one : boxes_behind front (items_view (drop i vs)) ≡ Err r = rw (here, h) refl in
        sym so_far ∙ one

  pub is_done : length vs ≤ i → total ≡ Ok front
  unfolding boxes_behind
  is_done le =
      let one : boxes_behind front (items_view (drop i vs)) ≡ Ok front = rw (drop_all i vs le) refl in
      sym so_far ∙ one

-- one more that is a box
pub all_push : (bs : List ProbeBox) (b : ProbeBox) → list_all is_box bs ≡ true → is_box b ≡ true → list_all is_box (bs ++ b ∷ []) ≡ true
all_push bs b h k = rw (list_all-append, h) (rw k refl)

-- Rows one after the other, as loops read them.
use Rattle.std.proofs.Common.{◌≡◌, ℕ, ◌+◌, ◌<◌, ◌≤◌, true, List, [], ◌∷◌, ◌++◌, length, get_or, drop, Result, Ok, Err, refl, sym, ◌∙◌}
use Rattle.std.specs.List.{list_all}
use Rattle.std.proofs.lemmas.List.{drop_all}
use Rattle.std.proofs.lemmas.List.Folds.{list_all-append}
use Rattle.toml.specs.Data.{Data, item}
use Rattle.toml.specs.View.{view, items_view}
use Rattle.toml.specs.declared.value.Value.{Value}
use Rattle.toml.proofs.Views.{items_view-drop}
use Rattle.vcm_boxes.specs.declared.boxes.ProbeBox.{ProbeBox}
use Rattle.vcm_boxes.specs.Boxes.{is_box}
use Rattle.vcm_probe_set.specs.declared.fault.Refusal.{Refusal}
use Rattle.vcm_probe_set.specs.declared.fault.ProbeSetFault.{ProbeSetFault}
use Rattle.vcm_probe_set.specs.declared.fault.ProbeSetFault.TheVariants.{NoMemory, Refused}
use Rattle.vcm_probe_set.specs.ProbeFile.{rows_behind}
use Rattle.vcm_probe_set.specs.inner.Reads.{Fails}

module _ {X : Type 0} (read : List X → Data → Result X Refusal) (front : List X) (vs : List Value) (i : ℕ) (total : Result (List X) Refusal)
    (so_far : rows_behind read front (items_view (drop i vs)) ≡ total) where
  module _ (v : Value) (lt : i < length vs) (at : get_or vs i v ≡ v) where
    here : items_view (drop i vs) ≡ item (view v) (items_view (drop (i + 1) vs))
    here = rw (items_view-drop vs i v lt, at) refl

    pub goes_on : (x : X) → read front (view v) ≡ Ok x → rows_behind read (front ++ x ∷ []) (items_view (drop (i + 1) vs)) ≡ total
    unfolding rows_behind
    goes_on x h =
        let one : rows_behind read front (items_view (drop i vs)) ≡ rows_behind read (front ++ x ∷ []) (items_view (drop (i + 1) vs)) = rw (here, h) refl in
        sym one ∙ so_far

    pub ends : (e : ProbeSetFault) → Fails e (read front (view v)) → Fails e total
    unfolding rows_behind
    ends NoMemory h = tt
    ends (Refused r) h =
        let one : rows_behind read front (items_view (drop i vs)) ≡ Err r = rw (here, h) refl in
        sym so_far ∙ one

  pub is_done : length vs ≤ i → total ≡ Ok front
  unfolding rows_behind
  is_done le =
      let one : rows_behind read front (items_view (drop i vs)) ≡ Ok front = rw (drop_all i vs le) refl in
      sym so_far ∙ one

-- one more that is a box
pub all_push : (bs : List ProbeBox) (b : ProbeBox) → list_all is_box bs ≡ true → is_box b ≡ true → list_all is_box (bs ++ b ∷ []) ≡ true
all_push bs b h k = rw (list_all-append, h) (rw k refl)

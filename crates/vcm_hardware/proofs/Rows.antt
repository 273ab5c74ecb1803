-- Rows and keys one after the other, as loops read them.
use Rattle.std.proofs.Common.{◌≡◌, ℕ, ◌+◌, ◌<◌, ◌≤◌, true, false, List, [], ◌∷◌, ◌++◌, length, get_or, drop, Option, Some, Result, Ok, Err}
use Rattle.std.proofs.Common.{String, Global, string_bytes, refl, sym, ◌∙◌}
use Rattle.std.specs.List.{list_any}
use Rattle.std.specs.Str.{bytes_eq}
use Rattle.std.proofs.lemmas.List.{drop_all}
use Rattle.toml.specs.Data.{Data, item}
use Rattle.toml.specs.View.{view, items_view, members_view}
use Rattle.toml.specs.declared.value.Value.{Value}
use Rattle.toml.proofs.Views.{items_view-drop}
use Rattle.vcm_hardware.specs.declared.fault.Refusal.{Refusal}
use Rattle.vcm_hardware.specs.declared.fault.HardwareFault.{HardwareFault}
use Rattle.vcm_hardware.specs.declared.fault.HardwareFault.TheVariants.{NoMemory, Refused}
use Rattle.vcm_hardware.specs.HardwareFile.{unknown_key, all_behind}
use Rattle.vcm_hardware.specs.inner.Reads.{Fails}

-- ---- keys

module _ (known : List (List ℕ)) (e : String Global × Value) (es rest : List (String Global × Value)) (total : Option (List ℕ)) (left : es ≡ e ∷ rest)
    (so_far : unknown_key known (members_view es) ≡ total) where
  pub key_found : list_any (λ k. bytes_eq k (string_bytes e.0)) known ≡ false → Some (string_bytes e.0) ≡ total
  key_found none = (let one : unknown_key known (members_view es) ≡ Some (string_bytes e.0) = rw (left, none) refl in sym one ∙ so_far)

  pub key_known : list_any (λ k. bytes_eq k (string_bytes e.0)) known ≡ true → unknown_key known (members_view rest) ≡ total
  key_known one_of = (let one : unknown_key known (members_view es) ≡ unknown_key known (members_view rest) = rw (left, one_of) refl in sym one ∙ so_far)

-- ---- rows

module _ {X : Type 0} (read : List X → Data → Result X Refusal) (front : List X) (vs : List Value) (i : ℕ) (total : Result (List X) Refusal)
    (so_far : all_behind read front (items_view (drop i vs)) ≡ total) where
  module _ (v : Value) (lt : i < length vs) (at : get_or vs i v ≡ v) where
    here : items_view (drop i vs) ≡ item (view v) (items_view (drop (i + 1) vs))
    here = rw (items_view-drop vs i v lt, at) refl

    pub goes_on : (b : X) → read front (view v) ≡ Ok b → all_behind read (front ++ b ∷ []) (items_view (drop (i + 1) vs)) ≡ total
    unfolding all_behind
    goes_on b h =
        let one : all_behind read front (items_view (drop i vs)) ≡ all_behind read (front ++ b ∷ []) (items_view (drop (i + 1) vs)) = rw (here, h) refl in
        sym one ∙ so_far

    pub ends : (e : HardwareFault) → Fails e (read front (view v)) → Fails e total
    unfolding all_behind
    ends NoMemory h = tt
    ends (Refused r) h =
        let one : all_behind read front (items_view (drop i vs)) ≡ Err r = rw (here, h) refl in
        sym so_far ∙ one

  pub is_done : length vs ≤ i → total ≡ Ok front
  unfolding all_behind
  is_done le =
      let one : all_behind read front (items_view (drop i vs)) ≡ Ok front = rw (drop_all i vs le) refl in
      sym so_far ∙ one

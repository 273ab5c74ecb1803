-- A place has its own key; the laws of unused keys.
use Rattle.std.proofs.Common.{◌≡◌, ℕ, true, List, [], Option, Some, None, refl}
use Rattle.std.specs.List.{list_all}
use Rattle.std.proofs.lemmas.Bool.Decides.{Decides-eqb}
use Rattle.std.proofs.lemmas.Slice.Eq.{bytes_eq-Decides}
use Rattle.toml.specs.Data.{Members}
use Rattle.vcm_keys.specs.declared.place.KeyPlace.{KeyPlace}
use Rattle.vcm_keys.specs.Statements.{members_of}
use Rattle.vcm_keys.specs.Places.{places_of}
use Rattle.vcm_keys.specs.Unused.{unused_of_table, is_same_key, is_same, is_among, unused_keys}
use Rattle.vcm_keys.proofs.Told.{told_are_unused, unused_are_told}

same_key : (k : Option (List ℕ)) → is_same_key k k ≡ true
same_key None = refl
same_key (Some k) = (bytes_eq-Decides k k).1 refl

same_place : (p : KeyPlace) → is_same p p ≡ true
same_place p = rw ((Decides-eqb p.block p.block).1 refl) (same_key p.key)

pub told_sound : (text : List ℕ) (t : Members) → members_of text ≡ Some t → list_all (is_among (unused_of_table t)) (unused_keys text) ≡ true
unfolding unused_keys
told_sound text t e = rw e (told_are_unused is_same same_place (places_of text) _ (unused_of_table t))

pub told_complete : (text : List ℕ) (t : Members) → members_of text ≡ Some t → list_all (is_among (unused_keys text)) (unused_of_table t) ≡ true
unfolding unused_keys
told_complete text t e = rw e (unused_are_told is_same same_place _ [] (unused_of_table t))

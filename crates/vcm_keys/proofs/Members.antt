-- The first entry of a table, as the definitions see it.
use Rattle.std.proofs.Common.{◌≡◌, List, [], ◌∷◌, Some, None, String, Global, string_bytes, refl}
use Rattle.std.specs.Prelude.{slice_get}
use Rattle.toml.specs.View.{view, members_view}
use Rattle.toml.specs.declared.value.Value.{Value}
use Rattle.vcm_keys.specs.Statements.{first_member}

pub first_entry : (k : String Global) (v : Value) (es : List (String Global × Value)) → slice_get es 0 ≡ Some (k, v) → Some (string_bytes k, view v) ≡ first_member (members_view es)
first_entry k v [] h = absurd (let no_such : None ≡ Some (k, v) = h in cc)
first_entry k v (e ∷ es) h = (let same : e ≡ (k, v) = (let some : Some e ≡ Some (k, v) = h in cc) in rw same refl)

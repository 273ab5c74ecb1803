-- What is proved of the keys of part files.
use Rattle.std.specs.Prelude.{◌≡◌, ℕ, true, List, Some}
use Rattle.std.specs.List.{list_all}
use Rattle.toml.specs.Data.{Members}
use Rattle.vcm_keys.specs.Statements.{members_of}
use Rattle.vcm_keys.specs.Unused.{unused_of_table, is_among, unused_keys}

-- each key that is told is a key of the table that nothing uses
abbrev pub ToldAreUnused : Type 0
ToldAreUnused = (text : List ℕ) (t : Members) → members_of text ≡ Some t → list_all (is_among (unused_of_table t)) (unused_keys text) ≡ true

-- each key of the table that nothing uses is told
abbrev pub UnusedAreTold : Type 0
UnusedAreTold = (text : List ℕ) (t : Members) → members_of text ≡ Some t → list_all (is_among (unused_keys text)) (unused_of_table t) ≡ true

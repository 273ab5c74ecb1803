-- Lines of a listing that have a spelling.
use Rattle.std.specs.Prelude.{◌<◌, ◌^◌}
use Rattle.vcm_items.specs.NameBytes.{IsName}
use Rattle.vcm_code.specs.declared.version.Version.{Version}
use Rattle.vcm_fields.specs.inner.Fitting.{FitsEntry, FitsLine}
use Rattle.vcm_words.specs.declared.row.Row.TheVariants.{Head, Variable, Feature, Frame, Numbered}
use Rattle.vcm_words.specs.Rows.{ListRow}

-- which lines of a version have all their fields in range, so that they have a spelling
abbrev pub FitsRow : Version → ListRow → Type 0
FitsRow version (Head v) = Unit {0}
FitsRow version (Variable i v) = (i < 2 ^ 32) × FitsEntry v
FitsRow version (Feature i name) = (i < 2 ^ 32) × IsName name
FitsRow version (Frame i name) = (i < 2 ^ 32) × IsName name
FitsRow version (Numbered n s) = (n < 2 ^ 32) × FitsLine version s

-- The image of a code: bytes and code are one grammar.
use Rattle.std.specs.Prelude.{◌==◌, ◌||◌, ℕ, nat_le, Bool, List, ◌++◌, length, Result, Ok, Err, if◌then◌else◌}
use Rattle.std.specs.List.{flat_map}
use Rattle.std.specs.Int.{w16, w32}
use Rattle.vcm_code.specs.declared.version.Version.{Version}
use Rattle.vcm_code.specs.declared.version.Version.TheVariants.{One, Two}
use Rattle.vcm_code.specs.declared.code.Code.{Code}
use Rattle.vcm_fields.specs.declared.fault.ImageFault.{ImageFault}
use Rattle.vcm_fields.specs.declared.fault.ImageFault.TheVariants.{BadMagic, BadVersion, BadField, Trailing}
use Rattle.vcm_code.specs.Ranges.{IsInRange}
use Rattle.vcm_fields.specs.Widths.{HasWidths}
use Rattle.vcm_fields.specs.Spelling.{short, long, entry, name, line}
use Rattle.vcm_spec.specs.Results.{◌>>=◌}
use Rattle.vcm_fields.specs.Readers.{Reader, both, via, tested, after, times, number_at, entry_at, name_at, line_at}
use Rattle.vcm_image.specs.declared.counts.Counts.{Counts}
use Rattle.vcm_num.specs.declared.limits.TheConstants.{MOST_NAMES, MOST_STATEMENTS}

-- a code has an image: it is in range, and its fields have their widths
pub record FitsImage (c : Code) : Type 0 where
  pub range : IsInRange c
  pub widths : HasWidths c

-- the version, and how many variables, features, frames and statements there are
abbrev pub counts_of : Code → Counts
counts_of c =
    record {
      version = c.version;
      variables = length c.tables.variables;
      features = length c.tables.features;
      frames = length c.tables.frames;
      statements = length c.statements;
    }

-- `VCMI`, as a number of four bytes
abbrev pub magic : ℕ
magic = 1229800278

-- the number of a version
abbrev pub version_number : Version → ℕ
version_number One = 1
version_number Two = 2

-- the magic bytes, the version, and the numbers of variables, features, frames and statements
abbrev pub header : Counts → List ℕ
header n = long magic ++ (short (version_number n.version) ++ (short n.variables ++ (short n.features ++ (short n.frames ++ long n.statements))))

-- the one spelling of a code
abbrev pub spelling : Code → List ℕ
spelling c =
    header (counts_of c) ++ (flat_map entry c.tables.variables
    ++ (flat_map name c.tables.features ++ (flat_map name c.tables.frames ++ flat_map line c.statements)))

-- a number is this one
abbrev pub is_number : ℕ → ℕ → Bool
is_number m n = n == m

-- a number is not above this one
abbrev pub at_most : ℕ → ℕ → Bool
at_most m n = nat_le n m

-- a number of two bytes, not above a limit
abbrev pub count_at : ℕ → Reader ℕ
count_at limit = tested BadField (at_most limit) (number_at w16)

-- whether a number is that of a version
abbrev pub is_version : ℕ → Bool
is_version n = n == 1 || n == 2

-- the version with a number
abbrev pub version_of : ℕ → Version
version_of n = if n == 1 then One else Two

-- a version: a number of two bytes
abbrev pub version_at : Reader Version
version_at = via version_of (tested BadVersion is_version (number_at w16))

-- reading the header
unfoldable pub header_at : Reader Counts
header_at =
    via (λ h. record { version = h.1.0; variables = h.1.1.0; features = h.1.1.1.0; frames = h.1.1.1.1.0; statements = h.1.1.1.1.1 })
    (both (tested BadMagic (is_number magic) (number_at w32))
    (both version_at
    (both (count_at MOST_NAMES) (both (count_at MOST_NAMES) (both (count_at MOST_NAMES) (tested BadField (at_most MOST_STATEMENTS) (number_at w32)))))))

-- reading so many variables, features, frames and statements
unfoldable pub body_at : Counts → Reader Code
body_at n =
    via (λ c. record { version = n.version; tables = record { variables = c.0; features = c.1.0; frames = c.1.1.0 }; statements = c.1.1.1 })
    (both (times entry_at n.variables) (both (times name_at n.features) (both (times name_at n.frames) (times (line_at n.version) n.statements))))

-- no byte is left over
abbrev pub ended : {A : Type 0} → A × List ℕ → Result A ImageFault
ended x = if length x.1 == 0 then Ok x.0 else Err Trailing

-- reading an image: its code, or the first refusal from the front
unfoldable pub code_at : List ℕ → Result Code ImageFault
code_at bytes = after header_at body_at bytes >>= ended

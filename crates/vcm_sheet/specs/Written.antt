-- Names as a sheet writes them.
use Rattle.std.specs.Prelude.{ℕ, ◌-◌, nat_eq, nat_le, ◌&&◌, if◌then◌else◌, List, [], ◌∷◌, length, flat_map, unwrap_or, slice_get, codes}

-- a byte of a name: what an SVG reads otherwise is spelled out, and what isn't printable becomes a question mark
abbrev pub written_byte : ℕ → List ℕ
written_byte b =
    if nat_eq b 60 then codes "&lt;" else (if nat_eq b 38 then codes "&amp;" else (if nat_le 32 b && nat_le b 126 then b ∷ [] else codes "?"))

-- a name
abbrev pub written : List ℕ → List ℕ
written name = flat_map written_byte name

-- the name of a block, or nothing where it has none
abbrev pub name_of : List (List ℕ) → ℕ → List ℕ
name_of names block = unwrap_or (slice_get names (block - 1)) []

-- a blank before a name, if there is one
abbrev pub gap_before : List ℕ → List ℕ
gap_before name = if nat_eq (length name) 0 then [] else codes " "

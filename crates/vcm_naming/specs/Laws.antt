-- Statements about lines that name blocks. Each is a clause of a law in src/laws.rt.
use Rattle.std.specs.Prelude.{◌≡◌, List, [], flat_map}
use Rattle.vcm_naming.specs.Naming.{Line, named_text}

-- where no block has a name, nothing stands below any line
abbrev pub NothingIsAdded : Type 0
NothingIsAdded = (lines : List Line) → named_text [] lines ≡ flat_map (λ l. l.text) lines

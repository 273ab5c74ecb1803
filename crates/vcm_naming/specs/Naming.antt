-- Lines of a text that name blocks of a part, and the names of these blocks, each once.
use Rattle.std.specs.Prelude.{ℕ, ◌-◌, List, [], ◌∷◌, ◌++◌, slice_set, Option, Some, None, decimal, codes}
use Rattle.vcm_spec.specs.declared.stop.Stop.{Stop}
use Rattle.vcm_spec.specs.declared.stop.Stop.TheVariants.{Collision}
use Rattle.vcm_spec.specs.declared.stop.StopPlace.{StopPlace}
use Rattle.vcm_spec.specs.Setup.{Tables}
use Rattle.vcm_report.specs.Printed.{in_a_row, name_at, end_line}

-- a line, and the block that it names, counted from 1, if it names one
pub record Line : Type 0 where
  pub text : List ℕ
  pub block : Option ℕ

-- a line that names no block
abbrev pub plain : List ℕ → Line
plain text = record { text = text; block = None }

-- a line that names this block
abbrev pub about : ℕ → List ℕ → Line
about n text = record { text = text; block = Some n }

-- the line of a block's name, if it has one
abbrev pub name_text : ℕ → List ℕ → List ℕ
name_text n [] = []
name_text n (b ∷ bs) = in_a_row (codes "block " ∷ decimal n ∷ codes " is \"" ∷ (b ∷ bs) ∷ codes "\"\n" ∷ [])

-- what stands below a line that names this block or none: the block's name, if it is among these
abbrev pub name_below : List (List ℕ) → Option ℕ → List ℕ
name_below names None = []
name_below names (Some n) = name_text n (name_at names (n - 1))

-- the names that are left after that
abbrev pub left_below : List (List ℕ) → Option ℕ → List (List ℕ)
left_below names None = names
left_below names (Some n) = slice_set names (n - 1) []

-- lines, each name of a block directly below the first line that names the block
abbrev pub named_text : List (List ℕ) → List Line → List ℕ
named_text names [] = []
named_text names (l ∷ ls) = l.text ++ (name_below names l.block ++ named_text (left_below names l.block) ls)

-- the names that are left after lines
abbrev pub names_left : List (List ℕ) → List Line → List (List ℕ)
names_left names [] = names
names_left names (l ∷ ls) = names_left (left_below names l.block) ls

-- the block that a stop names: that of a collision
abbrev pub stop_block : Stop → Option ℕ
stop_block (Collision phase hit) = Some hit.block
stop_block _ = None

-- that of the stop of a run, if it came to one
abbrev pub block_at_end : Option StopPlace → Option ℕ
block_at_end None = None
block_at_end (Some p) = stop_block p.stop

-- how a run ended
abbrev pub last_line : Tables → Option StopPlace → ℕ → Line
last_line tables stop done = record { text = end_line tables stop done; block = block_at_end stop }

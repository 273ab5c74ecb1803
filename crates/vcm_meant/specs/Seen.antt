-- Which FEATs and which DOs were carried out, each once.
use Rattle.std.specs.Prelude.{ℕ, nat_eq, Bool, ◌&&◌, ◌||◌, if◌then◌else◌, List, [], ◌∷◌}
use Rattle.vcm_meant.specs.declared.seen.Seen.{Seen}

-- a statement of this line, with the index of the feature that it declares, or 0, and whether it was come by at some time: a FEAT whose feature was measured before
-- the next one, a DO that had a round
abbrev pub seen : (line feature : ℕ) → Bool → Seen
seen line feature is_met = record { line = line; feature = feature; is_met = is_met }

abbrev pub is_seen : (line feature : ℕ) → Seen → Bool
is_seen line feature s = nat_eq s.line line && nat_eq s.feature feature

-- the same, with what is known more of it
abbrev pub known_more : Seen → Bool → Seen
known_more s is_met = seen s.line s.feature (s.is_met || is_met)

-- with one more, or with what is known more of it
abbrev pub seen_with : (line feature : ℕ) → Bool → List Seen → List Seen
seen_with line feature is_met [] = seen line feature is_met ∷ []
seen_with line feature is_met (s ∷ ss) =
    if is_seen line feature s then known_more s is_met ∷ ss else s ∷ seen_with line feature is_met ss

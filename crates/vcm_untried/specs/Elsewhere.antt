-- Where the way begins on which a run stops.
use Rattle.std.specs.Prelude.{ℕ, ℤ, pos, Bool, true, false, not, ◌&&◌, if◌then◌else◌, List, [], ◌∷◌, slice_get, unwrap_or, is_some}
use Rattle.std.specs.Ordering.{int_eq}
use Rattle.vcm_spec.specs.Workpiece.{Workpiece}
use Rattle.vcm_spec.specs.declared.simple.Simple.TheVariants.{Goto, GoHome, PtMeas}
use Rattle.vcm_code.specs.Code.{Op}
use Rattle.vcm_code.specs.declared.op.Op.TheVariants.{Plain}
use Rattle.vcm_code.specs.declared.code.Code.{Code}
use Rattle.vcm_steps.specs.Passages.{Passage, passages}
use Rattle.vcm_untried.specs.declared.elsewhere.Standing.{Standing}
use Rattle.vcm_untried.specs.declared.elsewhere.Seen.{Seen}
use Rattle.vcm_untried.specs.Causes.{is_nought}

-- whether a statement sends the probe on a way
abbrev pub is_way : Op → Bool
is_way (Plain (Goto x y z)) = true
is_way (Plain GoHome) = true
is_way (Plain (PtMeas feature x y z toward)) = true
is_way o = false

-- the probe stands where the machine's does, as the variable says that carries it (6)
abbrev pub is_placed : List ℤ → Bool
is_placed vs = not (is_nought vs 6)

-- the number of the current frame, as the variable says that carries it (0)
abbrev pub frame_in : List ℤ → ℤ
frame_in vs = unwrap_or (slice_get vs 0) (pos 0)

-- what is seen of a state
abbrev pub seen_in : List ℤ → Seen
seen_in vs = record { is_placed = is_placed vs; frame = frame_in vs }

-- nothing is lost, and no frame was made
abbrev pub at_start : Standing
at_start = record { lost = 0; begun = 0; is_way = false; way = 0; frame = 0 }

-- the line behind whose statement the place of the probe isn't known: this one where it was known before it
abbrev pub lost_behind : ℕ → ℕ → (before after : Bool) → ℕ
lost_behind line lost true false = line
lost_behind line lost before after = lost

-- the same of the way that comes next: none behind a way; where the place is known again without one, that way begins elsewhere
abbrev pub begun_behind : Standing → (ways before after : Bool) → ℕ
begun_behind s true before after = 0
begun_behind s false false true = s.lost
begun_behind s false before after = s.begun

-- the same of the way on which the run stops
abbrev pub way_behind : Standing → Bool → ℕ
way_behind s true = s.begun
way_behind s false = 0

-- the line at which the current frame came to be that: this one where it is another one behind its statement
abbrev pub frame_behind : ℕ → ℕ → (before after : ℤ) → ℕ
frame_behind line frame before after = if int_eq before after then frame else line

-- what is known behind a statement on a line, which is a way or not, behind which the run has stopped or not
abbrev pub stands_behind : Standing → ℕ → (ways stops : Bool) → (before after : Seen) → Standing
stands_behind s line ways stops before after = record {
  lost = lost_behind line s.lost before.is_placed after.is_placed;
  begun = begun_behind s ways before.is_placed after.is_placed;
  is_way = ways && stops;
  way = way_behind s (ways && stops);
  frame = frame_behind line s.frame before.frame after.frame;
}

-- what is known behind one more step
abbrev pub standing_one : Standing → Passage → Standing
standing_one s p =
    stands_behind s p.statement.line (is_way p.statement.op) (is_some p.after.stop) (seen_in p.before.variables) (seen_in p.after.variables)

-- behind more steps
abbrev pub standing_behind : Standing → List Passage → Standing
standing_behind s [] = s
standing_behind s (p ∷ ps) = standing_behind (standing_one s p) ps

-- behind a run of at most n steps
abbrev pub standing_of : Workpiece → Code → ℕ → Standing
standing_of part c n = standing_behind at_start (passages part c n)

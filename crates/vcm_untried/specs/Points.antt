-- The points of a text that weren't tried.
use Rattle.std.specs.Prelude.{ℕ, zero, suc, nat_eq, if◌then◌else◌, List, slice_get, Option, Some, None}
use Rattle.vcm_spec.specs.declared.simple.Simple.TheVariants.{PtMeas}
use Rattle.vcm_code.specs.Code.{Op, CodeStatement}
use Rattle.vcm_code.specs.declared.op.Op.TheVariants.{Plain}

-- the feature that a statement touches, if it touches one
abbrev pub touched : Op → Option ℕ
touched (Plain (PtMeas feature x y z toward)) = Some feature
touched o = None

-- a feature, or else that of the statements in front
abbrev pub touched_or : Option ℕ → Option ℕ → Option ℕ
touched_or (Some feature) front = Some feature
touched_or None front = front

-- the feature of a statement, or else that of those in front of it, as long as they are of this line
abbrev pub point_at : ℕ → Option CodeStatement → Option ℕ → Option ℕ
point_at line None front = None
point_at line (Some s) front = if nat_eq s.line line then touched_or (touched s.op) front else None

-- the feature that the last of the first so many statements touches which touches one, where all from there on are of this line
abbrev pub point_before : List CodeStatement → ℕ → ℕ → Option ℕ
point_before statements line zero = None
point_before statements line (suc n) = point_at line (slice_get statements n) (point_before statements line n)

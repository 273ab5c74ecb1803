-- What is remarked of a measurement whose feature was declared: that its place lies far from that of the FEAT, that its direction is another one, and that it isn't
-- the first one since that FEAT.
use Rattle.std.specs.Prelude.{ℕ, ◌+◌, ◌*◌, nat_lt, nat_eq, Bool, true, false, ◌&&◌, if◌then◌else◌, List, [], ◌∷◌, ◌++◌, Option, Some, None}
use Rattle.std.specs.List.{list_any}
use Rattle.vcm_num.specs.declared.point.Point.{Point}
use Rattle.vcm_num.specs.Point.{coordinate}
use Rattle.vcm_spec.specs.declared.feature.Feature.{Feature}
use Rattle.vcm_spec.specs.Frame.{Frame, to_part}
use Rattle.vcm_spec.specs.Outcome.{Outcome, Gives, Stops, point_at}
use Rattle.vcm_trace.specs.Deviations.{apart, root_down, within_bits, is_same_axis}
use Rattle.vcm_way.specs.declared.task.Task.{Task}
use Rattle.vcm_way.specs.declared.task.Task.TheVariants.{Nowhere, Straight, Measure}
use Rattle.vcm_meant.specs.declared.remark.Remark.{Remark}
use Rattle.vcm_meant.specs.declared.remark.What.{What}
use Rattle.vcm_meant.specs.declared.remark.What.TheVariants.{Far, Turned, Again, Never, NoRound}

abbrev pub remark : (line : ℕ) → What → Remark
remark line what = record { line = line; what = what }

-- the place of a measurement in the part, which it was given in the current frame
abbrev pub place_in : Outcome Point → Option Point
place_in (Gives at) = Some at
place_in (Stops why) = None

abbrev pub aim_of : Task → Frame → Option Point
aim_of (Measure m) frame = place_in (point_at (to_part frame (coordinate m.nominal)))
aim_of Nowhere frame = None
aim_of (Straight to) frame = None

-- the sum of the squares of three lengths, if all have 64 bits
abbrev pub squares : Option ℕ → Option ℕ → Option ℕ → Option ℕ
squares None y z = None
squares (Some x) None z = None
squares (Some x) (Some y) None = None
squares (Some x) (Some y) (Some z) = Some (x * x + y * y + z * z)

-- the square of how far two places are from each other, if they are no farther than 64 bits along each axis
abbrev pub square_between : Point → Point → Option ℕ
square_between p q = squares (apart p q 0) (apart p q 1) (apart p q 2)

-- a measurement so far from the FEAT of this line, by the square of that, if it is farther than the approach distance
abbrev pub far_if : (line feature declared approach : ℕ) → Option ℕ → Option Remark
far_if line f k approach None = Some (remark line (Far f k None approach))
far_if line f k approach (Some s) = if nat_lt (approach * approach) s then Some (remark line (Far f k (within_bits (root_down s)) approach)) else None

-- the same of a measurement at this place, of a feature that was declared so in the current frame
abbrev pub far_from : (line feature declared approach : ℕ) → Option Feature → Option Point → Option Remark
far_from line f k approach None at = None
far_from line f k approach (Some nominal) None = None
far_from line f k approach (Some nominal) (Some at) = far_if line f k approach (square_between nominal.at at)

-- a measurement along another direction than that of the FEAT of this line, of a feature that was declared so in the current frame
abbrev pub turned_from : (line feature declared : ℕ) → Option Feature → Option Feature → Option Remark
turned_from line f k None actual = None
turned_from line f k (Some nominal) None = None
turned_from line f k (Some nominal) (Some actual) =
    if is_same_axis actual.toward nominal.toward then None else Some (remark line (Turned f actual.toward k nominal.toward))

-- a measurement that isn't the first one since the FEAT of this line
abbrev pub again_if : (line declared : ℕ) → Bool → Option Remark
again_if line k false = None
again_if line k true = Some (remark line (Again k))

-- what a remark is of
abbrev pub kind : What → ℕ
kind (Far f k far approach) = 0
kind (Turned f along k has) = 1
kind (Again k) = 2
kind (Never f) = 3
kind NoRound = 4

-- whether two remarks are of one kind and of one line
abbrev pub is_alike : Remark → Remark → Bool
is_alike r s = nat_eq r.line s.line && nat_eq (kind r.what) (kind s.what)

-- with one remark more, if there is none of its kind and its line
abbrev pub added : Option Remark → List Remark → List Remark
added None rs = rs
added (Some r) rs = if list_any (is_alike r) rs then rs else rs ++ r ∷ []

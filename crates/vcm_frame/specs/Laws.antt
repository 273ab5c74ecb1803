-- Statements about frames. Each is the contract of a law in src/laws.rt.
use Rattle.std.specs.Prelude.{◌≡◌, IsTrue}
use Rattle.vcm_num.specs.declared.point.Point.{Point}
use Rattle.vcm_num.specs.Point.{coordinate}
use Rattle.vcm_spec.specs.Frame.{Frame, is_turn, to_machine, to_part}
use Rattle.vcm_spec.specs.Outcome.{Gives, fits_place, point_of, point_at}

-- a point of the code: three coordinates, each a number of 64 bits
pub record IsPoint (p : Point) : Type 0 where
  pub three : p ≡ point_of (coordinate p)
  pub fit : IsTrue (fits_place (coordinate p))

-- where a point's machine coordinates fit, their part coordinates are that point
abbrev pub ThereAndBack : Type 0
ThereAndBack =
    (f : Frame) (p q : Point) → IsTrue (is_turn f.turn) → IsPoint p → point_at (to_machine f (coordinate p)) ≡ Gives q
    → point_at (to_part f (coordinate q)) ≡ Gives p

-- where a point's part coordinates fit, their machine coordinates are that point
abbrev pub BackAndThere : Type 0
BackAndThere =
    (f : Frame) (p q : Point) → IsTrue (is_turn f.turn) → IsPoint p → point_at (to_part f (coordinate p)) ≡ Gives q
    → point_at (to_machine f (coordinate q)) ≡ Gives p

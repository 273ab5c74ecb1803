-- Probes, one of which is chosen at a time.
use Rattle.std.specs.Prelude.{◌≡◌, ◌≤◌, ◌==◌, ◌&&◌, ℕ, Bool, true, false, List, [], ◌∷◌, length, Option, Some, None, IfSome}
use Rattle.std.specs.List.{list_all, list_any}
use Rattle.std.specs.Str.{bytes_eq}
use Rattle.vcm_num.specs.declared.point.Point.{Point}
use Rattle.vcm_num.specs.Point.{coordinate, is_below, is_near}
use Rattle.vcm_spec.specs.declared.workpiece.Block3.{Block3}
use Rattle.vcm_boxes.specs.Boxes.{is_corner}
use Rattle.vcm_probe_set.specs.Bodies.{Body}

-- a probe as it hangs when it is chosen: the value of the variable that chooses it, half the width of its tip where it has one of its own, the turning
-- centre of the head from the centre of the tip, the pose of the head where it has a name, and what moves along
pub record Probe : Type 0 where
  pub name : List ℕ
  pub number : ℕ
  pub tip : Option ℕ
  pub pivot : Point
  pub pose : Option (List ℕ)
  pub bodies : List Body

-- several probes: the variable that chooses one of them, where the pivot may go, and what holds all that turns, counted from the pivot
pub record Probes : Type 0 where
  pub variable : List ℕ
  pub travel : Option Block3
  pub probes : List Probe
  pub swing : List Body

-- a number from 1 to 999,999, a tip of at most 50,000, a pivot in range, and at most 64 bodies
pub record IsProbe (p : Probe) : Type 0 where
  pub from : 1 ≤ p.number
  pub to : p.number ≤ 999999
  pub tip : IfSome p.tip (λ h. h ≤ 50000)
  pub pivot : is_corner p.pivot ≡ true
  pub few : length p.bodies ≤ 64

-- whether a probe has the name, or the number
abbrev pub is_name_taken : List ℕ → List Probe → Bool
is_name_taken name ps = list_any (λ p. bytes_eq p.name name) ps

abbrev pub is_number_taken : ℕ → List Probe → Bool
is_number_taken number ps = list_any (λ p. p.number == number) ps

-- whether two poses are one: each has a name, and it is the same
abbrev pub is_one_pose : Option (List ℕ) → Option (List ℕ) → Bool
is_one_pose (Some a) (Some b) = bytes_eq a b
is_one_pose (Some a) None = false
is_one_pose None pose = false

-- whether any two of the probes have one pose, so that nothing turns between them
abbrev pub have_one_pose : List Probe → Bool
have_one_pose [] = true
have_one_pose (p ∷ ps) = list_all (λ q. is_one_pose p.pose q.pose) ps && have_one_pose ps

-- limits of the pivot: at most a kilometre from 0, and no coordinate of the low corner above the high one's
abbrev pub is_travel : Block3 → Bool
is_travel b = is_near b.low && is_near b.high && is_below (coordinate b.low) (coordinate b.high)

-- at most 64 probes, and at most 64 bodies of the swing, with the limits of the pivot in range
pub record AreProbes (s : Probes) : Type 0 where
  pub few : length s.probes ≤ 64
  pub swing : length s.swing ≤ 64
  pub travel : IfSome s.travel (λ b. is_travel b ≡ true)

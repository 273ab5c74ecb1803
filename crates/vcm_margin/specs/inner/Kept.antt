-- A run that is kept step by step, and what stands behind a step.
use Rattle.std.specs.Prelude.{◌≡◌, ℕ, zero, suc, ◌+◌, ◌<◌, ◌≤◌, List, [], ◌∷◌, ◌++◌, Option, Some, None}
use Rattle.vcm_spec.specs.declared.feature.Feature.{Feature}
use Rattle.vcm_spec.specs.declared.stop.StopPlace.{StopPlace}
use Rattle.vcm_spec.specs.Workpiece.{Workpiece}
use Rattle.vcm_code.specs.declared.code.Code.{Code}
use Rattle.vcm_code.specs.CodeTable.{CodeState}
use Rattle.vcm_margin.specs.declared.own.Behind.{Behind}
use Rattle.vcm_margin.specs.Alike.{reached, measures, actual_in}

-- what is told of a state behind a step that measured a feature or none is so
pub record Shows (which : Option ℕ) (b : Behind) (m : CodeState) : Type 0 where
  pub stop : b.stop ≡ m.world.stop
  pub next : b.next ≡ m.next
  pub point : (i : ℕ) → which ≡ Some i → b.point ≡ actual_in m i

-- the point of a step that measured a feature, none of another step
abbrev pub pointed : Option ℕ → Option Feature → List (Option Feature)
pointed None point = []
pointed (Some i) point = point ∷ []

-- how many steps ended without a stop, with one more behind them that ended with this stop or none
abbrev pub running_behind : ℕ → Option StopPlace → Option StopPlace → ℕ
running_behind running None None = suc running
running_behind running _ _ = running

-- the stop then
abbrev pub stop_behind : Option StopPlace → Option StopPlace → Option StopPlace
stop_behind None stop = stop
stop_behind (Some p) stop = Some p

-- behind a step with so many before it the stop is none as long as the run goes on, and then this one
pub record IsStop (is then_is : Option StopPlace) (before running : ℕ) : Type 0 where
  pub going : before < running → is ≡ None
  pub ended : running ≤ before → is ≡ then_is

-- the point of a feature, or of none
abbrev pub point_of : Option ℕ → CodeState → List (Option Feature)
point_of None m = []
point_of (Some i) m = actual_in m i ∷ []

module _ (part : Workpiece) (c : Code) where
  -- the statements that are next behind so many steps, from a step on
  abbrev pub nexts_from : ℕ → ℕ → List ℕ
  nexts_from k zero = []
  nexts_from k (suc n) = (reached part c (suc k)).next ∷ nexts_from (suc k) n

  -- the points that they measure
  abbrev pub points_from : ℕ → ℕ → List (Option Feature)
  points_from k zero = []
  points_from k (suc n) = point_of (measures c (reached part c k)) (reached part c (suc k)) ++ points_from (suc k) n

  -- behind each of so many steps, from a step on, the stop is none as long as the run goes on, and then this one
  abbrev pub AreStops : (k n running : ℕ) → Option StopPlace → Type 0
  AreStops k n running stop = (j : ℕ) → j < n → IsStop (reached part c (suc (k + j))).world.stop stop j running

  -- a run of so many steps that is kept from a step on
  pub record IsKept (k n : ℕ) (nexts : List ℕ) (points : List (Option Feature)) (running : ℕ) (stop : Option StopPlace) : Type 0 where
    pub nexts_are : nexts ≡ nexts_from k n
    pub points_are : points ≡ points_from k n
    pub stops_are : AreStops k n running stop

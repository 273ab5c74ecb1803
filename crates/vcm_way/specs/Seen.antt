-- Ways as the code has them.
use Rattle.std.specs.Prelude.{◌*◌, ◌<◌, ◌≤◌, ◌≡◌, IsTrue, Option, Some, None}
use Rattle.vcm_num.specs.Point.{is_near}
use Rattle.vcm_spec.specs.FirstContact.{Fraction, fraction}
use Rattle.vcm_way.specs.declared.gone.Gone.{Gone as Went}
use Rattle.vcm_way.specs.Gone.{Gone}

-- two fractions, neither of which is the greater one
pub record IsSame (f g : Fraction) : Type 0 where
  pub first : 0 < f.den
  pub second : 0 < g.den
  pub under : f.num * g.den ≤ g.num * f.den
  pub over : g.num * f.den ≤ f.num * g.den

-- a way of the code
abbrev pub seen : Went → Gone
seen w = record { going = w.going; from = w.way.from; to = w.way.to; gone = fraction w.way.gone.num w.way.gone.den }

-- the same way, of which as much was gone
pub record IsSameWay (v w : Gone) : Type 0 where
  pub going : v.going ≡ w.going
  pub from : v.from ≡ w.from
  pub to : v.to ≡ w.to
  pub gone : IsSame v.gone w.gone

-- the same way, or none
abbrev pub IsSameIfAny : Option Went → Option Gone → Type 0
IsSameIfAny None None = Unit {0}
IsSameIfAny (Some v) (Some w) = IsSameWay (seen v) w
IsSameIfAny _ _ = ⊥

-- both ends of a way are at most a kilometre from 0 on each axis
pub record IsNearWay (w : Gone) : Type 0 where
  pub from : IsTrue (is_near w.from)
  pub to : IsTrue (is_near w.to)

-- so it is, if there is one
abbrev pub IsNearIfAny : Option Gone → Type 0
IsNearIfAny None = Unit {0}
IsNearIfAny (Some w) = IsNearWay w

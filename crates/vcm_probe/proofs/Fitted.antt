-- Points whose coordinates are numbers of 64 bits.
use Rattle.std.proofs.Common.{◌≡◌, ℕ, ℤ, Bool, true, false, Option, Some, None, refl}
use Rattle.std.specs.Prelude.{if◌then◌else◌}
use Rattle.vcm_num.specs.Number.{fits_i64}
use Rattle.vcm_num.specs.Point.{point}
use Rattle.vcm_spec.specs.Outcome.{fits_place}
use Rattle.vcm_probe.specs.Places.{fitting, fitting_point}
use Rattle.std.proofs.lemmas.Bool.{and_from}

-- an option that is there where a test holds
pub record IsThere {A : Type 0} (b : Bool) (x y : A) : Type 0 where
  pub holds : b ≡ true
  pub same : x ≡ y

pub there : {A : Type 0} (b : Bool) (x y : A) → Some x ≡ (if b then Some y else None) → IsThere b x y
there true x y e = record { holds = refl; same = cc }
there false x y e = cc

pub not_there : {A : Type 0} (b : Bool) (y : A) (o : Option A) → o ≡ None → o ≡ (if b then Some y else None) → b ≡ false
not_there true y o e f = cc
not_there false y o e f = refl

-- the point of three coordinates that fit
pub point_fits : (h : ℕ → ℤ) (x y z : ℤ) → Some x ≡ fitting (h 0) → Some y ≡ fitting (h 1) → Some z ≡ fitting (h 2) → Some (point x y z) ≡ fitting_point h
point_fits h x y z e f g =
    let a = there (fits_i64 (h 0)) x (h 0) e in
    let b = there (fits_i64 (h 1)) y (h 1) f in
    let c = there (fits_i64 (h 2)) z (h 2) g in
    let fits : fits_place h ≡ true = and_from _ _ (and_from _ _ a.holds b.holds) c.holds in
    rw (a.same, b.same, c.same, fits) refl

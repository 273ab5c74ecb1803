-- What follows of steps that went well, and of those that didn't.
use Rattle.std.proofs.Common.{◌≡◌, ◌≢◌, Bool, true, false, Result, Ok, Err, refl}
use Rattle.std.specs.Prelude.{if◌then◌else◌}
use Rattle.vcm_part.specs.declared.fault.PartCode.TheVariants.{NoMemory}
use Rattle.vcm_part.specs.declared.fault.PartFault.{PartFault}
use Rattle.vcm_spec.specs.Results.{◌>>=◌}

-- both steps went well
pub record IsBoth {A B : Type 0} (r : Result A PartFault) (f : A → Result B PartFault) (b : B) : Type 0 where
  pub between : A
  pub first : r ≡ Ok between
  pub second : f between ≡ Ok b

pub both : {A B : Type 0} (r : Result A PartFault) (f : A → Result B PartFault) (b : B) → (r >>= f) ≡ Ok b → IsBoth r f b
both (Ok a) f b e = record { between = a; first = refl; second = e }
both (Err x) f b e = absurd (let no : Err x ≡ Ok b = e in cc)

-- a condition held
pub record IsKept {A : Type 0} (test : Bool) (a b : A) : Type 0 where
  pub held : test ≡ true
  pub is : a ≡ b

pub kept : {A : Type 0} (test : Bool) (a b : A) (x : PartFault) → (if test then Ok a else Err x) ≡ Ok b → IsKept test a b
kept true a b x e = record { held = refl; is = (let h : Ok a ≡ Ok b = e in cc) }
kept false a b x e = absurd (let no : Err x ≡ Ok b = e in cc)

-- no refusal is want of memory
abbrev pub TakesNone : {A : Type 0} → Result A PartFault → Type 0
TakesNone (Ok a) = Unit {0}
TakesNone (Err e) = e.code ≢ NoMemory

pub then_none : {A B : Type 0} (r : Result A PartFault) (f : A → Result B PartFault) → TakesNone r → ((a : A) → TakesNone (f a)) → TakesNone (r >>= f)
then_none (Ok a) f h k = k a
then_none (Err e) f h k = h

pub if_none : {A : Type 0} (test : Bool) (r s : Result A PartFault) → TakesNone r → TakesNone s → TakesNone (if test then r else s)
if_none true r s h k = h
if_none false r s h k = k

pub none_of : {A : Type 0} (r : Result A PartFault) (e : PartFault) → TakesNone r → r ≡ Err e → e.code ≢ NoMemory
none_of (Ok a) e h k = absurd (let no : Ok a ≡ Err e = k in cc)
none_of (Err x) e h k = λ m. h (let same : x ≡ e = cc in rw same m)

-- Nothing is hidden by the exit status of all.
use Rattle.std.proofs.Common.{◌≡◌, ℕ, suc, Bool, true, false, List, [], ◌∷◌, refl}
use Rattle.std.specs.Prelude.{nat_eq, if◌then◌else◌}
use Rattle.std.specs.List.{list_all}
use Rattle.vcm_judge.specs.declared.outcome.Outcome.{Outcome}
use Rattle.vcm_judge.specs.declared.outcome.Outcome.TheVariants.{Ended, NotAllTried, Stopped, OutOfSteps, Refused, NoMemory, Device}
use Rattle.vcm_judge.specs.Counting.{has_status, status, worst}

if_zero : (t : Bool) (n m : ℕ) → (if t then suc n else m) ≡ 0 → (t ≡ false) × (m ≡ 0)
if_zero true n m e = absurd (let no : suc n ≡ 0 = e in cc)
if_zero false n m e = (refl, e)

-- no program has one of these exit statuses
record HasNone (os : List Outcome) : Type 0 where
  six : has_status 6 os ≡ false
  five : has_status 5 os ≡ false
  one : has_status 1 os ≡ false
  three : has_status 3 os ≡ false
  four : has_status 4 os ≡ false
  seven : has_status 7 os ≡ false

none_of : (os : List Outcome) → worst os ≡ 0 → HasNone os
none_of os e =
    let six = if_zero (has_status 6 os) 5 _ e in
    let five = if_zero (has_status 5 os) 4 _ six.1 in
    let one = if_zero (has_status 1 os) 0 _ five.1 in
    let three = if_zero (has_status 3 os) 2 _ one.1 in
    let four = if_zero (has_status 4 os) 3 _ three.1 in
    let seven = if_zero (has_status 7 os) 6 _ four.1 in
    record { six = six.0; five = five.0; one = one.0; three = three.0; four = four.0; seven = seven.0 }

all_well : (os : List Outcome) → HasNone os → list_all (λ o. nat_eq (status o) 0) os ≡ true
all_well [] h = refl
all_well (Ended ∷ os) h = all_well os (record { six = h.six; five = h.five; one = h.one; three = h.three; four = h.four; seven = h.seven })
all_well (NotAllTried ∷ os) h = absurd (let no : true ≡ false = h.seven in cc)
all_well (Stopped ∷ os) h = absurd (let no : true ≡ false = h.three in cc)
all_well (OutOfSteps ∷ os) h = absurd (let no : true ≡ false = h.four in cc)
all_well (Refused ∷ os) h = absurd (let no : true ≡ false = h.one in cc)
all_well (NoMemory ∷ os) h = absurd (let no : true ≡ false = h.five in cc)
all_well (Device ∷ os) h = absurd (let no : true ≡ false = h.six in cc)

pub none_hidden : (os : List Outcome) → worst os ≡ 0 → list_all (λ o. nat_eq (status o) 0) os ≡ true
none_hidden os e = all_well os (none_of os e)

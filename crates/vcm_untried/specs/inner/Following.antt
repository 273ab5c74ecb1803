-- What is counted while a run is followed.
use Rattle.std.specs.Prelude.{◌≡◌, ◌<◌, ◌+◌, ◌-◌, ◌^◌, ℕ, zero, suc, min, nat_lt, if◌then◌else◌, List, [], ◌∷◌, length, map, slice_get, slice_set, unwrap_or, Option}
use Rattle.vcm_remarks.specs.declared.remark.NumberedRemark.{NumberedRemark}
use Rattle.vcm_steps.specs.Passages.{Passage}
use Rattle.vcm_untried.specs.declared.counting.Progress.{Progress}
use Rattle.vcm_untried.specs.Times.{times}
use Rattle.vcm_untried.specs.Telling.{shown, remark_on, told_of}

-- the values of a function from a number on, so many
abbrev pub ranged : {A : Type 0} → (ℕ → A) → ℕ → ℕ → List A
ranged f start zero = []
ranged f start (suc k) = f start ∷ ranged f (suc start) k

-- the remark on each of so many statements
abbrev pub tabled : List NumberedRemark → ℕ → List (Option NumberedRemark)
tabled remarks k = ranged (remark_on remarks) 0 k

-- what stands at a place, or 0
abbrev pub reading : List ℕ → ℕ → ℕ
reading counts at = unwrap_or (slice_get counts at) 0

-- what stands at the places of remarks
abbrev pub readings : List ℕ → List NumberedRemark → List ℕ
readings counts remarks = map (λ r. reading counts r.number) remarks

-- one more at a place
abbrev pub one_more_at : List ℕ → ℕ → List ℕ
one_more_at counts at = if nat_lt at (length counts) then slice_set counts at (min (reading counts at + 1) (2 ^ 64 - 1)) else counts

-- all steps are of one of so many statements
abbrev pub AreWithin : ℕ → List Passage → Type 0
AreWithin k [] = Unit {0}
AreWithin k (p ∷ ps) = (p.number < k) × AreWithin k ps

-- these steps were counted: each of so many statements, and what is reported
pub record IsKept (remarks : List NumberedRemark) (k : ℕ) (ps : List Passage) (x : Progress) : Type 0 where
  pub taken : x.taken.items ≡ ranged (times ps) 0 k
  pub told : shown x.told ≡ told_of remarks ps

-- no step was counted
abbrev pub IsOpening : List NumberedRemark → ℕ → Progress → Type 0
IsOpening remarks k x = IsKept remarks k [] x

-- what a follower counts by, and what it is handed
pub record IsCounting (remarks : List NumberedRemark) (table : List (Option NumberedRemark)) (from : Progress) (ps : List Passage) : Type 0 where
  pub table_is : table ≡ tabled remarks (length table)
  pub opening : IsOpening remarks (length table) from
  pub short : length ps < 2 ^ 64
  pub within : AreWithin (length table) ps

-- these steps were counted, if they may be
abbrev pub HasCounted : List NumberedRemark → List (Option NumberedRemark) → Progress → Progress → List Passage → Type 0
HasCounted remarks table from to ps = IsCounting remarks table from ps → IsKept remarks (length table) ps to

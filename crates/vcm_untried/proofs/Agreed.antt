-- The counts of statements, and the number of steps.
use Rattle.std.proofs.Common.{◌≡◌, ℕ, ◌+◌, Bool, true, false, nat_eq, List, [], ◌∷◌, Some, refl, ap, ◌∙◌, subst, arith}
use Rattle.std.specs.Prelude.{if◌then◌else◌}
use Rattle.vcm_remarks.specs.declared.remark.NumberedRemark.{NumberedRemark}
use Rattle.vcm_steps.specs.Passages.{Passage}
use Rattle.vcm_untried.specs.Times.{times}
use Rattle.vcm_untried.specs.Telling.{remark_on}
use Rattle.vcm_untried.specs.Laws.{says_untried, is_untried_on, IsNew, AreSingle, untried_times, CountsAgree}
use Rattle.vcm_untried.proofs.Sorted.{eq_sym}

-- how many remarks on this statement say that a motion isn't tried
abbrev one_in : ℕ → List NumberedRemark → ℕ
one_in number [] = 0
one_in number (r ∷ remarks) = (if says_untried r.remark then (if nat_eq number r.number then 1 else 0) else 0) + one_in number remarks

-- a step more
step_more : (p : Passage) (ps : List Passage) (remarks : List NumberedRemark) → untried_times (p ∷ ps) remarks ≡ one_in p.number remarks + untried_times ps remarks
step_more p ps [] = refl
step_more p ps (r ∷ remarks) = by (says_untried r.remark) (step_more p ps remarks)
  where
    by : (b : Bool) → untried_times (p ∷ ps) remarks ≡ one_in p.number remarks + untried_times ps remarks
        → (if b then times (p ∷ ps) r.number else 0) + untried_times (p ∷ ps) remarks
        ≡ ((if b then (if nat_eq p.number r.number then 1 else 0) else 0) + one_in p.number remarks) + ((if b then times ps r.number else 0) + untried_times ps remarks)
    by true next = omega (arith, next)
    by false next = omega (arith, next)

none_new : (number : ℕ) (remarks : List NumberedRemark) → IsNew number remarks → one_in number remarks ≡ 0
none_new number [] h = refl
none_new number (r ∷ remarks) h = by (says_untried r.remark) (none_new number remarks h.1)
  where
    other : nat_eq number r.number ≡ false
    other = eq_sym number r.number ∙ h.0

    by : (b : Bool) → one_in number remarks ≡ 0 → (if b then (if nat_eq number r.number then 1 else 0) else 0) + one_in number remarks ≡ 0
    by true next = ap (λ c. (if c then 1 else 0) + one_in number remarks) other ∙ omega (arith, next)
    by false next = omega (arith, next)

-- a statement has one remark, or none
one_is : (number : ℕ) (remarks : List NumberedRemark) → AreSingle remarks → one_in number remarks ≡ (if is_untried_on (remark_on remarks number) then 1 else 0)
one_is number [] h = refl
one_is number (r ∷ remarks) h = by (nat_eq r.number number) refl (one_is number remarks h.1)
  where
    here : nat_eq r.number number ≡ true → (b : Bool)
        → (if b then (if nat_eq number r.number then 1 else 0) else 0) + one_in number remarks ≡ (if b then 1 else 0)
    here e true =
        let q : r.number ≡ number = grind (arith, e) in
        let none = none_new number remarks (subst (λ n. IsNew n remarks) q h.0) in
        ap (λ c. (if c then 1 else 0) + one_in number remarks) (eq_sym number r.number ∙ e) ∙ omega (arith, none)
    here e false =
        let q : r.number ≡ number = grind (arith, e) in
        let none = none_new number remarks (subst (λ n. IsNew n remarks) q h.0) in
        omega (arith, none)

    there : nat_eq r.number number ≡ false → (b : Bool)
        → (if b then (if nat_eq number r.number then 1 else 0) else 0) + one_in number remarks ≡ one_in number remarks
    there e true = ap (λ c. (if c then 1 else 0) + one_in number remarks) (eq_sym number r.number ∙ e) ∙ omega arith
    there e false = omega arith

    by : (b : Bool) → nat_eq r.number number ≡ b → one_in number remarks ≡ (if is_untried_on (remark_on remarks number) then 1 else 0)
        → (if says_untried r.remark then (if nat_eq number r.number then 1 else 0) else 0) + one_in number remarks
        ≡ (if is_untried_on (if b then Some r else remark_on remarks number) then 1 else 0)
    by true e next = here e (says_untried r.remark)
    by false e next = there e (says_untried r.remark) ∙ next

no_steps : (remarks : List NumberedRemark) → untried_times [] remarks ≡ 0
no_steps [] = refl
no_steps (r ∷ remarks) = by (says_untried r.remark) (no_steps remarks)
  where
    by : (b : Bool) → untried_times [] remarks ≡ 0 → (if b then 0 else 0) + untried_times [] remarks ≡ 0
    by true next = omega (arith, next)
    by false next = omega (arith, next)

pub counts_agree : CountsAgree
counts_agree remarks [] single = no_steps remarks
counts_agree remarks (p ∷ ps) single =
    let next = counts_agree remarks ps single in
    let one = one_is p.number remarks single in
    step_more p ps remarks ∙ ap (λ n. n + untried_times ps remarks) one
    ∙ ap (λ n. (if is_untried_on (remark_on remarks p.number) then 1 else 0) + n) next

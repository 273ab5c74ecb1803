-- An expanded program has no more than 20,000 statements.
use Rattle.std.proofs.Common.{◌≡◌, ℕ, ◌+◌, ◌≤◌, Bool, true, false, ◌&&◌, ◌||◌, not, List, [], ◌∷◌, ◌++◌, length, refl, sym, ap, subst, append_assoc, arith}
use Rattle.std.specs.Prelude.{IsTrue, nat_lt}
use Rattle.vcm_lines.specs.declared.fault.FaultCode.{FaultCode}
use Rattle.vcm_lines.specs.declared.fault.FaultCode.TheVariants.{TooDeep, TooLong}
use Rattle.vcm_spec.specs.Phase.{IsClean}
use Rattle.vcm_forms.specs.declared.statement.Statement.{Statement}
use Rattle.vcm_macro.specs.declared.placed.Placed.{Placed}
use Rattle.vcm_macro.specs.Expansion.{IsExpanded}
use Rattle.vcm_macro.specs.Rules.{one_if, is_full, weight, weigh, code_if, called_codes, BreaksBehind, BreaksMacros}
use Rattle.vcm_substitution.specs.Kept.{is_kept}
use Rattle.vcm_substitution.specs.Sizes.{are_small}
use Rattle.vcm_macro.specs.Walk.{Visit, Opens, Inside, Stands, Misplaced, Calls, walk}
use Rattle.vcm_macro.proofs.CodesAt.{told_first}
use Rattle.vcm_macro.proofs.Phases.{kept_few}
use Rattle.vcm_macro.proofs.Walks.{weigh_append}
use Rattle.vcm_tree.proofs.Cutting.{place}

-- places that break no rule, one by one, behind others that count so much
abbrev FineFrom : ℕ → List Visit → Type 0
FineFrom n [] = Unit {0}
FineFrom n (p ∷ ps) = ((code : FaultCode) → BreaksBehind n p code → ⊥) × FineFrom (n + weight p) ps

fine_from : (before ps : List Visit) → IsClean BreaksMacros (before ++ ps) → FineFrom (weigh before) ps
fine_from before [] clean = tt
fine_from before (p ∷ ps) clean =
    let q = place before p ps in
    let rest = fine_from (before ++ p ∷ []) ps (subst (IsClean BreaksMacros) (sym (append_assoc before (p ∷ []) ps)) clean) in
    let w : weigh (before ++ p ∷ []) ≡ weigh before + (weight p + 0) = weigh_append before (p ∷ []) in
    let more : weigh (before ++ p ∷ []) ≡ weigh before + weight p = omega (arith, w) in
    ((λ code b. clean.unbroken (length before) code (let l = q.2 in omega arith) (rw (q.0, q.1) b)), subst (λ (n : ℕ). FineFrom n ps) more rest)

-- there is room for one more
room : (n : ℕ) → (IsTrue (is_full n) → ⊥) → n + 1 ≤ 20000
room n none = by (is_full n) refl
  where
    by : (b : Bool) → is_full n ≡ b → n + 1 ≤ 20000
    by true e = absurd (none e)
    by false e = grind (arith, e)

or_right : (b c : Bool) → c ≡ true → (b || c) ≡ true
or_right true c e = refl
or_right false c e = e

few_one : (n : ℕ) (p : Visit) → n ≤ 20000 → ((code : FaultCode) → BreaksBehind n p code → ⊥) → n + weight p ≤ 20000
few_one n (Opens ms s) le f = omega (arith, le)
few_one n (Inside m s) le f = omega (arith, le)
few_one n (Stands e s) le f = by (is_kept s.form) refl
  where
    by : (b : Bool) → is_kept s.form ≡ b → n + one_if (is_kept s.form) ≤ 20000
    by true k = rw k (room n (λ full. f TooLong (told_first (is_kept s.form && is_full n) TooLong (code_if (not (are_small s.form)) TooDeep) (rw k full))))
    by false k = rw k (omega (arith, le))
few_one n (Misplaced line) le f = omega (arith, le)
few_one n (Calls line depth m args) le f = room n (λ full. f TooLong (told_first (nat_lt 16 depth || is_full n) TooLong (called_codes m args) (or_right (nat_lt 16 depth) (is_full n) full)))

few_from : (n : ℕ) (ps : List Visit) → n ≤ 20000 → FineFrom n ps → n + weigh ps ≤ 20000
few_from n [] le f = omega (arith, le)
few_from n (p ∷ ps) le f =
    let rest = few_from (n + weight p) ps (few_one n p le f.0) f.1 in
    omega (arith, rest)

-- what counts is at most 20,000, and so is what is left of it
pub few_all : (ss : List Statement) (all : List Placed) → IsExpanded ss all → length all ≤ 20000
few_all ss all x =
    let w = few_from 0 (walk ss) (omega arith) (fine_from [] (walk ss) x.macros) in
    let k = kept_few (walk ss) in
    let l = ap (λ (ps : List Placed). length ps) x.is in
    omega (arith, w, k, l)

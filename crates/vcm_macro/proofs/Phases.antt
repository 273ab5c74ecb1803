-- From the walk taken in parts to the first fault of a phase.
use Rattle.std.proofs.Common.{◌≡◌, ℕ, zero, suc, ◌+◌, ◌<◌, ◌≤◌, List, [], ◌∷◌, ◌++◌, length, take, Option, Some, None, refl, ap, ◌∙◌, inl, inr, arith, subst}
use Rattle.std.specs.List.{slice_get}
use Rattle.std.specs.Prelude.{Bool, true, false, if◌then◌else◌}
use Rattle.std.proofs.lemmas.List.{append-nil}
use Rattle.vcm_macro.specs.declared.placed.Placed.{Placed}
use Rattle.vcm_forms.specs.declared.statement.Statement.{Statement}
use Rattle.vcm_lines.specs.declared.fault.FaultCode.{FaultCode}
use Rattle.vcm_lines.specs.declared.fault.SourceFault.{SourceFault}
use Rattle.vcm_spec.specs.Phase.{IsClean, FirstFault}
use Rattle.vcm_macro.specs.Walk.{Visit, Opens, Inside, Stands, Misplaced, Calls, walk}
use Rattle.vcm_macro.specs.Rules.{BreaksMacros, macros_line, line_at, codes_at, weight, weigh, kept, one_if}
use Rattle.vcm_substitution.specs.Kept.{is_kept}
use Rattle.vcm_macro.proofs.CodesAt.{breaks_so, fine_so}
use Rattle.vcm_macro.specs.declared.text.Reading.{Reading}
use Rattle.vcm_macro.specs.inner.Reading.{nothing, walk_of, IsReadTo}
use Rattle.vcm_macro.specs.inner.Expanding.{Walked, AreFine, IsFine, TellsLeftmost, TellsFirst}

-- the k-th place breaks no rule
fine_at : (n : ℕ) (ps : List Visit) (k : ℕ) (p : Visit) → AreFine n ps → slice_get ps k ≡ Some p → IsFine (n + weigh (take k ps)) p
fine_at n [] k p f e = absurd cc
fine_at n (q ∷ ps) zero p f e =
    let same : q ≡ p = cc in
    let m : n + 0 ≡ n = omega arith in
    rw m (subst (λ (r : Visit). IsFine n r) same f.0)
fine_at n (q ∷ ps) (suc k) p f e =
    let m : n + (weight q + weigh (take k ps)) ≡ (n + weight q) + weigh (take k ps) = omega arith in
    rw m (fine_at (n + weight q) ps k p f.1 e)

from_zero : (n : ℕ) (p : Visit) → IsFine (0 + n) p → IsFine n p
from_zero n p f = let m : 0 + n ≡ n = omega arith in subst (λ (k : ℕ). IsFine k p) m f

told_from_zero : (n : ℕ) (p : Visit) (f : SourceFault) → TellsLeftmost (line_at p) (codes_at (0 + n) p) f → TellsLeftmost (line_at p) (codes_at n p) f
told_from_zero n p f t = let m : 0 + n ≡ n = omega arith in subst (λ (k : ℕ). TellsLeftmost (line_at p) (codes_at k p) f) m t

clean_by : (ps : List Visit) (k : ℕ) (o : Option Visit) (code : FaultCode) → AreFine 0 ps → slice_get ps k ≡ o → BreaksMacros (take k ps) o code → ⊥
clean_by ps k None code f e b = b
clean_by ps k (Some p) code f e b = fine_so (weigh (take k ps)) p (from_zero (weigh (take k ps)) p (fine_at 0 ps k p f e)) code b

-- places that break no rule are a walk that breaks none
pub all_clean : (ps : List Visit) → AreFine 0 ps → IsClean BreaksMacros ps
all_clean ps f = record { unbroken = λ k code lt b. clean_by ps k (slice_get ps k) code f refl b }

-- where the first fault is told, and that it is the first
record Told (n : ℕ) (ps : List Visit) (f : SourceFault) : Type 0 where
  pub place : ℕ
  pub at_place : Visit
  pub within : place ≤ length ps
  pub is : slice_get ps place ≡ Some at_place
  pub fine : (k : ℕ) (p : Visit) → k < place → slice_get ps k ≡ Some p → IsFine (n + weigh (take k ps)) p
  pub tells : TellsLeftmost (line_at at_place) (codes_at (n + weigh (take place ps)) at_place) f

fine_first : (n : ℕ) (p q : Visit) → IsFine n p → p ≡ q → IsFine (n + 0) q
fine_first n p q f e =
    let m : n + 0 ≡ n = omega arith in
    rw m (subst (λ (r : Visit). IsFine n r) e f)

fine_cons : (n : ℕ) (p : Visit) (ps : List Visit) (place : ℕ) → IsFine n p
    → ((k : ℕ) (q : Visit) → k < place → slice_get ps k ≡ Some q → IsFine ((n + weight p) + weigh (take k ps)) q)
    → (k : ℕ) (q : Visit) → k < suc place → slice_get (p ∷ ps) k ≡ Some q → IsFine (n + weigh (take k (p ∷ ps))) q
fine_cons n p ps place f g zero q lt e = let same : p ≡ q = cc in fine_first n p q f same
fine_cons n p ps place f g (suc k) q lt e =
    let m : n + (weight p + weigh (take k ps)) ≡ (n + weight p) + weigh (take k ps) = omega arith in
    rw m (g k q (omega (arith, lt)) e)

told_cons : (n : ℕ) (p : Visit) (ps : List Visit) (f : SourceFault) → IsFine n p → Told (n + weight p) ps f → Told n (p ∷ ps) f
told_cons n p ps f here h =
    let m : n + (weight p + weigh (take h.place ps)) ≡ (n + weight p) + weigh (take h.place ps) = omega arith in
    record {
      place = suc h.place;
      at_place = h.at_place;
      within = omega (arith, h.within);
      is = h.is;
      fine = fine_cons n p ps h.place here h.fine;
      tells = rw m h.tells;
    }

told : (n : ℕ) (ps : List Visit) (f : SourceFault) → TellsFirst n ps f → Told n ps f
told n [] f t = absurd t
told n (p ∷ ps) f (inl t) =
    let m : n + 0 ≡ n = omega arith in
    record { place = 0; at_place = p; within = omega arith; is = refl; fine = λ k q lt e. absurd (omega (arith, lt)); tells = rw m t }
told n (p ∷ ps) f (inr t) = told_cons n p ps f t.0 (told (n + weight p) ps f t.1)

below_by : (ps : List Visit) (k : ℕ) (o : Option Visit) (code : FaultCode) → ((p : Visit) → slice_get ps k ≡ Some p → IsFine (weigh (take k ps)) p) → slice_get ps k ≡ o
    → BreaksMacros (take k ps) o code → ⊥
below_by ps k None code f e b = b
below_by ps k (Some p) code f e b = fine_so (weigh (take k ps)) p (f p e) code b

first_by : (ps : List Visit) (f : SourceFault) → Told 0 ps f → FirstFault BreaksMacros macros_line ps f.code f.line
first_by ps f h =
    let t = told_from_zero (weigh (take h.place ps)) h.at_place f h.tells in
    record {
      place = h.place;
      within = h.within;
      clean = record { unbroken = λ k code lt b. below_by ps k (slice_get ps k) code (λ p e. from_zero (weigh (take k ps)) p (h.fine k p lt e)) refl b };
      broken = rw h.is (breaks_so (weigh (take h.place ps)) h.at_place f.code t.0);
      told = rw h.is t.1;
    }

-- the first of the places that breaks a rule is the first fault of the walk
pub first_told : (ps : List Visit) (f : SourceFault) → TellsFirst 0 ps f → FirstFault BreaksMacros macros_line ps f.code f.line
first_told ps f t = first_by ps f (told 0 ps f t)

kept_one : (b : Bool) (x : Placed) (ps : List Placed) (n : ℕ) → length ps ≤ n → length ((if b then x ∷ [] else []) ++ ps) ≤ one_if b + n
kept_one true x ps n le = omega (arith, le)
kept_one false x ps n le = omega (arith, le)

-- what is left of places counts
pub kept_few : (ps : List Visit) → length (kept ps) ≤ weigh ps
kept_few [] = omega arith
kept_few (Opens ms s ∷ ps) = omega (arith, kept_few ps)
kept_few (Inside m s ∷ ps) = omega (arith, kept_few ps)
kept_few (Stands e s ∷ ps) = kept_one (is_kept s.form) _ (kept ps) (weigh ps) (kept_few ps)
kept_few (Misplaced line ∷ ps) = omega (arith, kept_few ps)
kept_few (Calls line depth m bs ∷ ps) = omega (arith, kept_few ps)

-- the whole text is read
pub read_all : (ss rest : List Statement) (r : Reading) → rest ≡ [] → IsReadTo ss r rest → Walked nothing r.done (walk ss)
read_all ss rest r none h =
    let e : walk ss ≡ h.places = h.is ∙ ap (λ (l : List Statement). h.places ++ walk_of r l) none ∙ append-nil h.places in
    rw e h.walked

-- What is reported is the same only where it is equal.
use Rattle.std.proofs.Common.{◌≡◌, ℕ, Bool, true, false, ◌&&◌, nat_eq, List, [], ◌∷◌, slice_get, Some, None, refl, sym, ap, ◌∙◌, arith}
use Rattle.vcm_remarks.specs.declared.remark.Cause.{Cause}
use Rattle.vcm_remarks.specs.declared.remark.Cause.TheVariants.{Table, Mode, Scanning, Unit as UnitLost, Frame, Setting, Value, All}
use Rattle.vcm_untried.specs.declared.about.About.{About}
use Rattle.vcm_untried.specs.declared.about.About.TheVariants.{NotTried, Approached, BeginsElsewhere, NotReported, AnotherTip, NotInFile}
use Rattle.vcm_untried.specs.About.{place_of, rank, since_of, same}

-- the causes in their order
abbrev causes : List Cause
causes = Table ∷ Mode ∷ Scanning ∷ UnitLost ∷ Frame ∷ Setting ∷ All ∷ Value ∷ []

at_place : (c : Cause) → slice_get causes (place_of c) ≡ Some c
at_place Table = refl
at_place Mode = refl
at_place Scanning = refl
at_place UnitLost = refl
at_place Frame = refl
at_place Setting = refl
at_place Value = refl
at_place All = refl

no_place : (c : Cause) (n : ℕ) → slice_get causes n ≡ None → place_of c ≡ n → ⊥
no_place c n none e = (let f : slice_get causes n ≡ Some c = ap (slice_get causes) (sym e) ∙ at_place c in let g : None ≡ Some c = sym none ∙ f in absurd cc)

apart : (m n : ℕ) → m ≡ n → nat_eq m n ≡ false → ⊥
apart m n e f = (let g : nat_eq m n ≡ true = grind (arith, e) in let h : false ≡ true = sym f ∙ g in absurd cc)

same_cause : (b c : Cause) → place_of b ≡ place_of c → b ≡ c
same_cause b c e = (let f : Some b ≡ Some c = sym (at_place b) ∙ ap (slice_get causes) e ∙ at_place c in cc)

by_parts : (a b : About) → rank a ≡ rank b → since_of a ≡ since_of b → a ≡ b
by_parts (NotTried c m) (NotTried d n) r s = ap (λ x. NotTried x m) (same_cause c d r) ∙ ap (NotTried d) s
by_parts (NotTried c m) Approached r s = absurd (no_place c 8 refl r)
by_parts Approached (NotTried d n) r s = absurd (no_place d 8 refl (sym r))
by_parts (NotTried c m) BeginsElsewhere r s = absurd (no_place c 9 refl r)
by_parts BeginsElsewhere (NotTried d n) r s = absurd (no_place d 9 refl (sym r))
by_parts (NotTried c m) NotReported r s = absurd (no_place c 10 refl r)
by_parts NotReported (NotTried d n) r s = absurd (no_place d 10 refl (sym r))
by_parts (NotTried c m) AnotherTip r s = absurd (no_place c 11 refl r)
by_parts AnotherTip (NotTried d n) r s = absurd (no_place d 11 refl (sym r))
by_parts Approached Approached r s = refl
by_parts Approached BeginsElsewhere r s = absurd (apart 8 9 r refl)
by_parts Approached NotReported r s = absurd (apart 8 10 r refl)
by_parts Approached AnotherTip r s = absurd (apart 8 11 r refl)
by_parts BeginsElsewhere Approached r s = absurd (apart 9 8 r refl)
by_parts BeginsElsewhere BeginsElsewhere r s = refl
by_parts BeginsElsewhere NotReported r s = absurd (apart 9 10 r refl)
by_parts BeginsElsewhere AnotherTip r s = absurd (apart 9 11 r refl)
by_parts NotReported Approached r s = absurd (apart 10 8 r refl)
by_parts NotReported BeginsElsewhere r s = absurd (apart 10 9 r refl)
by_parts NotReported NotReported r s = refl
by_parts NotReported AnotherTip r s = absurd (apart 10 11 r refl)
by_parts AnotherTip Approached r s = absurd (apart 11 8 r refl)
by_parts AnotherTip BeginsElsewhere r s = absurd (apart 11 9 r refl)
by_parts AnotherTip NotReported r s = absurd (apart 11 10 r refl)
by_parts AnotherTip AnotherTip r s = refl
by_parts AnotherTip NotInFile r s = absurd (apart 11 12 r refl)
by_parts (NotTried c m) NotInFile r s = absurd (no_place c 12 refl r)
by_parts NotInFile (NotTried d n) r s = absurd (no_place d 12 refl (sym r))
by_parts Approached NotInFile r s = absurd (apart 8 12 r refl)
by_parts BeginsElsewhere NotInFile r s = absurd (apart 9 12 r refl)
by_parts NotReported NotInFile r s = absurd (apart 10 12 r refl)
by_parts NotInFile Approached r s = absurd (apart 12 8 r refl)
by_parts NotInFile BeginsElsewhere r s = absurd (apart 12 9 r refl)
by_parts NotInFile NotReported r s = absurd (apart 12 10 r refl)
by_parts NotInFile AnotherTip r s = absurd (apart 12 11 r refl)
by_parts NotInFile NotInFile r s = refl

both_true : (x y : Bool) → (x && y) ≡ true → (x ≡ true) × (y ≡ true)
both_true true y e = (refl, e)
both_true false y e = (let f : false ≡ true = e in absurd cc)

pub same_is : (a b : About) → same a b ≡ true → a ≡ b
same_is a b e =
    let p = both_true (nat_eq (rank a) (rank b)) (nat_eq (since_of a) (since_of b)) e in
    let r = p.0 in
    let s = p.1 in
    by_parts a b (grind (arith, r)) (grind (arith, s))

-- a row that reports something of a line
pub told_is : (x a : ℕ) (b c : About) → (nat_eq x a && same b c) ≡ true → (x ≡ a) × (b ≡ c)
told_is x a b c e = let p = both_true (nat_eq x a) (same b c) e in let l = p.0 in (grind (arith, l), same_is b c p.1)

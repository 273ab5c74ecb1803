-- Branches: what is read is spelled so, and what is spelled so is read again.
use Rattle.std.proofs.Common.{◌≡◌, ℕ, ◌<◌, ◌≤◌, ◌^◌, nat_le, Bool, true, false, ℤ, inl, inr, List, [], ◌∷◌, ◌++◌, length, Some, None, refl, sym, ap, ◌∙◌, subst, arith}
use Rattle.std.specs.Prelude.{decimal, codes}
use Rattle.std.specs.Fmt.{signed_decimal}
use Rattle.std.specs.Str.{bytes_eq}
use Rattle.std.specs.List.{AllByRecursion}
use Rattle.std.proofs.lemmas.List.{length-append}
use Rattle.std.proofs.lemmas.Fmt.{decimal_nonempty}
use Rattle.std.proofs.lemmas.Slice.Eq.{bytes_eq-Decides}
use Rattle.vcm_code.specs.declared.branch.Branch.{Branch}
use Rattle.vcm_fields.specs.inner.Fitting.{FitBranches}
use Rattle.vcm_fields.specs.Widths.{FitsBranch}
use Rattle.vcm_words.specs.Cutting.{split, joined}
use Rattle.vcm_words.specs.inner.Marks.{Without, IsWord}
use Rattle.vcm_words.specs.Numbers.{number, signed, counted, only_if}
use Rattle.vcm_words.specs.WordReaders.{◌>>=◌}
use Rattle.vcm_words.specs.Branches.{branch_text, branches, halves, branch_in, none_at, braced_at, branches_at}
use Rattle.vcm_words.proofs.Cuts.{split_some, joined-split, split-word}
use Rattle.vcm_words.proofs.Inverse.{Means, Reads, Bare, bind_some, some_is, only_met, reads_tested, all_append}
use Rattle.vcm_words.proofs.NumberLaws.{means_number, means_signed, decimal_word, decimal_without_high, signed_without_high}
use Rattle.vcm_words.proofs.WordLaws.{or_else_takes}
use Rattle.vcm_words.proofs.EnclosedLaws.{reads_between}

-- ---- halves

halves_take : (mark : ℕ) (ws : List (List ℕ)) (x : List ℕ × List ℕ) → halves mark ws ≡ Some x → joined mark ws ≡ x.0 ++ mark ∷ x.1
halves_take mark [] x e = absurd cc
halves_take mark (w ∷ []) x e = absurd cc
halves_take mark (w ∷ v ∷ ws) x e = subst (λ (y : List ℕ × List ℕ). joined mark (w ∷ v ∷ ws) ≡ y.0 ++ mark ∷ y.1) (some_is (w, joined mark (v ∷ ws)) x e) refl

-- bytes behind a first part
halves_are : (mark : ℕ) (bs front behind : List ℕ) → split mark bs ≡ front ∷ split mark behind → halves mark (split mark bs) ≡ Some (front, behind)
halves_are mark bs front behind e =
    let s = split_some mark behind in
    let whole : joined mark (s.0 ∷ s.1) ≡ behind = ap (joined mark) (sym s.2) ∙ joined-split mark behind in
    ap (halves mark) (e ∙ ap (λ ws. front ∷ ws) s.2) ∙ ap (λ bs. Some (front, bs)) whole

-- ---- a branch

Spelled : List ℕ → Branch → Type 0
Spelled w b = (w ≡ branch_text b) × FitsBranch b

branch_takes : (w : List ℕ) (b : Branch) → branch_in true w ≡ Some b → (w ≡ branch_text b) × FitsBranch b
unfolding branch_in Spelled
branch_takes w b e =
    let m = means_number (2 ^ 32) (omega arith) in
    let p = bind_some (halves 64 (split 64 w)) (λ p. signed true p.0 >>= λ z. number true (2 ^ 32) p.1 >>= λ n. Some (record { value = z; target = n })) b e in
    let q = bind_some (signed true p.0.0) (λ z. number true (2 ^ 32) p.0.1 >>= λ n. Some (record { value = z; target = n })) b p.2 in
    let r = bind_some (number true (2 ^ 32) p.0.1) (λ n. Some (record { value = q.0; target = n })) b q.2 in
    let z = means_signed.takes p.0.0 q.0 q.1 in
    let n = m.takes p.0.1 r.0 r.1 in
    let made : Branch = record { value = q.0; target = r.0 } in
    let whole : w ≡ branch_text made = sym (joined-split 64 w) ∙ halves_take 64 (split 64 w) p.0 p.1 ∙ ap (λ f. f ++ 64 ∷ p.0.1) z.0 ∙ ap (λ f. signed_decimal q.0 ++ 64 ∷ f) n.0 in
    subst (Spelled w) {x = made} (some_is made b r.2) (whole, (z.1, n.1))

branch_again : (b : Branch) → FitsBranch b → branch_in true (branch_text b) ≡ Some b
unfolding branch_in
branch_again b h =
    let m = means_number (2 ^ 32) (omega arith) in
    let cut = halves_are 64 (branch_text b) (signed_decimal b.value) (decimal b.target)
    (split-word 64 (signed_decimal b.value) (decimal b.target) (signed_without_high 64 b.value (omega arith) h.0)) in
    ap (λ o. o >>= λ p. signed true p.0 >>= λ z. number true (2 ^ 32) p.1 >>= λ n. Some (record { value = z; target = n })) cut
    ∙ ap (λ o. o >>= λ z. number true (2 ^ 32) (decimal b.target) >>= λ n. Some (record { value = z; target = n })) (means_signed.again b.value h.0)
    ∙ ap (λ o. o >>= λ n. Some (record { value = b.value; target = n })) (m.again b.target h.1)

branch_word : (b : Branch) → FitsBranch b → IsWord (branch_text b)
branch_word b h =
    let v = means_signed.words b.value h.0 in
    let t = decimal_word b.target (omega (arith, h.1)) in
    (all_append _ (signed_decimal b.value) (64 ∷ decimal b.target) v.0 (refl, t.0), all_append _ (signed_decimal b.value) (64 ∷ decimal b.target) v.1 (refl, t.1))

pub branch_fails : (exact : Bool) (w front behind : List ℕ) (z : ℤ) → split 64 w ≡ front ∷ split 64 behind → signed exact front ≡ Some z
    → number exact (2 ^ 32) behind ≡ None → branch_in exact w ≡ None
unfolding branch_in
branch_fails exact w front behind z e f g = rw (halves_are 64 w front behind e, f, g) refl

pub branch_is : (exact : Bool) (w front behind : List ℕ) (z : ℤ) (n : ℕ) → split 64 w ≡ front ∷ split 64 behind → signed exact front ≡ Some z
    → number exact (2 ^ 32) behind ≡ Some n → branch_in exact w ≡ Some (record { value = z; target = n })
unfolding branch_in
branch_is exact w front behind z n e f g = rw (halves_are 64 w front behind e, f, g) refl

means_branch : Means (branch_in true) branch_text FitsBranch
means_branch = record { takes = branch_takes; again = branch_again; words = branch_word }

branch_without : (b : Branch) → FitsBranch b → Without 125 (branch_text b)
branch_without b h = all_append _ (signed_decimal b.value) (64 ∷ decimal b.target) (signed_without_high 125 b.value (omega arith) h.0)
    (refl, decimal_without_high 125 b.target (omega arith) (omega (arith, h.1)))

-- ---- braces

-- 1 to 20,000 branches
FitSome : List Branch → Type 0
FitSome bs = (0 < length bs) × FitBranches bs

few : (n : ℕ) → nat_le n 20000 ≡ true → n ≤ 20000
few n h = grind arith

few_again : (n : ℕ) → n ≤ 20000 → nat_le n 20000 ≡ true
few_again n h = grind arith

reads_braced : Reads (braced_at true) branches FitSome
unfolding braced_at FitSome
reads_braced = reads_tested (reads_between 123 125 ((refl, refl), (refl, refl)) means_branch branch_without) (λ bs. counted true (nat_le (length bs) 20000)) FitSome
    (λ bs h e. (h.0, (few (length bs) e, h.1))) (λ bs h. ((h.0, h.1.1), few_again (length bs) h.1.0))

none_takes : (ws : List (List ℕ)) (x : List Branch × List (List ℕ)) → none_at ws ≡ Some x → (ws ≡ codes "{}" ∷ x.1) × (x.0 ≡ [])
none_takes [] x e = absurd cc
none_takes (w ∷ ws) x e =
    let p = bind_some (only_if (bytes_eq w (codes "{}")) []) (λ bs. Some (bs, ws)) x e in
    let g = only_met (bytes_eq w (codes "{}")) [] p.0 p.1 in
    let word : w ≡ codes "{}" = (bytes_eq-Decides _ _).0 g.0 in
    let made : (p.0, ws) ≡ x = some_is _ _ p.2 in
    (ap (λ v. v ∷ ws) word ∙ ap (λ (y : List Branch × List (List ℕ)). codes "{}" ∷ y.1) made, ap (λ (y : List Branch × List (List ℕ)). y.0) (sym made) ∙ sym g.1)

-- a word of more than two bytes is not that of no branches
long_word : (w : List ℕ) (ws : List (List ℕ)) → 2 < length w → none_at (w ∷ ws) ≡ None
long_word w ws l = other (bytes_eq w (codes "{}")) refl
  where
    other : (t : Bool) → bytes_eq w (codes "{}") ≡ t → none_at (w ∷ ws) ≡ None
    other true e = let same : w ≡ codes "{}" = (bytes_eq-Decides _ _).0 e in absurd (omega (arith, l, ap length same))
    other false e = rw e refl

branch_long : (b : Branch) → FitsBranch b → 1 < length (branch_text b)
branch_long b h =
    let some = decimal_nonempty b.target (omega (arith, h.1)) in
    omega (arith, some, length-append (signed_decimal b.value) (64 ∷ decimal b.target))

not_none : (bs : List Branch) (rest : List (List ℕ)) → FitSome bs → none_at (branches bs ++ rest) ≡ None
unfolding FitSome
not_none [] rest h = absurd (omega (arith, h.0))
not_none (b ∷ []) rest h = long_word (123 ∷ branch_text b ++ 125 ∷ []) rest (omega (arith, branch_long b h.1.1.0, length-append (branch_text b) (125 ∷ [])))
not_none (b ∷ c ∷ bs) rest h = long_word (123 ∷ branch_text b) _ (omega (arith, branch_long b h.1.1.0))

branches_take : (ws : List (List ℕ)) (x : List Branch × List (List ℕ)) → Bare ws → branches_at true ws ≡ Some x → (ws ≡ branches x.0 ++ x.1) × FitBranches x.0
unfolding branches_at FitSome
branches_take ws x bare e = elim (or_else_takes (none_at ws) (braced_at true ws) x e) [
  | inl f ↦
      let t = none_takes ws x f in
      subst (λ (bs : List Branch). (ws ≡ branches bs ++ x.1) × FitBranches bs) (sym t.1) (t.0, (omega arith, tt))
  | inr f ↦ let t = reads_braced.takes ws x bare f in (t.0, t.1.1)
]

branches_again : (bs : List Branch) (rest : List (List ℕ)) → FitBranches bs → branches_at true (branches bs ++ rest) ≡ Some (bs, rest)
unfolding branches_at FitSome
branches_again [] rest h = refl
branches_again (b ∷ bs) rest h = rw (not_none (b ∷ bs) rest (omega arith, h)) (reads_braced.again (b ∷ bs) rest (omega arith, h))

branches_words : (bs : List Branch) → FitBranches bs → AllByRecursion IsWord (branches bs)
unfolding FitSome
branches_words [] h = (((refl, (refl, tt)), (refl, (refl, tt))), tt)
branches_words (b ∷ bs) h = reads_braced.words (b ∷ bs) (omega arith, h)

pub reads_branches : Reads (branches_at true) branches FitBranches
reads_branches = record { takes = branches_take; again = branches_again; words = branches_words }

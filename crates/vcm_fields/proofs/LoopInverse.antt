-- Loops that read so many values, one after the other.
use Rattle.std.proofs.Common.{◌≡◌, ℕ, zero, suc, ◌+◌, ◌-◌, ◌<◌, ◌≤◌, List, [], ◌∷◌, ◌++◌, length, take, drop, Ok, Err, refl, sym, ap, ◌∙◌, arith}
use Rattle.std.specs.List.{flat_map}
use Rattle.std.proofs.lemmas.List.{take_at, drop_at, length-append, append-nil}
use Rattle.vcm_fields.specs.declared.fault.ImageFault.{ImageFault}
use Rattle.vcm_spec.specs.Results.{◌>>=◌}
use Rattle.vcm_fields.specs.Readers.{Reader, times}
use Rattle.vcm_fields.proofs.Inverse.{IsBytes, bind_ok, ok_is, Reads, reads_times}

-- ---- loops

pub times_more : {A : Type 0} (a : Reader A) (n : ℕ) (bytes : List ℕ) (xs : List A) (r : List ℕ) (x : A) (r' : List ℕ) → times a n bytes ≡ Ok (xs, r)
    → a r ≡ Ok (x, r') → times a (suc n) bytes ≡ Ok (xs ++ x ∷ [], r')
unfolding times
times_more {A} a zero bytes xs r x r' e h =
    let same = ok_is ([], bytes) (xs, r) e in
    let first : [] ≡ xs = ap (λ (p : List A × List ℕ). p.0) same in
    let second : bytes ≡ r = ap (λ (p : List A × List ℕ). p.1) same in
    rw (second, ← first, h) refl
times_more {A} a (suc n) bytes xs r x r' e h =
    let p = bind_ok (a bytes) (λ u. times a n u.1 >>= λ v. Ok (u.0 ∷ v.0, v.1)) (xs, r) e in
    let q = bind_ok (times a n p.0.1) (λ v. Ok (p.0.0 ∷ v.0, v.1)) (xs, r) p.2 in
    let same = ok_is (p.0.0 ∷ q.0.0, q.0.1) (xs, r) q.2 in
    let second : q.0.1 ≡ r = ap (λ (z : List A × List ℕ). z.1) same in
    let first : p.0.0 ∷ q.0.0 ≡ xs = ap (λ (z : List A × List ℕ). z.0) same in
    let below = times_more a n p.0.1 q.0.0 q.0.1 x r' q.1 (ap a second ∙ h) in
    rw (p.1, below) (ap (λ (l : List A). Ok (l ++ x ∷ [], r')) first)

pub times_fails : {A : Type 0} (a : Reader A) (n m : ℕ) (bytes : List ℕ) (xs : List A) (r : List ℕ) (f : ImageFault) → times a n bytes ≡ Ok (xs, r) → a r ≡ Err f → times a (n + suc m) bytes ≡ Err f
unfolding times
times_fails {A} a zero m bytes xs r f e h =
    let second : bytes ≡ r = ap (λ (p : List A × List ℕ). p.1) (ok_is ([], bytes) (xs, r) e) in
    let k : zero + suc m ≡ suc m = omega arith in
    rw (k, second, h) refl
times_fails {A} a (suc n) m bytes xs r f e h =
    let p = bind_ok (a bytes) (λ u. times a n u.1 >>= λ v. Ok (u.0 ∷ v.0, v.1)) (xs, r) e in
    let q = bind_ok (times a n p.0.1) (λ v. Ok (p.0.0 ∷ v.0, v.1)) (xs, r) p.2 in
    let second : q.0.1 ≡ r = ap (λ (z : List A × List ℕ). z.1) (ok_is (p.0.0 ∷ q.0.0, q.0.1) (xs, r) q.2) in
    let k : suc n + suc m ≡ suc (n + suc m) = omega arith in
    rw (k, p.1, times_fails a n m p.0.1 q.0.0 q.0.1 f q.1 (ap a second ∙ h)) refl

-- so many of count values were read
pub record Progress {A : Type 0} (a : Reader A) (count counter : ℕ) (bytes rest : List ℕ) : Type 0 where
  pub values : List A
  pub within : counter ≤ count
  pub so_far : times a counter bytes ≡ Ok (values, rest)

unfoldable pub begun : {A : Type 0} (a : Reader A) (count : ℕ) (bytes : List ℕ) → Progress a count 0 bytes bytes
unfolding times
begun a count bytes = record { values = []; within = omega arith; so_far = refl }

unfoldable pub goes_on : {A : Type 0} (a : Reader A) (count counter : ℕ) (bytes rest : List ℕ) (x : A) (rest' : List ℕ) → Progress a count counter bytes rest
    → counter < count → a rest ≡ Ok (x, rest') → Progress a count (counter + 1) bytes rest'
goes_on a count counter bytes rest x rest' p lt e =
    let k : counter + 1 ≡ suc counter = omega arith in
    record { values = p.values ++ x ∷ []; within = omega arith; so_far = rw k (times_more a counter bytes p.values rest x rest' p.so_far e) }

pub stops : {A : Type 0} (a : Reader A) (count counter : ℕ) (bytes rest : List ℕ) (f : ImageFault) → Progress a count counter bytes rest → counter < count
    → a rest ≡ Err f → times a count bytes ≡ Err f
stops a count counter bytes rest f p lt e =
    let k : count ≡ counter + suc (count - (counter + 1)) = omega arith in
    rw k (times_fails a counter (count - (counter + 1)) bytes p.values rest f p.so_far e)

pub is_done : {A : Type 0} (a : Reader A) (count counter : ℕ) (bytes rest : List ℕ) → (p : Progress a count counter bytes rest) → count ≤ counter → times a count bytes ≡ Ok (p.values, rest)
is_done a count counter bytes rest p le =
    let k : count ≡ counter = omega (arith, p.within, le) in
    rw k p.so_far

-- the bytes of so many values, apart from those after them
pub record Cut {A : Type 0} (a : Reader A) (count : ℕ) (bytes rest : List ℕ) (xs : List A) : Type 0 where
  pub shorter : length rest ≤ length bytes
  pub alone : times a count (take (length bytes - length rest) bytes) ≡ Ok (xs, [])
  pub left : drop (length bytes - length rest) bytes ≡ rest

pub cuts : {A : Type 0} {a : Reader A} {s : A → List ℕ} {P : A → Type 0} → Reads a s P → (count : ℕ) (bytes rest : List ℕ) (xs : List A) → IsBytes bytes
    → times a count bytes ≡ Ok (xs, rest) → Cut a count bytes rest xs
cuts {A} {a} {s} {P} r count bytes rest xs fits e =
    let t = (reads_times r count).takes bytes (xs, rest) fits e in
    let len : length bytes ≡ length (flat_map s xs) + length rest = ap length t.0.parts ∙ length-append (flat_map s xs) rest in
    let n : length (flat_map s xs) ≡ length bytes - length rest = omega (arith, len) in
    let front : take (length bytes - length rest) bytes ≡ flat_map s xs = ap (take (length bytes - length rest)) t.0.parts ∙ take_at (flat_map s xs) rest (length bytes - length rest) n in
    let back : drop (length bytes - length rest) bytes ≡ rest = ap (drop (length bytes - length rest)) t.0.parts ∙ drop_at (flat_map s xs) rest (length bytes - length rest) n in
    let again : times a count (flat_map s xs) ≡ Ok (xs, []) = ap (times a count) (sym (append-nil (flat_map s xs))) ∙ (reads_times r count).again xs [] t.1 in
    record { shorter = omega (arith, len); alone = ap (times a count) front ∙ again; left = back }

-- the first of so many values
pub times_first : {A : Type 0} (a : Reader A) (n : ℕ) (bytes : List ℕ) (xs : List A) (r : List ℕ) → times a (suc n) bytes ≡ Ok (xs, r) → (x : A)
    × (after : List ℕ) × (ys : List A) × (a bytes ≡ Ok (x, after)) × (times a n after ≡ Ok (ys, r)) × (x ∷ ys ≡ xs)
unfolding times
times_first {A} a n bytes xs r e =
    let p = bind_ok (a bytes) (λ u. times a n u.1 >>= λ v. Ok (u.0 ∷ v.0, v.1)) (xs, r) e in
    let q = bind_ok (times a n p.0.1) (λ v. Ok (p.0.0 ∷ v.0, v.1)) (xs, r) p.2 in
    let same = ok_is (p.0.0 ∷ q.0.0, q.0.1) (xs, r) q.2 in
    let second : q.0.1 ≡ r = ap (λ (z : List A × List ℕ). z.1) same in
    (p.0.0, p.0.1, q.0.0, p.1, q.1 ∙ ap (λ (l : List ℕ). Ok (q.0.0, l)) second, ap (λ (z : List A × List ℕ). z.0) same)

pub times_none : {A : Type 0} (a : Reader A) (bytes : List ℕ) (xs : List A) (r : List ℕ) → times a 0 bytes ≡ Ok (xs, r) → xs ≡ []
unfolding times
times_none {A} a bytes xs r e = ap (λ (z : List A × List ℕ). z.0) (sym (ok_is ([], bytes) (xs, r) e))

-- Tables of the places where values begin, and lists of values that were read.
use Rattle.std.proofs.Common.{◌≡◌, ℕ, zero, suc, ◌+◌, ◌-◌, ◌<◌, ◌≤◌, List, [], ◌∷◌, ◌++◌, length, drop, slice_get, slice_index_or, false, ◌==◌, Some, Result}
use Rattle.std.proofs.Common.{Ok, Err, refl, sym, ap, subst, ◌∙◌, append_assoc, arith}
use Rattle.std.proofs.lemmas.List.{drop_at, length-append}
use Rattle.std.specs.List.{AllByRecursion}
use Rattle.vcm_fields.specs.declared.fault.ImageFault.{ImageFault}
use Rattle.vcm_fields.specs.declared.fault.ImageFault.TheVariants.{NoMemory}
use Rattle.vcm_image.specs.declared.counts.Counts.{Counts}
use Rattle.vcm_fields.specs.Readers.{Reader, Fails, times}
use Rattle.vcm_image.specs.Whole.{header, header_at}
use Rattle.vcm_image.specs.inner.Places.{IsEnd, Begin, Table}
use Rattle.vcm_image.proofs.Wholes.{reads_header}
use Rattle.vcm_fields.proofs.Inverse.{IsBytes, Reads, ok_is}
use Rattle.vcm_fields.proofs.LoopInverse.{Progress, begun, goes_on, stops, is_done}

pub Begin-push : {A : Type 0} (a : Reader A) (whole os : List ℕ) (xs : List A) (o : ℕ) (x : A) (rest : List ℕ) → Begin a whole os xs → o ≤ length whole
    → a (drop o whole) ≡ Ok (x, rest) → Begin a whole (os ++ o ∷ []) (xs ++ x ∷ [])
Begin-push a whole [] [] o x rest h le e = ((le, (rest, e)), tt)
Begin-push a whole [] (y ∷ ys) o x rest h le e = absurd h
Begin-push a whole (p ∷ ps) [] o x rest h le e = absurd h
Begin-push a whole (p ∷ ps) (y ∷ ys) o x rest h le e = (h.0, Begin-push a whole ps ys o x rest h.1 le e)

pub Begin-length : {A : Type 0} (a : Reader A) (whole os : List ℕ) (xs : List A) → Begin a whole os xs → length os ≡ length xs
Begin-length a whole [] [] h = refl
Begin-length a whole [] (y ∷ ys) h = absurd h
Begin-length a whole (p ∷ ps) [] h = absurd h
Begin-length a whole (p ∷ ps) (y ∷ ys) h = ap suc (Begin-length a whole ps ys h.1)

-- the value that begins at the i-th place
pub record Found {A : Type 0} (a : Reader A) (whole : List ℕ) (xs : List A) (i o : ℕ) : Type 0 where
  pub value : A
  pub rest : List ℕ
  pub within : o ≤ length whole
  pub is : slice_get xs i ≡ Some value
  pub read : a (drop o whole) ≡ Ok (value, rest)

pub Begin-index : {A : Type 0} (a : Reader A) (whole os : List ℕ) (xs : List A) (i o d : ℕ) → Begin a whole os xs → i < length xs → o ≡ slice_index_or os i d → Found a whole xs i o
Begin-index a whole [] [] i o d h lt e = absurd (omega arith)
Begin-index a whole [] (y ∷ ys) i o d h lt e = absurd h
Begin-index a whole (p ∷ ps) [] i o d h lt e = absurd h
Begin-index a whole (p ∷ ps) (y ∷ ys) zero o d h lt e = subst (λ (q : ℕ). Found a whole (y ∷ ys) zero q) (sym e) (record { value = y; rest = h.0.1.0; within = h.0.0; is = refl; read = h.0.1.1 })
Begin-index a whole (p ∷ ps) (y ∷ ys) (suc i) o d h lt e =
    let f = Begin-index a whole ps ys i o d h.1 (omega (arith, lt)) e in
    record { value = f.value; rest = f.rest; within = f.within; is = f.is; read = f.read }

-- what was read there is that value, and no fault
pub Found-ok : {A : Type 0} (a : Reader A) (whole : List ℕ) (xs : List A) (i o : ℕ) (bytes : List ℕ) (x : A) (r : List ℕ) → Found a whole xs i o
    → bytes ≡ drop o whole → a bytes ≡ Ok (x, r) → slice_get xs i ≡ Some x
Found-ok {A} a whole xs i o bytes x r f b e =
    let same : (f.value, f.rest) ≡ (x, r) = ok_is _ _ (sym f.read ∙ ap a (sym b) ∙ e) in
    f.is ∙ ap (λ (p : A × List ℕ). Some p.0) same

pub Found-err : {A : Type 0} (a : Reader A) (whole : List ℕ) (xs : List A) (i o : ℕ) (bytes : List ℕ) (e : ImageFault) → Found a whole xs i o → bytes ≡ drop o whole → a bytes ≡ Err e → ⊥
Found-err {A} a whole xs i o bytes e f b h = let both = sym f.read ∙ ap a (sym b) ∙ h in cc

-- a table while it is filled
pub record Filling {A : Type 0} (a : Reader A) (count counter : ℕ) (whole bytes starts rest : List ℕ) : Type 0 where
  pub progress : Progress a count counter bytes rest
  pub begin : Begin a whole starts progress.values
  pub end : IsEnd whole rest
  pub fits : IsBytes rest

pub filling : {A : Type 0} (a : Reader A) (count : ℕ) (whole bytes : List ℕ) → IsEnd whole bytes → IsBytes bytes → Filling a count 0 whole bytes [] bytes
unfolding begun
filling a count whole bytes end fits = record { progress = begun a count bytes; begin = tt; end = end; fits = fits }

pub end_drop : (whole rest : List ℕ) → IsEnd whole rest → drop (length whole - length rest) whole ≡ rest
end_drop whole rest end =
    let n : length end.0 ≡ length whole - length rest = omega (arith, ap length end.1, length-append end.0 rest) in
    ap (drop (length whole - length rest)) end.1 ∙ drop_at end.0 rest (length whole - length rest) n

pub end_more : (whole rest text rest' : List ℕ) → IsEnd whole rest → rest ≡ text ++ rest' → IsEnd whole rest'
end_more whole rest text rest' end e = (end.0 ++ text, end.1 ∙ ap (λ (l : List ℕ). end.0 ++ l) e ∙ sym (append_assoc end.0 text rest'))

pub filled_more : {A : Type 0} {a : Reader A} {s : A → List ℕ} {P : A → Type 0} → Reads a s P
    → (count counter : ℕ) (whole bytes starts rest : List ℕ) (x : A) (rest' starts' : List ℕ) → Filling a count counter whole bytes starts rest
    → counter < count → a rest ≡ Ok (x, rest')
    → starts' ≡ starts ++ (length whole - length rest) ∷ [] → Filling a count (counter + 1) whole bytes starts' rest'
unfolding goes_on
filled_more {A} {a} {s} {P} r count counter whole bytes starts rest x rest' starts' f lt e is =
    let t = r.takes rest (x, rest') f.fits e in
    let next = goes_on a count counter bytes rest x rest' f.progress lt e in
    let found : a (drop (length whole - length rest) whole) ≡ Ok (x, rest') = ap a (end_drop whole rest f.end) ∙ e in
    record {
      progress = next;
      begin = rw is (Begin-push a whole starts f.progress.values (length whole - length rest) x rest' f.begin (omega arith) found);
      end
          = end_more whole rest (s x) rest' f.end t.0.parts;
      fits = t.0.rest_fits;
    }

pub filled : {A : Type 0} (a : Reader A) (count counter : ℕ) (whole bytes starts rest : List ℕ) → Filling a count counter whole bytes starts rest
    → count ≤ counter → Table a count whole bytes starts rest
filled a count counter whole bytes starts rest f le = record { values = f.progress.values; is = is_done a count counter bytes rest f.progress le; begin = f.begin; end = f.end }

-- a fault that reading gives
pub fails_so : {Y : Type 0} (f : ImageFault) (read : Result Y ImageFault) → read ≡ Err f → Fails f read
fails_so NoMemory read e = tt
fails_so _ read e = e

pub filled_fails : {A : Type 0} (a : Reader A) (count counter : ℕ) (whole bytes starts rest : List ℕ) (f : ImageFault)
    → Filling a count counter whole bytes starts rest → counter < count → a rest ≡ Err f → Fails f (times a count bytes)
filled_fails a count counter whole bytes starts rest f g lt e = fails_so f (times a count bytes) (stops a count counter bytes rest f g.progress lt e)

-- ---- the whole

pub fails_from : {X Y : Type 0} (f : ImageFault) (r : Result X ImageFault) (q : Result Y ImageFault) → Fails f r → (r ≡ Err f → q ≡ Err f) → Fails f q
fails_from NoMemory r q h k = tt
fails_from _ r q h k = k h

pub header_end : (bytes : List ℕ) (x : Counts × List ℕ) → IsBytes bytes → header_at bytes ≡ Ok x → IsEnd bytes x.1
header_end bytes x fits e = let t = reads_header.takes bytes x fits e in (header x.0, t.0.parts)

pub not_zero : (k : ℕ) → (k == 0) ≡ false → k ≡ 0 → ⊥
not_zero k e z = grind arith

-- what holds of all holds of each
pub all_at : {A : Type 0} (P : A → Type 0) (xs : List A) (i : ℕ) (x : A) → AllByRecursion P xs → slice_get xs i ≡ Some x → P x
all_at P [] i x h e = absurd cc
all_at P (y ∷ ys) zero x h e = let same : y ≡ x = cc in subst P same h.0
all_at P (y ∷ ys) (suc i) x h e = all_at P ys i x h.1 e

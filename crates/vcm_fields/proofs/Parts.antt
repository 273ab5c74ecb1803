-- Tables and slices of an image, read as they are spelled.
use Rattle.std.proofs.Common.{◌≡◌, ℕ, zero, suc, ◌-◌, ◌<◌, List, [], ◌∷◌, length, take, drop, Ok, Err, refl, sym, ap, subst, ◌∙◌, arith}
use Rattle.vcm_fields.specs.declared.fault.ImageFault.{ImageFault}
use Rattle.vcm_fields.specs.inner.Fitting.{FitsEntry}
use Rattle.vcm_fields.specs.Spelling.{entry}
use Rattle.vcm_fields.specs.Readers.{Reader, times, entry_at}
use Rattle.vcm_fields.specs.inner.Slices.{read_or_nil}
use Rattle.vcm_fields.proofs.Inverse.{Reads, ok_is, reads_both, reads_via}
use Rattle.vcm_fields.proofs.NumberInverse.{reads_long}
use Rattle.vcm_fields.proofs.LoopInverse.{Cut, times_first, times_none}
use Rattle.vcm_fields.proofs.TextParts.{reads_variable_name}
use Rattle.vcm_fields.proofs.StatementParts.{reads_kind}

-- ---- tables

pub reads_entry : Reads entry_at entry FitsEntry
unfolding entry_at
reads_entry = reads_via (reads_both reads_kind (reads_both reads_long reads_variable_name)) (λ v. record { kind = v.0; expansion = v.1.0; name = v.1.1 })
    (λ v. (v.kind, (v.expansion, v.name))) entry FitsEntry
    (λ v h. refl) (λ v h. h.1) (λ v h. (refl, refl, (tt, h)))

-- ---- slices: so many values of a reader, one behind the other

-- what the bytes of so many values spell
abbrev pub values_in : {A : Type 0} → Reader A → ℕ → List ℕ → List A
values_in a count bytes = read_or_nil (times a count bytes)

-- the bytes spell so many values, and no more
abbrev pub Are : {A : Type 0} → Reader A → ℕ → List ℕ → Type 0
Are a count bytes = times a count bytes ≡ Ok (values_in a count bytes, [])

pub cut_are : {A : Type 0} (a : Reader A) (count : ℕ) (bytes rest front : List ℕ) (xs : List A) → Cut a count bytes rest xs → front ≡ take (length bytes - length rest) bytes → Are a count front
cut_are {A} a count bytes rest front xs c e =
    let h : times a count front ≡ Ok (xs, []) = ap (times a count) e ∙ c.alone in
    h ∙ ap (λ (ys : List A). Ok (ys, [])) (sym (ap read_or_nil h))

pub cut_gives : {A : Type 0} (a : Reader A) (count : ℕ) (bytes rest front back : List ℕ) (xs : List A) → Cut a count bytes rest xs
    → front ≡ take (length bytes - length rest) bytes → back ≡ drop (length bytes - length rest) bytes → times a count bytes ≡ Ok (xs, rest)
    → times a count bytes ≡ Ok (values_in a count front, back)
cut_gives {A} a count bytes rest front back xs c e f h =
    let g : times a count front ≡ Ok (xs, []) = ap (times a count) e ∙ c.alone in
    h ∙ ap (λ (ys : List A). Ok (ys, rest)) (sym (ap read_or_nil g)) ∙ ap (λ (r : List ℕ). Ok (values_in a count front, r)) (sym (f ∙ c.left))

-- the first value of a slice, and the slice after it
pub record First {A : Type 0} (a : Reader A) (count : ℕ) (bytes : List ℕ) : Type 0 where
  pub value : A
  pub after : List ℕ
  pub read : a bytes ≡ Ok (value, after)
  pub are : Are a (count - 1) after
  pub is : values_in a count bytes ≡ value ∷ values_in a (count - 1) after

pub slice_first : {A : Type 0} (a : Reader A) (count : ℕ) (bytes : List ℕ) → Are a count bytes → 0 < count → First a count bytes
slice_first a zero bytes h lt = absurd (omega arith)
slice_first {A} a (suc n) bytes h lt =
    let k : suc n - 1 ≡ n = omega arith in
    let t = times_first a n bytes (values_in a (suc n) bytes) [] h in
    let rest : values_in a n t.1 ≡ t.2 = ap read_or_nil t.4 in
    record { value = t.0; after = t.1; read = t.3; are = rw k (t.4 ∙ ap (λ (l : List A). Ok (l, [])) (sym rest)); is = rw (k, rest) (sym t.5) }

pub slice_none : {A : Type 0} (a : Reader A) (bytes : List ℕ) → Are a 0 bytes → values_in a 0 bytes ≡ []
slice_none a bytes h = times_none a bytes (values_in a 0 bytes) [] h

pub First-read : {A : Type 0} (a : Reader A) (count : ℕ) (bytes : List ℕ) (x : A) (after : List ℕ) → First a count bytes → a bytes ≡ Ok (x, after)
    → Are a (count - 1) after × (values_in a count bytes ≡ x ∷ values_in a (count - 1) after)
First-read {A} a count bytes x after f e =
    let same : (f.value, f.after) ≡ (x, after) = ok_is _ _ (sym f.read ∙ e) in
    subst (λ (p : A × List ℕ). Are a (count - 1) p.1 × (values_in a count bytes ≡ p.0 ∷ values_in a (count - 1) p.1)) same (f.are, f.is)

pub First-fails : {A : Type 0} (a : Reader A) (count : ℕ) (bytes : List ℕ) (e : ImageFault) → First a count bytes → a bytes ≡ Err e → ⊥
First-fails a count bytes e f h = let both = sym f.read ∙ h in cc

-- The checks of all statements, one statement after the other.
use Rattle.std.proofs.Common.{◌≡◌, ℕ, zero, suc, ◌+◌, List, [], ◌∷◌, ◌++◌, length, take, Some, slice_get, refl, sym, ap, ◌∙◌, subst, arith}
use Rattle.std.specs.Prelude.{map, flat_map}
use Rattle.vcm_num.specs.declared.number.Kind.{Kind}
use Rattle.vcm_spec.specs.Setup.{Variable, Tables}
use Rattle.vcm_spec.specs.Fitting.{kinds}
use Rattle.vcm_code.specs.declared.code.Code.{Code}
use Rattle.vcm_fields.specs.declared.fault.ImageFault.{ImageFault}
use Rattle.vcm_code.specs.Code.{CodeStatement}
use Rattle.vcm_code.specs.Checks.{Check, Counts, counts_of, AllHold, op_checks}
use Rattle.vcm_loader.specs.Loading.{FirstFailedCheck}
use Rattle.vcm_code.proofs.Checked.{hold_append, hold_front, hold_back}
use Rattle.vcm_loader.proofs.Judgements.{first_here, first_later}

-- the first so many of these have what they want
abbrev pub HeldUpTo : {A : Type 0} → (A → List Check) → List A → ℕ → Type 0
HeldUpTo wanted xs n = AllHold (flat_map wanted (take n xs))

-- one more
pub held_more : {A : Type 0} (wanted : A → List Check) (xs : List A) (n : ℕ) (x : A) → HeldUpTo wanted xs n → slice_get xs n ≡ Some x → AllHold (wanted x) → HeldUpTo wanted xs (n + 1)
held_more wanted [] n x h e g = absurd cc
held_more wanted (y ∷ xs) zero x h e g =
    let same : y ≡ x = cc in
    subst (λ z. AllHold (wanted z ++ [])) (sym same) (hold_append (wanted x) [] g tt)
held_more wanted (y ∷ xs) (suc n) x h e g =
    let next : suc n + 1 ≡ suc (n + 1) = omega arith in
    let front = hold_front (wanted y) (flat_map wanted (take n xs)) h in
    let back = hold_back (wanted y) (flat_map wanted (take n xs)) h in
    subst (λ k. AllHold (flat_map wanted (take k (y ∷ xs)))) (sym next) (hold_append (wanted y) (flat_map wanted (take (n + 1) xs)) front (held_more wanted xs n x back e g))

-- the first fault of one of them, where all before it have what they want
pub first_of : {A : Type 0} (wanted : A → List Check) (xs : List A) (n : ℕ) (x : A) (e : ImageFault) → HeldUpTo wanted xs n → slice_get xs n ≡ Some x
    → FirstFailedCheck (wanted x) e → FirstFailedCheck (flat_map wanted xs) e
first_of wanted [] n x e h i f = absurd cc
first_of wanted (y ∷ xs) zero x e h i f =
    let same : y ≡ x = cc in
    first_here (wanted y) (flat_map wanted xs) e (subst (λ z. FirstFailedCheck (wanted z) e) (sym same) f)
first_of wanted (y ∷ xs) (suc n) x e h i f =
    first_later (wanted y) (flat_map wanted xs) e (hold_front (wanted y) (flat_map wanted (take n xs)) h) (first_of wanted xs n x e (hold_back (wanted y) (flat_map wanted (take n xs)) h) i f)

-- what a statement's operands want
abbrev pub of_line : Counts → CodeStatement → List Check
of_line t s = op_checks t s.op

-- the kinds of the first so many variables
abbrev pub KindsUpTo : List Variable → ℕ → List Kind → Type 0
KindsUpTo vs n ks = ks ≡ map (λ (v : Variable). v.kind) (take n vs)

pub kinds_more : (vs : List Variable) (n : ℕ) (ks more : List Kind) (v : Variable) (k : Kind) → KindsUpTo vs n ks → slice_get vs n ≡ Some v → k ≡ v.kind
    → more ≡ ks ++ k ∷ [] → KindsUpTo vs (n + 1) more
kinds_more vs n ks more v k h e same m = m ∙ ap (λ (j : Kind). ks ++ j ∷ []) same ∙ ap (λ l. l ++ v.kind ∷ []) h ∙ push vs n v e
  where
    push : (us : List Variable) (k : ℕ) (u : Variable) → slice_get us k ≡ Some u → map (λ (w : Variable). w.kind) (take k us) ++ u.kind ∷ [] ≡ map (λ (w : Variable). w.kind) (take (k + 1) us)
    push [] k u i = absurd cc
    push (w ∷ us) zero u i = let same : w ≡ u = cc in ap (λ (x : Variable). x.kind ∷ []) (sym same)
    push (w ∷ us) (suc k) u i = let next : suc k + 1 ≡ suc (k + 1) = omega arith in ap (λ l. w.kind ∷ l) (push us k u i) ∙ ap (λ j. map (λ (x : Variable). x.kind) (take j (w ∷ us))) (sym next)

-- what the statements of a code are judged by
abbrev pub judged : Code → Counts
judged c = counts_of c.tables (length c.statements)

pub counts_same : (tables : Tables) (ks : List Kind) (f d s : ℕ) → ks ≡ kinds tables → f ≡ length tables.features → d ≡ length tables.frames
    → record { kinds = ks; features = f; frames = d; statements = s } ≡ counts_of tables s
counts_same tables ks f d s e g h = rw (e, g, h) refl

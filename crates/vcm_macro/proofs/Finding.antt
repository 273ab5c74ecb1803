-- The macro that a name stands for.
use Rattle.std.proofs.Common.{◌≡◌, ℕ, zero, suc, ◌-◌, ◌<◌, ◌≤◌, Bool, true, false, List, [], ◌∷◌, ◌++◌, length, take, Some, refl, ap, ◌∙◌, arith, get_or}
use Rattle.std.specs.Prelude.{reverse, if◌then◌else◌}
use Rattle.std.specs.List.{slice_get}
use Rattle.std.proofs.lemmas.List.{reverse-append}
use Rattle.std.proofs.lemmas.Option.{slice_get_read}
use Rattle.vcm_substitution.specs.Substitution.{is_same}
use Rattle.vcm_macro.specs.Walk.{Defined, Calls, body_in, call_in}
use Rattle.vcm_macro.specs.inner.Expanding.{found, IsFoundAt, call_by}
use Rattle.vcm_forms.specs.declared.statement.Argument.{Argument}

take_more : {A : Type 0} (xs : List A) (i : ℕ) (x : A) → slice_get xs i ≡ Some x → take (suc i) xs ≡ take i xs ++ x ∷ []
take_more [] i x e = absurd cc
take_more (y ∷ xs) zero x e = cc
take_more (y ∷ xs) (suc i) x e = ap (λ (t : List _). y ∷ t) (take_more xs i x e)

found_here : (m : Defined) (ms : List Defined) (name : List ℕ) → is_same m.name name ≡ true → found (m ∷ ms) name ≡ Some (m, ms)
found_here m ms name e = rw e refl

pub is_found : (ms : List Defined) (name : List ℕ) (n : ℕ) (m : Defined) → 0 < n → n ≤ length ms → m ≡ get_or ms (n - 1) m → is_same m.name name ≡ true
    → found (reverse ms) name ≡ found (reverse (take n ms)) name → IsFoundAt ms name (n - 1)
is_found ms name n m positive le here same e =
    let g = slice_get_read ms (length ms) (n - 1) m refl (omega (arith, positive, le)) here in
    let s : n ≡ suc (n - 1) = omega (arith, positive) in
    let t : take n ms ≡ take (n - 1) ms ++ m ∷ [] = ap (λ (k : ℕ). take k ms) s ∙ take_more ms (n - 1) m g in
    let r : reverse (take n ms) ≡ m ∷ reverse (take (n - 1) ms) = ap reverse t ∙ reverse-append (take (n - 1) ms) (m ∷ []) in
    record {
      macro = m;
      within = omega (arith, positive, le);
      is = g;
      found = e ∙ ap (λ (l : List Defined). found l name) r ∙ found_here m (reverse (take (n - 1) ms)) name same;
    }

-- a CALL goes on as its name is found
pub call_found : (ms : List Defined) (line depth done : ℕ) (name : List ℕ) (bs : List Argument) → call_in ms line depth done name bs ≡ call_by (found ms name) line depth done bs
call_found [] line depth done name bs = refl
call_found (m ∷ ms) line depth done name bs = cases (is_same m.name name) (call_found ms line depth done name bs)
  where
    cases : (b : Bool) → call_in ms line depth done name bs ≡ call_by (found ms name) line depth done bs
        → (elim b [
          | true ↦ Calls line depth (Some m) bs
              ∷ body_in (call_in ms) (record { parameters = m.parameters; arguments = bs; expansion = suc done }) (suc depth) (suc done) m.body
          | false ↦ call_in ms line depth done name bs
        ]) ≡ call_by (if b then Some (m, ms) else found ms name) line depth done bs
    cases true ih = refl
    cases false ih = ih

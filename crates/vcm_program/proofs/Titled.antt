-- Names of features and frames, and the indexes at which they stand.
use Rattle.std.proofs.Common.{◌≡◌, ℕ, suc, ◌+◌, ◌<◌, ◌≤◌, Bool, true, false, cond, not, ◌||◌, List, [], ◌∷◌, ◌++◌, length, Option, Some, None, Result, Ok, Err}
use Rattle.std.proofs.Common.{refl, sym, ap, ◌∙◌, subst, nat_eq, nat_lt, arith}
use Rattle.std.specs.Prelude.{if◌then◌else◌}
use Rattle.std.specs.List.{list_any, position, position_or_len}
use Rattle.std.specs.Option.{is_some}
use Rattle.std.specs.Cmp.Lexicographic.{pointwise}
use Rattle.vcm_nodes.proofs.SameNames.{same_name}
use Rattle.vcm_lines.specs.declared.fault.FaultCode.{FaultCode}
use Rattle.vcm_lines.specs.declared.fault.FaultCode.TheVariants.{UnknownName, TooManyNames}
use Rattle.vcm_spec.specs.Program.{is_same_name}
use Rattle.vcm_lines.specs.Fault.{or_fault}
use Rattle.vcm_program.specs.Titles.{index_of, known, entered_by, entered, with_name_by, with_name}

-- a place is found where some element passes
next_test : (m n : ℕ) → nat_lt (1 + m) (suc n) ≡ nat_lt m n
next_test m n = grind arith

place_any : {X : Type 0} (p : X → Bool) (xs : List X) → nat_lt (position_or_len p xs) (length xs) ≡ list_any p xs
place_any p [] = refl
place_any p (x ∷ xs) = either (p x) (position_or_len p xs) (length xs) (list_any p xs) (place_any p xs)
  where
    either : (b : Bool) (m n : ℕ) (c : Bool) → nat_lt m n ≡ c → nat_lt (cond (not b) (1 + m) 0) (suc n) ≡ (b || c)
    either true m n c e = grind arith
    either false m n c e = next_test m n ∙ e

is_some-cond : (b : Bool) (n : ℕ) → is_some (cond b (Some n) None) ≡ b
is_some-cond true n = refl
is_some-cond false n = refl

pub position_any : {X : Type 0} (p : X → Bool) (xs : List X) → is_some (position p xs) ≡ list_any p xs
position_any p xs = is_some-cond (nat_lt (position_or_len p xs) (length xs)) (position_or_len p xs) ∙ place_any p xs

-- tests that agree find the same place
or_len_same : {X : Type 0} (p q : X → Bool) → ((x : X) → p x ≡ q x) → (xs : List X) → position_or_len p xs ≡ position_or_len q xs
or_len_same p q e [] = refl
or_len_same p q e (x ∷ xs) = rw (e x, or_len_same p q e xs) refl

pub position_same : {X : Type 0} (p q : X → Bool) → ((x : X) → p x ≡ q x) → (xs : List X) → position p xs ≡ position q xs
position_same p q e xs = rw (or_len_same p q e xs) refl

-- what stands at a place stands in the list
position_below : {X : Type 0} (p : X → Bool) (xs : List X) (i : ℕ) → position p xs ≡ Some i → i < length xs
position_below p xs i e = by (nat_lt (position_or_len p xs) (length xs)) refl e
  where
    by : (b : Bool) → nat_lt (position_or_len p xs) (length xs) ≡ b → cond b (Some (position_or_len p xs)) None ≡ Some i → i < length xs
    by true f g = (let same : position_or_len p xs ≡ i = cc in subst (λ (n : ℕ). n < length xs) same (grind (arith, f)))
    by false f g = absurd cc

pub index_below : (names : List (List ℕ)) (l : List ℕ) (i : ℕ) → index_of names l ≡ Some i → i < length names
index_below names l i e = position_below (λ n. is_same_name l n) names i e

-- a name that is declared above stands in the list
pub known_below : (names : List (List ℕ)) (l : List ℕ) (i : ℕ) → known names l ≡ Ok i → i < length names
known_below names l i e = by (index_of names l) refl e
  where
    by : (o : Option ℕ) → index_of names l ≡ o → or_fault UnknownName o ≡ Ok i → i < length names
    by (Some j) f g = (let same : j ≡ i = cc in subst (λ (n : ℕ). n < length names) same (index_below names l j f))
    by None f g = absurd cc

longer : (names : List (List ℕ)) (l : List ℕ) → length names < length (names ++ l ∷ [])
longer [] l = omega arith
longer (n ∷ names) l = (let h = longer names l in omega (arith, h))

-- a name that is entered stands in the list behind it
pub entered_below : (names : List (List ℕ)) (l : List ℕ) (i : ℕ) → entered names l ≡ Ok i → i < length (with_name names l)
entered_below names l i e = by (index_of names l) refl e
  where
    few : (t : Bool) → (if t then Ok (length names) else Err TooManyNames) ≡ Ok i → i < length (names ++ l ∷ [])
    few true f = (let same : length names ≡ i = cc in subst (λ (n : ℕ). n < length (names ++ l ∷ [])) same (longer names l))
    few false f = absurd cc

    by : (o : Option ℕ) → index_of names l ≡ o → entered_by names o ≡ Ok i → i < length (with_name_by names l o)
    by (Some j) f g = (let same : j ≡ i = cc in subst (λ (n : ℕ). n < length names) same (index_below names l j f))
    by None f g = few (nat_lt (length names) 4096) g

-- a name that isn't there is added behind the others
pub name_added : (names : List (List ℕ)) (l : List ℕ) → index_of names l ≡ None → (if list_any (pointwise nat_eq l) names then names else names ++ l ∷ []) ≡ with_name names l
name_added names l e =
    let found : position (pointwise nat_eq l) names ≡ index_of names l = position_same (pointwise nat_eq l) (is_same_name l) (same_name l) names in
    let none : list_any (pointwise nat_eq l) names ≡ false = sym (position_any (pointwise nat_eq l) names) ∙ ap is_some (found ∙ e) in
    ap (λ b. if b then names else names ++ l ∷ []) none ∙ sym (ap (with_name_by names l) e)

-- no name falls away
pub with_name_longer : (names : List (List ℕ)) (l : List ℕ) → length names ≤ length (with_name names l)
with_name_longer names l = by (index_of names l)
  where
    by : (o : Option ℕ) → length names ≤ length (with_name_by names l o)
    by (Some j) = omega arith
    by None = (let h = longer names l in omega (arith, h))

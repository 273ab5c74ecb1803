-- What a map of variables says of the list of them, and what their names are.
use Rattle.std.proofs.Common.{◌≡◌, ◌<◌, ◌≤◌, ℕ, ◌+◌, Bool, true, false, cond, not, ◌||◌, List, [], ◌∷◌, ◌++◌, length, zero, suc, Option, Some, None, refl, sym, ap, subst, ◌∙◌, arith}
use Rattle.std.specs.Prelude.{nat_lt, nat_eq, is_some, map, ◌&&◌, slice_get}
use Rattle.std.specs.List.{position, position_or_len, list_any}
use Rattle.std.specs.Map.{keys_of, lookup}
use Rattle.std.specs.Char.{is_ascii_uppercase}
use Rattle.std.proofs.lemmas.Bool.{and_parts}
use Rattle.std.proofs.lemmas.List.{length-append, length-map, map-append}
use Rattle.std.specs.Cmp.Lexicographic.{pointwise}
use Rattle.vcm_num.specs.declared.number.Kind.{Kind}
use Rattle.vcm_items.specs.NameBytes.{is_name, IsName, IsVariableName}
use Rattle.vcm_spec.specs.Setup.{Variable, kinds_of}
use Rattle.vcm_items.specs.Names.{variable_in, is_named, AreNamed}

step_place : (b : Bool) (m n : ℕ) → m ≡ n → cond (not b) (1 + m) 0 ≡ cond (not b) (1 + n) 0
step_place b m n e = ap (λ (k : ℕ). cond (not b) (1 + k) 0) e

place_keys : {K X : Type 0} (p : K → Bool) (es : List (K × X)) → position_or_len p (keys_of es) ≡ position_or_len (λ e. p e.0) es
place_keys p [] = refl
place_keys p (e ∷ es) = step_place (p e.0) _ _ (place_keys p es)

length_keys : {K X : Type 0} (es : List (K × X)) → length (keys_of es) ≡ length es
length_keys [] = refl
length_keys (e ∷ es) = ap suc (length_keys es)

same_place : (m n a b : ℕ) → m ≡ n → a ≡ b → cond (nat_lt m a) (Some m) None ≡ cond (nat_lt n b) (Some n) None
same_place m n a b e f = ap (λ (k : ℕ). cond (nat_lt k a) (Some k) None) e ∙ ap (λ (k : ℕ). cond (nat_lt n k) (Some n) None) f

any_map : {X Y : Type 0} (f : X → Y) (p : Y → Bool) (xs : List X) → list_any p (map f xs) ≡ list_any (λ x. p (f x)) xs
any_map f p [] = refl
any_map f p (x ∷ xs) = ap (λ (b : Bool). p (f x) || b) (any_map f p xs)

place_map : {X Y : Type 0} (f : X → Y) (p : Y → Bool) (xs : List X) → position_or_len p (map f xs) ≡ position_or_len (λ x. p (f x)) xs
place_map f p [] = refl
place_map f p (x ∷ xs) = step_place (p (f x)) _ _ (place_map f p xs)

-- the place of a variable is that of its entry
position_map : {X Y : Type 0} (f : X → Y) (p : Y → Bool) (xs : List X) → position p (map f xs) ≡ position (λ x. p (f x)) xs
position_map f p xs = same_place _ _ _ _ (place_map f p xs) (length-map xs f)

-- the place of a key is that of its entry
position_keys : {K X : Type 0} (p : K → Bool) (es : List (K × X)) → position p (keys_of es) ≡ position (λ e. p e.0) es
position_keys p es = same_place _ _ _ _ (place_keys p es) (length_keys es)

-- the place of a key is that of its variable
pub position_named : (expansion : ℕ) (name : List ℕ) (es : List ((ℕ × List ℕ) × Kind))
    → position (λ k. nat_eq expansion k.0 && pointwise nat_eq name k.1) (keys_of es) ≡ position (is_named expansion name) (map variable_in es)
position_named expansion name es = position_keys _ es ∙ sym (position_map variable_in (is_named expansion name) es)

-- the kind of a variable is that of its entry
pub kind_at : (es : List ((ℕ × List ℕ) × Kind)) (i : ℕ) (e : (ℕ × List ℕ) × Kind) → slice_get es i ≡ Some e → slice_get (kinds_of (map variable_in es)) i ≡ Some e.1
kind_at [] i e h = absurd cc
kind_at (x ∷ es) zero e h = (let same : x ≡ e = cc in ap (λ (y : (ℕ × List ℕ) × Kind). Some y.1) same)
kind_at (x ∷ es) (suc i) e h = kind_at es i e h

-- a look-up that finds, or doesn't, says whether there is such an entry
lookup_any : {K X : Type 0} (p : K → Bool) (es : List (K × X)) → is_some (lookup p es) ≡ list_any (λ e. p e.0) es
lookup_any p [] = refl
lookup_any p (e ∷ es) = either (p e.0) e.1 (lookup p es) _ (lookup_any p es)
  where
    either : {X : Type 0} (b : Bool) (x : X) (o : Option X) (c : Bool) → is_some o ≡ c → is_some (cond b (Some x) o) ≡ (b || c)
    either true x o c e = refl
    either false x o c e = e

-- and so whether there is such a variable
pub lookup_named : (expansion : ℕ) (name : List ℕ) (es : List ((ℕ × List ℕ) × Kind))
    → is_some (lookup (λ k. nat_eq expansion k.0 && pointwise nat_eq name k.1) es) ≡ list_any (is_named expansion name) (map variable_in es)
lookup_named expansion name es = lookup_any _ es ∙ sym (any_map variable_in (is_named expansion name) es)

-- no entry, so none is looked up
pub lookup_none : {K X : Type 0} (p : K → Bool) (es : List (K × X)) → is_some (lookup p es) ≡ false → lookup p es ≡ None
lookup_none p es e = none (lookup p es) e
  where
    none : {X : Type 0} (o : Option X) → is_some o ≡ false → o ≡ None
    none None e = refl
    none (Some x) e = absurd cc

-- a variable's name is a name
pub variable_name_is_name : (bs : List ℕ) → IsVariableName bs → IsName bs
variable_name_is_name [] e = absurd cc
variable_name_is_name (b ∷ bs) e = (and_parts (is_ascii_uppercase b) (is_name (b ∷ bs)) e).1

-- one variable more that has a variable's name
pub one_more_named : (vs : List Variable) (v : Variable) → AreNamed vs → IsVariableName v.name → AreNamed (vs ++ v ∷ [])
one_more_named [] v h n = (n, tt)
one_more_named (w ∷ vs) v h n = (h.0, one_more_named vs v h.1 n)

-- and where there is room for it
pub one_more : (es : List ((ℕ × List ℕ) × Kind)) (e : (ℕ × List ℕ) × Kind) → length (map variable_in es) < 4096 → AreNamed (map variable_in es) → IsVariableName e.0.1
    → (length (es ++ e ∷ []) ≤ 4096) × AreNamed (map variable_in (es ++ e ∷ []))
one_more es e room h n =
    let few : length es < 4096 = subst (λ (k : ℕ). k < 4096) (length-map es variable_in) room in
    (rw (length-append es (e ∷ [])) (omega (arith, few)), rw (map-append variable_in es (e ∷ [])) (one_more_named (map variable_in es) (variable_in e) h n))

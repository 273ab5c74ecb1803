-- Names are compared byte by byte.
use Rattle.std.proofs.Common.{◌≡◌, ℕ, Bool, true, ◌&&◌, nat_eq, List, [], ◌∷◌, refl, sym, ap, ◌∙◌, arith}
use Rattle.std.specs.Cmp.Lexicographic.{pointwise}
use Rattle.vcm_spec.specs.Program.{is_same_name}

pub same_name : (a b : List ℕ) → pointwise nat_eq a b ≡ is_same_name a b
same_name [] [] = refl
same_name [] (y ∷ b) = refl
same_name (x ∷ a) [] = refl
same_name (x ∷ a) (y ∷ b) = ap (λ r. nat_eq x y && r) (same_name a b)

alone : (t : Bool) (m n : List ℕ) → t ≡ true → pointwise nat_eq m n ≡ (t && is_same_name m n)
alone t m n e = same_name m n ∙ ap (λ u. u && is_same_name m n) (sym e)

pub name_alone : (a b : ℕ) (m n : List ℕ) → a ≡ b → pointwise nat_eq m n ≡ (nat_eq a b && is_same_name m n)
name_alone a b m n e = alone (nat_eq a b) m n (grind (arith, e))

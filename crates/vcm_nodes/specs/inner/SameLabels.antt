-- Labels that are the same are equal. So they may be the keys of a table.
use Rattle.std.specs.Prelude.{◌≡◌, ℕ, ◌&&◌, List, [], ◌∷◌, refl}
use Rattle.std.proofs.Common.{ap}
use Rattle.std.specs.Cmp.{IsEquivalence, nat_eq_equiv}
use Rattle.vcm_spec.specs.Program.{Label, is_same_name, is_same_label}
pub use Rattle.vcm_spec.proofs.Labels.{same_label}
use Rattle.vcm_spec.proofs.Labels.{label_itself}

name_sym : (a b : List ℕ) → is_same_name a b ≡ is_same_name b a
name_sym [] [] = refl
name_sym [] (y ∷ ys) = refl
name_sym (x ∷ xs) [] = refl
name_sym (x ∷ xs) (y ∷ ys) = λ i. nat_eq_equiv.symm x y i && name_sym xs ys i

-- where a label is the same as another one, that one is the same as it
pub label_sym : (k l : Label) → is_same_label k l ≡ is_same_label l k
label_sym k l = λ i. nat_eq_equiv.symm k.expansion l.expansion i && name_sym k.name l.name i

-- a label is the same as itself, and those that are the same stand for one another
pub label_equiv : IsEquivalence is_same_label
label_equiv = record {
  refl = label_itself;
  symm = label_sym;
  congr = λ k l m e. ap (λ x. is_same_label x m) (same_label k l e);
}

-- What a SELECT chooses by the rules is the computed choice.
use Rattle.std.proofs.Common.{◌≡◌, ◌≢◌, ℕ, ◌+◌, ℤ, Bool, true, false, List, ◌∷◌, Option, Some, None, refl, sym, ap, ◌∙◌, subst}
use Rattle.std.proofs.lemmas.Bool.Decides.{Decides-int_eq}
use Rattle.std.specs.Ordering.{int_eq}
use Rattle.vcm_spec.specs.Program.{Block, Cases, no_more, one_case, default, sizes, this_or, chosen}
use Rattle.vcm_spec.specs.Rules.{Chooses, case_has_it, case_has_another, default_is_left, ChoosesNone, none_is_left, case_has_it_not}
use Rattle.vcm_spec.specs.Whole.{Jumps, CasesJump}

pub same_value : (z v : ℤ) → int_eq z v ≡ true → z ≡ v
same_value z v e = (Decides-int_eq z v).0 e

pub value_itself : (z : ℤ) → int_eq z z ≡ true
value_itself z = (Decides-int_eq z z).1 refl

pub other_value : (z v : ℤ) → z ≢ v → int_eq z v ≡ false
other_value z v other = by (int_eq z v) refl
  where
    by : (t : Bool) → int_eq z v ≡ t → t ≡ false
    by true e = absurd (other (same_value z v e))
    by false e = refl

pub differs : (z v : ℤ) → int_eq z v ≡ false → z ≢ v
differs z v e same = absurd (let t : true ≡ false = sym (value_itself z) ∙ ap (int_eq z) same ∙ e in cc)

pub chooses_is : (z : ℤ) (cases : Cases) (base : ℕ) (block : Block) (first : ℕ) → Chooses z cases base block first → chosen z cases base ≡ Some (block, first)
chooses_is z _ _ _ _ (case_has_it {base = base} {block = b} {rest = rest}) =
    ap (λ t. this_or t (b, base + 1) (chosen z rest (base + 1 + sizes b + 1))) (value_itself z)
chooses_is z _ _ there first (case_has_another {base = base} {value = v} {block = b} {rest = rest} other h) =
    ap (λ t. this_or t (b, base + 1) (chosen z rest (base + 1 + sizes b + 1))) (other_value z v other)
    ∙ chooses_is z rest (base + 1 + sizes b + 1) there first h
chooses_is z _ _ _ _ default_is_left = refl

pub chooses_none : (z : ℤ) (cases : Cases) (base : ℕ) → ChoosesNone z cases → chosen z cases base ≡ None
chooses_none z _ base none_is_left = refl
chooses_none z _ base (case_has_it_not {value = v} {block = b} {rest = rest} other h) =
    ap (λ t. this_or t (b, base + 1) (chosen z rest (base + 1 + sizes b + 1))) (other_value z v other)
    ∙ chooses_none z rest (base + 1 + sizes b + 1) h

-- what the computed choice is by the rules
abbrev pub IsChosen : ℤ → Cases → ℕ → Option (Block × ℕ) → Type 0
IsChosen z cases base None = ChoosesNone z cases
IsChosen z cases base (Some p) = Chooses z cases base p.0 p.1

pub chosen_is : (z : ℤ) (cases : Cases) (base : ℕ) → IsChosen z cases base (chosen z cases base)
chosen_is z no_more base = none_is_left
chosen_is z (one_case line v b close rest) base =
    by (int_eq z v) refl (chosen z rest (base + 1 + sizes b + 1)) (chosen_is z rest (base + 1 + sizes b + 1))
  where
    by : (t : Bool) → int_eq z v ≡ t → (o : Option (Block × ℕ)) → IsChosen z rest (base + 1 + sizes b + 1) o
        → IsChosen z (one_case line v b close rest) base (this_or t (b, base + 1) o)
    by true e o h = subst (λ y. Chooses z (one_case line y b close rest) base b (base + 1)) (same_value z v e) case_has_it
    by false e None h = case_has_it_not (differs z v e) h
    by false e (Some p) h = case_has_another (differs z v e) h
chosen_is z (default line b close) base = default_is_left

-- the jumps of the chosen block
pub chosen_jumps : {z : ℤ} {cases : Cases} {base first : ℕ} {block : Block} (around : List Block) → Chooses z cases base block first → CasesJump cases around
    → Jumps block (block ∷ around)
chosen_jumps around case_has_it h = h.0
chosen_jumps around (case_has_another other k) h = chosen_jumps around k h.1
chosen_jumps around default_is_left h = h

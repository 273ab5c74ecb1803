-- Items and expressions: what is read is spelled so, and what is spelled so is read again.
use Rattle.std.proofs.Common.{◌≡◌, ℕ, zero, suc, ◌<◌, ◌^◌, true, false, inl, inr, List, ◌∷◌, length, Some, None, refl, sym, ap, ◌∙◌, subst, arith}
use Rattle.std.specs.Prelude.{decimal}
use Rattle.std.specs.Fmt.{signed_decimal}
use Rattle.std.specs.List.{AllByRecursion}
use Rattle.std.proofs.lemmas.Fmt.{decimal_digit}
use Rattle.vcm_spec.specs.declared.expression.Operand.{Operand}
use Rattle.vcm_spec.specs.declared.expression.Operand.TheVariants.{Integer, Thousandths, Truth, Variable}
use Rattle.vcm_spec.specs.declared.expression.UnaryOp.TheVariants.{Neg}
use Rattle.vcm_spec.specs.declared.expression.Relation.TheVariants.{Equal}
use Rattle.vcm_spec.specs.declared.expression.BinaryOp.TheVariants.{Compare}
use Rattle.vcm_spec.specs.declared.expression.Item.{Item}
use Rattle.vcm_spec.specs.declared.expression.Item.TheVariants.{Push, Apply, Combine}
use Rattle.vcm_fields.specs.inner.Fitting.{FitsExpression}
use Rattle.vcm_fields.proofs.ItemParts.{in_range, range_in}
use Rattle.vcm_fields.specs.Readers.{within}
use Rattle.vcm_fields.specs.Widths.{FitsOperand, FitsItem}
use Rattle.vcm_words.specs.Numbers.{natural, number, signed, counted}
use Rattle.vcm_num.specs.Words.{look_up}
use Rattle.vcm_words.specs.WordReaders.{marked, rows_of}
use Rattle.vcm_words.specs.Enclosed.{between}
use Rattle.vcm_words.specs.Items.{truth_text, operand_text, item_text, expression, operators, truth_of, operand_in, item_in, expression_at}
use Rattle.vcm_words.proofs.Inverse.{Means, Reads, reads_tested}
use Rattle.vcm_words.proofs.EnclosedLaws.{SomeOf, reads_between}
use Rattle.vcm_words.proofs.NumberLaws.{natural_again, whole_again, means_number, means_signed, decimal_word, decimal_without_high, signed_without_high}
use Rattle.vcm_words.proofs.WordLaws.{or_else_takes, option_map_takes, means_marked}
use Rattle.vcm_words.proofs.TableLaws.{IsPlain, plain_word, table_takes}
use Rattle.std.specs.Option.{option_map}

-- ---- leaves

integers : Means (marked 73 (signed true)) (λ n. 73 ∷ signed_decimal n) (λ n. FitsOperand (Integer n))
integers = means_marked 73 refl refl means_signed

thousandths : Means (marked 82 (signed true)) (λ n. 82 ∷ signed_decimal n) (λ n. FitsOperand (Thousandths n))
thousandths = means_marked 82 refl refl means_signed

truths : Means (marked 66 (number true 2)) (λ n. 66 ∷ decimal n) (λ n. n < 2)
truths = means_marked 66 refl refl (means_number 2 (omega arith))

variables : Means (marked 86 (number true (2 ^ 16))) (λ n. 86 ∷ decimal n) (λ n. n < 2 ^ 16)
variables = means_marked 86 refl refl (means_number (2 ^ 16) (omega arith))

truth_spelled : (n : ℕ) → n < 2 → 66 ∷ decimal n ≡ truth_text (truth_of n)
truth_spelled zero h = ap (λ ds. 66 ∷ ds) (decimal_digit 0 (omega arith))
truth_spelled (suc zero) h = ap (λ ds. 66 ∷ ds) (decimal_digit 1 (omega arith))
truth_spelled (suc (suc n)) h = absurd (omega arith)

Leaf : List ℕ → Operand → Type 0
Leaf w x = (w ≡ operand_text x) × FitsOperand x

operand_takes : (w : List ℕ) (x : Operand) → operand_in true w ≡ Some x → Leaf w x
unfolding operand_in Leaf
operand_takes w x e = elim (or_else_takes (option_map Integer (marked 73 (signed true) w)) _ x e) [
  | inl f ↦
      let p = option_map_takes Integer (marked 73 (signed true) w) x f in
      subst (Leaf w) p.2 (integers.takes w p.0 p.1)
  | inr f ↦ elim (or_else_takes (option_map Thousandths (marked 82 (signed true) w)) _ x f) [
    | inl g ↦
        let p = option_map_takes Thousandths (marked 82 (signed true) w) x g in
        subst (Leaf w) p.2 (thousandths.takes w p.0 p.1)
    | inr g ↦ elim (or_else_takes (option_map (λ n. Truth (truth_of n)) (marked 66 (number true 2) w)) _ x g) [
      | inl h ↦
          let p = option_map_takes (λ n. Truth (truth_of n)) (marked 66 (number true 2) w) x h in
          let t = truths.takes w p.0 p.1 in
          subst (Leaf w) p.2 (t.0 ∙ truth_spelled p.0 t.1, tt)
      | inr h ↦
          let p = option_map_takes Variable (marked 86 (number true (2 ^ 16)) w) x h in
          subst (Leaf w) p.2 (variables.takes w p.0 p.1)
    ]
  ]
]

operand_again : (x : Operand) → FitsOperand x → operand_in true (operand_text x) ≡ Some x
unfolding operand_in
operand_again (Integer n) h = rw (whole_again n h) refl
operand_again (Thousandths n) h = rw (whole_again n h) refl
operand_again (Truth false) h = rw (ap (natural 2) (sym (decimal_digit 0 (omega arith))) ∙ natural_again 2 0 (omega arith) (omega arith)) refl
operand_again (Truth true) h = rw (ap (natural 2) (sym (decimal_digit 1 (omega arith))) ∙ natural_again 2 1 (omega arith) (omega arith)) refl
operand_again (Variable v) h = rw (natural_again (2 ^ 16) v h (omega arith)) refl

-- ---- items

operators_fit : AllByRecursion FitsItem operators
operators_fit = (tt, (tt, (tt, (tt, (tt, (tt, (tt, (tt, (tt, (tt, (tt, (tt, (tt, (tt, (tt, tt)))))))))))))))

item_takes : (w : List ℕ) (i : Item) → item_in true w ≡ Some i → (w ≡ item_text i) × FitsItem i
unfolding item_in Leaf
item_takes w i e = elim (or_else_takes (look_up (rows_of item_text operators) w) _ i e) [
  | inl f ↦ table_takes item_text FitsItem operators w i operators_fit f
  | inr f ↦
      let p = option_map_takes Push (operand_in true w) i f in
      subst (λ (j : Item). (w ≡ item_text j) × FitsItem j) p.2 (operand_takes w p.0 p.1)
]

no_operator : (x : Operand) → look_up (rows_of item_text operators) (operand_text x) ≡ None
no_operator (Truth false) = refl
no_operator _ = refl

item_again : (i : Item) → FitsItem i → item_in true (item_text i) ≡ Some i
unfolding item_in
item_again (Push x) h = rw (no_operator x, operand_again x h) refl
item_again (Apply Neg) h = refl
item_again (Combine (Compare Equal)) h = refl
item_again _ h = refl

-- a mark that no item's word has, as a blank or a bracket
item_plain : (i : Item) → FitsItem i → IsPlain (item_text i)
item_plain (Push (Integer n)) h = let d = means_signed.words n h in (((refl, d.0), (refl, d.1)), (refl, signed_without_high 93 n (omega arith) h))
item_plain (Push (Thousandths n)) h = let d = means_signed.words n h in (((refl, d.0), (refl, d.1)), (refl, signed_without_high 93 n (omega arith) h))
item_plain (Push (Variable v)) h = let d = decimal_word v (omega (arith, h)) in (((refl, d.0), (refl, d.1)), (refl, decimal_without_high 93 v (omega arith) (omega (arith, h))))
item_plain (Push (Truth false)) h = plain_word (item_text (Push (Truth false))) refl
item_plain (Apply Neg) h = plain_word (item_text (Apply Neg)) refl
item_plain (Combine (Compare Equal)) h = plain_word (item_text (Combine (Compare Equal))) refl
item_plain i h = plain_word (item_text i) refl

means_item : Means (item_in true) item_text FitsItem
means_item = record { takes = item_takes; again = item_again; words = λ i h. (item_plain i h).0 }

-- ---- brackets

reads_bracketed : Reads (between 91 93 (item_in true)) expression (SomeOf FitsItem)
reads_bracketed = reads_between 91 93 ((refl, refl), (refl, refl)) means_item (λ i h. (item_plain i h).1)

-- an expression of 1 to 1,024 items
pub reads_expression : Reads (expression_at true) expression FitsExpression
unfolding expression_at
reads_expression = reads_tested reads_bracketed (λ is. counted true (within 1 1024 (length is))) FitsExpression
    (λ is h e. (in_range 1 1024 (length is) e, h.1)) (λ is h. ((omega (arith, h.0.0), h.1), range_in 1 1024 (length is) h.0))

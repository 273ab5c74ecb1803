-- Statements: what is read is spelled so, and what is spelled so is read again.
use Rattle.std.proofs.Common.{◌≡◌, ℕ, ◌^◌, Bool, true, List, [], ◌∷◌, ◌++◌, Some, refl, sym, ap, ◌∙◌, subst, arith}
use Rattle.std.specs.Prelude.{codes}
use Rattle.std.specs.List.{AllByRecursion}
use Rattle.vcm_spec.specs.declared.words.Setting.TheVariants.{Approach}
use Rattle.vcm_spec.specs.declared.expression.Operand.TheVariants.{Truth}
use Rattle.vcm_spec.specs.declared.expression.Item.TheVariants.{Push}
use Rattle.vcm_code.specs.declared.version.Version.{Version}
use Rattle.vcm_code.specs.declared.word.Word.{Word}
use Rattle.vcm_code.specs.declared.word.Word.TheVariants as words
use Rattle.vcm_spec.specs.declared.simple.Simple.TheVariants.{SnSet}
use Rattle.vcm_code.specs.declared.op.Op.TheVariants.{Plain}
use Rattle.vcm_code.specs.Code.{Op}
use Rattle.vcm_code.specs.Words.{word_of, word_text}
use Rattle.vcm_fields.specs.inner.Fitting.{FitsPlace, FitsOperation, FitsLine}
use Rattle.vcm_code.specs.Shape.{Filled, Form, form, form_of, places_in, made_in, places, op_in, Parted, parted, word_in, put_together, taken_apart, over_places, over_parted, InPlaces, InParted}
use Rattle.vcm_code.proofs.Shapes.{apart_made, together_apart}
use Rattle.vcm_words.specs.inner.Marks.{IsWord}
use Rattle.vcm_words.specs.WordReaders.{via}
use Rattle.vcm_words.specs.Operands.{single, place_words, filled_at, operands, form_at, operands_at, line, op_at, line_at}
use Rattle.vcm_words.proofs.Inverse.{Ends, Bare, via_takes, via_again, ends_via, ends_both, ends_tag}
use Rattle.vcm_words.proofs.PlaceLaws.{in_order, ends_filled, Has, reads_number, reads_word}

-- a worked example: the operands of SNSET are the word of the setting and an expression
example_words : operands (Plain (SnSet Approach (Push (Truth true) ∷ []))) ≡ codes "APPRCH" ∷ codes "[B1]" ∷ []
example_words = refl

-- ---- operands

ordered : (w : Word) → in_order (places w) ≡ true
ordered words.EndFil = refl
ordered _ = refl

ends_places : (w : Word) → Ends (filled_at true (places w)) (over_places place_words (places w)) (InPlaces FitsPlace (places w))
ends_places w = ends_filled (places w) (ordered w)

-- an operation of this word that fits
Of : Word → Op → Type 0
Of w o = (word_of o ≡ w) × FitsOperation o

-- a form is read place by place
form_is : (exact : Bool) (fm : Form) (ws : List (List ℕ)) → form_at exact fm ws ≡ via (made_in fm) (filled_at exact (places_in fm)) ws
form_is exact (form ps make) ws = refl

operands_are : (w : Word) (ws : List (List ℕ)) → operands_at true w ws ≡ via (op_in w) (filled_at true (places w)) ws
unfolding operands_at
operands_are w ws = form_is true (form_of w) ws

made_fits : (w : Word) (f : Filled (places w)) → InPlaces FitsPlace (places w) f → Of w (op_in w f)
unfolding Of
made_fits w f h = (ap word_in (apart_made w f), subst (InParted FitsPlace) (sym (apart_made w f)) h)

operands_take : (w : Word) (ws : List (List ℕ)) (x : Op × List (List ℕ)) → Bare ws → operands_at true w ws ≡ Some x → (ws ≡ operands x.0 ++ x.1) × Of w x.0
operands_take w ws x bare e =
    via_takes (ends_places w) (op_in w) operands (Of w) (λ f h. ap (over_parted place_words) (apart_made w f)) (made_fits w) ws x bare (sym (operands_are w ws) ∙ e)

parted_again : (p : Parted) → InParted FitsPlace p → operands_at true (word_in p) (over_parted place_words p ++ []) ≡ Some (put_together p, [])
parted_again (parted w f) h = operands_are w (over_places place_words (places w) f ++ []) ∙ via_again (ends_places w) (op_in w) f h

operands_again : (o : Op) → FitsOperation o → operands_at true (word_of o) (operands o ++ []) ≡ Some (o, [])
operands_again o h = parted_again (taken_apart o) h ∙ ap (λ (y : Op). Some (y, [])) (together_apart o)

parted_words : (p : Parted) → InParted FitsPlace p → AllByRecursion IsWord (over_parted place_words p)
parted_words (parted w f) h = (ends_places w).words f h

operands_words : (o : Op) → FitsOperation o → AllByRecursion IsWord (operands o)
operands_words o h = parted_words (taken_apart o) h

ends_operands : (w : Word) → Ends (operands_at true w) operands (Of w)
unfolding Of
ends_operands w = record {
  takes = operands_take w;
  again = λ o h. ap (λ (v : Word). operands_at true v (operands o ++ [])) (sym h.0) ∙ operands_again o h.1;
  words = λ o h. operands_words o h.1;
}

-- ---- statements

FitsOp : Version → Op → Type 0
FitsOp version o = Has version (word_of o) × FitsOperation o

ends_op : (version : Version) → Ends (op_at version true) (λ o. single (word_text (word_of o)) ++ operands o) (FitsOp version)
unfolding op_at Of FitsOp
ends_op version = ends_tag (reads_word version) word_of ends_operands

pub ends_line : (version : Version) → Ends (line_at version true) line (FitsLine version)
unfolding line_at FitsOp Has
ends_line version = ends_via (ends_both (reads_number (2 ^ 32) (omega arith)) (ends_op version)) (λ o. record { line = o.0; op = o.1 }) (λ s. (s.line, s.op)) line (FitsLine version)
    (λ o h. refl) (λ o h. (h.1.0, (h.0, h.1.1))) (λ s h. (refl, refl, (h.1.0, (h.0, h.1.1))))

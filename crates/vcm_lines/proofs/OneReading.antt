-- A text has one list of statements.
use Rattle.std.proofs.Common.{◌≡◌, ℕ, ◌+◌, List, [], ◌∷◌, drop, refl, sym, ap, ◌∙◌, subst}
use Rattle.vcm_lines.specs.Words.{first_word, AreWords}
use Rattle.vcm_lines.specs.Statements.{KeptLine, byte_lines, IsLogical, AreLogical}
use Rattle.vcm_lines.specs.declared.logical.Logical.{Logical}
use Rattle.vcm_lines.specs.declared.logical.Word.{Word}

cons_is : {A : Type 0} (x y : A) (xs ys : List A) → x ≡ y → xs ≡ ys → x ∷ xs ≡ y ∷ ys
cons_is x y xs ys e f = ap (λ z. z ∷ xs) e ∙ ap (λ zs. y ∷ zs) f

-- what is left of a statement has one list of words
one_words : (lines text : List ℕ) (start : ℕ) (ws vs : List Word) → AreWords lines text start ws → AreWords lines text start vs → ws ≡ vs
one_words lines text start [] [] w v = refl
one_words lines text start [] (y ∷ vs) w v = absurd (v.0 w)
one_words lines text start (x ∷ ws) [] w v = absurd (w.0 v)
one_words lines text start (x ∷ ws) (y ∷ vs) w v =
    cons_is x y ws vs (w.1 ∙ sym v.1) (one_words lines (drop (first_word text).1 text) (start + (first_word text).1) ws vs w.2 v.2)

abbrev made : ℕ → List ℕ → List Word → Logical
made n t ws = record { line = n; text = t; words = ws }

-- rows are one statement
one_logical : (rows : List KeptLine) (x y : Logical) → IsLogical rows x → IsLogical rows y → x ≡ y
one_logical rows x y p q =
    let text : x.text ≡ y.text = p.text ∙ sym q.text in
    let words : x.words ≡ y.words = one_words (byte_lines rows) y.text 0 x.words y.words (subst (λ t. AreWords (byte_lines rows) t 0 x.words) text p.words) q.words in
    let line : x.line ≡ y.line = p.line ∙ sym q.line in
    ap (λ (n : ℕ). made n x.text x.words) line ∙ ap (λ (t : List ℕ). made y.line t x.words) text ∙ ap (λ (ws : List Word). made y.line y.text ws) words

pub one_statements : (rows : List (List KeptLine)) (xs ys : List Logical) → AreLogical rows xs → AreLogical rows ys → xs ≡ ys
one_statements [] xs ys p q = p ∙ sym q
one_statements (s ∷ ss) [] ys p q = absurd p
one_statements (s ∷ ss) (x ∷ xs) [] p q = absurd q
one_statements (s ∷ ss) (x ∷ xs) (y ∷ ys) p q = cons_is x y xs ys (one_logical s x y p.0 q.0) (one_statements ss xs ys p.1 q.1)

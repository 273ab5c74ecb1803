-- A part of the words says a part of what they say.
use Rattle.std.proofs.Common.{◌≡◌, ℕ, zero, suc, List, [], ◌∷◌, length, take, drop, refl, ap, ◌∙◌}
use Rattle.vcm_lines.specs.declared.logical.Word.{Word}
use Rattle.vcm_lines.specs.Lexemes.{Lexeme, lexemes, word_lexeme}

pub length-lexemes : (text : List ℕ) (ws : List Word) → length (lexemes text ws) ≡ length ws
length-lexemes text [] = refl
length-lexemes text (w ∷ ws) = ap suc (length-lexemes text ws)

drop-lexemes : (text : List ℕ) (n : ℕ) (ws : List Word) → lexemes text (drop n ws) ≡ drop n (lexemes text ws)
drop-lexemes text zero ws = refl
drop-lexemes text (suc n) [] = refl
drop-lexemes text (suc n) (w ∷ ws) = drop-lexemes text n ws

take-lexemes : (text : List ℕ) (n : ℕ) (ws : List Word) → lexemes text (take n ws) ≡ take n (lexemes text ws)
take-lexemes text zero ws = refl
take-lexemes text (suc n) [] = refl
take-lexemes text (suc n) (w ∷ ws) = ap (λ (r : List Lexeme). word_lexeme text w ∷ r) (take-lexemes text n ws)

pub part-lexemes : (text : List ℕ) (m n : ℕ) (ws : List Word) (p : List Lexeme) → lexemes text ws ≡ p → lexemes text (take n (drop m ws)) ≡ take n (drop m p)
part-lexemes text m n ws p e =
    take-lexemes text n (drop m ws) ∙ ap (take n) (drop-lexemes text m ws) ∙ ap (λ (q : List Lexeme). take n (drop m q)) e

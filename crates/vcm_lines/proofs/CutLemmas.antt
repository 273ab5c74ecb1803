-- Words are cut as their lexemes are.
use Rattle.std.proofs.Common.{◌≡◌, ◌<◌, ℕ, suc, ◌+◌, Bool, true, false, cond, not, ◌&&◌, List, [], ◌∷◌, ◌++◌, length, take, drop, Option, Some, None, refl, sym, ap, ◌∙◌, ◌≤◌, one-add, arith}
use Rattle.std.proofs.lemmas.List.{take_all}
use Rattle.std.proofs.lemmas.Bool.{ltb-false}
use Rattle.std.proofs.lemmas.List.Quantifiers.{position-Some}
use Rattle.std.proofs.lemmas.List.Sums.{position_or_len_is}
use Rattle.vcm_lines.proofs.SegmentLemmas.{some_or_none}
use Rattle.vcm_lines.specs.declared.logical.WordKind.TheVariants.{Mark}
use Rattle.std.specs.List.{position, position_or_len, list_all, count_by, fold}
use Rattle.vcm_lines.specs.declared.logical.Word.{Word}
use Rattle.vcm_lines.specs.declared.phrase.Cutter.{Cutter}
use Rattle.vcm_lines.specs.Lexemes.{Lexeme, lexemes, word_lexeme, is_spelled, is_parenthesis}
use Rattle.vcm_lines.specs.Cuts.{cuts, before, after, last_of, front_of}

last_is : (xs : List Lexeme) (x : Lexeme) → last_of (xs ++ x ∷ []) ≡ x
last_is [] x = refl
last_is (y ∷ []) x = refl
last_is (y ∷ z ∷ xs) x = last_is (z ∷ xs) x

front_is : (xs : List Lexeme) (x : Lexeme) → front_of (xs ++ x ∷ []) ≡ xs
front_is [] x = refl
front_is (y ∷ []) x = refl
front_is (y ∷ z ∷ xs) x = ap (λ (r : List Lexeme). y ∷ r) (front_is (z ∷ xs) x)

lexemes-append : (text : List ℕ) (xs ys : List Word) → lexemes text (xs ++ ys) ≡ lexemes text xs ++ lexemes text ys
lexemes-append text [] ys = refl
lexemes-append text (x ∷ xs) ys = ap (λ (r : List Lexeme). word_lexeme text x ∷ r) (lexemes-append text xs ys)

pub split_is : (text : List ℕ) (ws front : List Word) (w : Word) (p : List Lexeme) → lexemes text ws ≡ p → ws ≡ front ++ w ∷ []
    → (front_of p ≡ lexemes text front) × (last_of p ≡ word_lexeme text w)
split_is text ws front w p is e =
    let q : p ≡ lexemes text front ++ word_lexeme text w ∷ [] = sym is ∙ ap (λ (r : List Word). lexemes text r) e ∙ lexemes-append text front (w ∷ []) in
    (ap front_of q ∙ front_is (lexemes text front) _, ap last_of q ∙ last_is (lexemes text front) _)

abbrev marked : List ℕ → Cutter → Word → Bool
marked text m w = cuts m (word_lexeme text w)

step_before : (b : Bool) (text : List ℕ) (w : Word) (ws : List Word) (n : ℕ) (rest : List Lexeme) → rest ≡ lexemes text (take n ws)
    → cond b [] (word_lexeme text w ∷ rest) ≡ lexemes text (take (cond (not b) (1 + n) 0) (w ∷ ws))
step_before true text w ws n rest e = refl
step_before false text w ws n rest e = rw one-add (ap (λ (r : List Lexeme). word_lexeme text w ∷ r) e)

before_is : (text : List ℕ) (m : Cutter) (ws : List Word) → before m (lexemes text ws) ≡ lexemes text (take (position_or_len (marked text m) ws) ws)
before_is text m [] = refl
before_is text m (w ∷ ws) = step_before (marked text m w) text w ws _ _ (before_is text m ws)

step_some : (b : Bool) (text : List ℕ) (w : Word) (ws : List Word) (n : ℕ) (rest : Option (List Lexeme)) → (n < length ws → rest ≡ Some (lexemes text (drop (n + 1) ws)))
    → cond (not b) (1 + n) 0 < length (w ∷ ws) → cond b (Some (lexemes text ws)) rest ≡ Some (lexemes text (drop (cond (not b) (1 + n) 0 + 1) (w ∷ ws)))
step_some true text w ws n rest e h = refl
step_some false text w ws n rest e h = let g : 1 + n + 1 ≡ suc (n + 1) = omega arith in rw g (e (omega (arith, h)))

after_some : (text : List ℕ) (m : Cutter) (ws : List Word) → position_or_len (marked text m) ws < length ws
    → after m (lexemes text ws) ≡ Some (lexemes text (drop (position_or_len (marked text m) ws + 1) ws))
after_some text m [] h = absurd (omega (arith, h))
after_some text m (w ∷ ws) h = step_some (marked text m w) text w ws _ _ (after_some text m ws) h

step_none : (b : Bool) (w : Word) (ws : List Word) (n : ℕ) (all rest : Option (List Lexeme)) → (length ws ≤ n → rest ≡ None) → length (w ∷ ws) ≤ cond (not b) (1 + n) 0 → cond b all rest ≡ None
step_none true w ws n all rest e h = absurd (omega (arith, h))
step_none false w ws n all rest e h = e (omega (arith, h))

after_none : (text : List ℕ) (m : Cutter) (ws : List Word) → length ws ≤ position_or_len (marked text m) ws → after m (lexemes text ws) ≡ None
after_none text m [] h = refl
after_none text m (w ∷ ws) h = step_none (marked text m w) w ws _ _ _ (after_none text m ws) h

pub cut_some : (text : List ℕ) (m : Cutter) (ws : List Word) (p : List Lexeme) (k : ℕ) → lexemes text ws ≡ p → position (marked text m) ws ≡ Some k
    → (lexemes text (take k ws) ≡ before m p) × (Some (lexemes text (drop (k + 1) ws)) ≡ after m p)
cut_some text m ws p k is e =
    let q = position-Some (marked text m) ws k (record { start = 0; end = 0; line = 0; kind = Mark }) e in
    let n : position_or_len (marked text m) ws ≡ k = position_or_len_is (marked text m) ws k _ (omega (arith, q.0)) q.2 (λ lt. q.1) in
    rw (← is) (sym (rw n at (before_is text m ws)), sym (rw n at (after_some text m ws (rw n q.0))))

pub cut_none : (text : List ℕ) (m : Cutter) (ws : List Word) (p : List Lexeme) → lexemes text ws ≡ p → position (marked text m) ws ≡ None
    → (lexemes text ws ≡ before m p) × (None ≡ after m p)
cut_none text m ws p is e =
    let all : length ws ≤ position_or_len (marked text m) ws = ltb-false _ _ (some_or_none _ _ e) in
    rw (← is) (sym (let t = take_all _ ws all in rw t at (before_is text m ws)), sym (after_none text m ws all))

-- a test of words is one of what they say
pub spelled_is : (text : List ℕ) (ws : List Word) → list_all (λ w. is_spelled (word_lexeme text w)) ws ≡ list_all is_spelled (lexemes text ws)
spelled_is text [] = refl
spelled_is text (w ∷ ws) = ap (λ (b : Bool). is_spelled (word_lexeme text w) && b) (spelled_is text ws)

-- words are counted as what they say
counted_from : (text : List ℕ) (n : ℕ) (ws : List Word)
    → fold (λ a w. a + cond (not (is_parenthesis (word_lexeme text w))) 1 0) n ws ≡ fold (λ a l. a + cond (not (is_parenthesis l)) 1 0) n (lexemes text ws)
counted_from text n [] = refl
counted_from text n (w ∷ ws) = counted_from text (n + cond (not (is_parenthesis (word_lexeme text w))) 1 0) ws

pub counted_is : (text : List ℕ) (ws : List Word) → count_by (λ w. not (is_parenthesis (word_lexeme text w))) ws ≡ count_by (λ l. not (is_parenthesis l)) (lexemes text ws)
counted_is text ws = counted_from text 0 ws

-- Texts: what is read is spelled so, and what is spelled so is read again.
use Rattle.std.proofs.Common.{◌≡◌, ℕ, ◌<◌, ◌==◌, ◌&&◌, nat_le, Bool, true, false, List, [], ◌∷◌, ◌++◌, length, Some, None, refl, sym, ap, ◌∙◌, subst, arith}
use Rattle.std.specs.List.{AllByRecursion, list_all}
use Rattle.std.proofs.lemmas.List.{append-nil}
use Rattle.vcm_spec.specs.TextBytes.{is_text_byte, is_text, IsText}
use Rattle.vcm_words.specs.Cutting.{split, joined}
use Rattle.vcm_words.specs.inner.Marks.{Without, IsWord}
use Rattle.vcm_words.specs.Numbers.{counted, only_if}
use Rattle.vcm_words.specs.WordReaders.{◌>>=◌, marked, ending}
use Rattle.vcm_words.specs.Operands.{text, quoted_in, text_at}
use Rattle.vcm_words.proofs.Cuts.{split_some, joined-split, split-joined, split_without, split_keeps}
use Rattle.vcm_words.proofs.Inverse.{Ends, Bare, bind_some, some_is, only_met}
use Rattle.vcm_words.proofs.WordLaws.{marked_takes, ending_takes, ending_some}
use Rattle.std.proofs.lemmas.Bool.{and_parts}

text_byte_plain : (b : ℕ) → is_text_byte b ≡ true → (b == 10) ≡ false
text_byte_plain b h = grind arith

text_plain : (bs : List ℕ) → list_all is_text_byte bs ≡ true → Without 10 (bs ++ 39 ∷ [])
text_plain [] h = (refl, tt)
text_plain (b ∷ bs) h = let t = and_parts (is_text_byte b) (list_all is_text_byte bs) h in (text_byte_plain b t.0, text_plain bs t.1)

all_both : {X : Type 0} (P Q : X → Type 0) (xs : List X) → AllByRecursion P xs → AllByRecursion Q xs → AllByRecursion (λ x. P x × Q x) xs
all_both P Q [] h g = tt
all_both P Q (x ∷ xs) h g = ((h.0, g.0), all_both P Q xs h.1 g.1)

pub text_from : (exact : Bool) (ws : List (List ℕ)) (t : List ℕ) → 0 < length ws → joined 32 ws ≡ t → text_at exact ws ≡ (quoted_in exact t >>= λ bs. Some (bs, []))
unfolding text_at
text_from exact [] t l j = absurd (omega arith)
text_from exact (v ∷ ws) t l j = rw j refl

text_takes : (ws : List (List ℕ)) (x : List ℕ × List (List ℕ)) → Bare ws → text_at true ws ≡ Some x → (ws ≡ text x.0 ++ x.1) × IsText x.0
unfolding text_at quoted_in
text_takes [] x bare e = absurd cc
text_takes (w ∷ ws) x bare e =
    let q = bind_some (quoted_in true (joined 32 (w ∷ ws))) (λ bs. Some (bs, [])) x e in
    let p = bind_some (marked 39 (ending 39) (joined 32 (w ∷ ws))) (λ bs. only_if (counted true (nat_le (length bs) 1024) && list_all is_text_byte bs) bs) q.0 q.1 in
    let g = only_met (is_text p.0) p.0 q.0 p.2 in
    let m = marked_takes 39 (ending 39) (joined 32 (w ∷ ws)) p.0 p.1 in
    let inside : m.0 ≡ p.0 ++ 39 ∷ [] = ending_takes 39 m.0 p.0 m.2 in
    let whole : joined 32 (w ∷ ws) ≡ 39 ∷ p.0 ++ 39 ∷ [] = m.1 ∙ ap (λ r. 39 ∷ r) inside in
    let cut : w ∷ ws ≡ text p.0 = sym (split-joined 32 w ws bare) ∙ ap (split 32) whole in
    let made : (p.0, []) ≡ x = ap (λ (v : List ℕ). (v, [])) g.1 ∙ some_is _ _ q.2 in
    subst (λ (y : List ℕ × List (List ℕ)). (w ∷ ws ≡ text y.0 ++ y.1) × IsText y.0) made (cut ∙ sym (append-nil (text p.0)), g.0)

quoted_again : (bs : List ℕ) → IsText bs → quoted_in true (39 ∷ bs ++ 39 ∷ []) ≡ Some bs
unfolding quoted_in
quoted_again bs h = rw (ending_some 39 bs) (ap (λ t. only_if t bs) h)

text_again : (bs : List ℕ) → IsText bs → text_at true (text bs ++ []) ≡ Some (bs, [])
text_again bs h =
    let s = split_some 32 (39 ∷ bs ++ 39 ∷ []) in
    let some : 0 < length (text bs) = subst (λ (l : List (List ℕ)). 0 < length l) (sym s.2) (omega arith) in
    ap (text_at true) (append-nil (text bs)) ∙ text_from true (text bs) (39 ∷ bs ++ 39 ∷ []) some (joined-split 32 (39 ∷ bs ++ 39 ∷ [])) ∙ rw (quoted_again bs h) refl

text_words : (bs : List ℕ) → IsText bs → AllByRecursion IsWord (text bs)
text_words bs h = all_both (Without 32) (Without 10) (text bs) (split_without 32 (39 ∷ bs ++ 39 ∷ []))
    (split_keeps 10 32 (39 ∷ bs ++ 39 ∷ []) (refl, text_plain bs (and_parts (nat_le (length bs) 1024) (list_all is_text_byte bs) h).1))

pub ends_text : Ends (text_at true) text IsText
ends_text = record { takes = text_takes; again = text_again; words = text_words }

pub text_none : (exact : Bool) (ws : List (List ℕ)) → ws ≡ [] → text_at exact ws ≡ None
unfolding text_at
text_none exact [] e = refl
text_none exact (w ∷ ws) e = absurd cc

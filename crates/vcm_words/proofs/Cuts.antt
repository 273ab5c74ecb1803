-- Cutting and joining undo each other.
use Rattle.std.proofs.Common.{◌≡◌, ℕ, ◌==◌, Bool, true, false, List, [], ◌∷◌, ◌++◌, refl, sym, ap, ◌∙◌, arith}
use Rattle.std.specs.List.{AllByRecursion}
use Rattle.std.proofs.lemmas.Bool.{eqb-true}
use Rattle.vcm_words.specs.Cutting.{onto, split, joined}
use Rattle.vcm_words.specs.inner.Marks.{Without}

-- some part stands first
pub split_some : (mark : ℕ) (bs : List ℕ) → (w : List ℕ) × (ws : List (List ℕ)) × (split mark bs ≡ w ∷ ws)
split_some mark [] = ([], [], refl)
split_some mark (b ∷ bs) = some (b == mark) (split mark bs)
  where
    some : (t : Bool) (ps : List (List ℕ)) → (w : List ℕ) × (ws : List (List ℕ)) × (onto t b ps ≡ w ∷ ws)
    some true ps = ([], ps, refl)
    some false [] = (b ∷ [], [], refl)
    some false (p ∷ ps) = (b ∷ p, ps, refl)

joined_onto : (mark b : ℕ) (t : Bool) (p : List ℕ) (ps : List (List ℕ)) → (b == mark) ≡ t → joined mark (onto t b (p ∷ ps)) ≡ b ∷ joined mark (p ∷ ps)
joined_onto mark b true p ps e = ap (λ m. m ∷ joined mark (p ∷ ps)) (sym (eqb-true b mark e))
joined_onto mark b false p [] e = refl
joined_onto mark b false p (q ∷ ps) e = refl

-- the parts, put together, are the whole
pub joined-split : (mark : ℕ) (bs : List ℕ) → joined mark (split mark bs) ≡ bs
joined-split mark [] = refl
joined-split mark (b ∷ bs) =
    let s = split_some mark bs in
    let again : joined mark (s.0 ∷ s.1) ≡ bs = ap (joined mark) (sym s.2) ∙ joined-split mark bs in
    ap (λ ps. joined mark (onto (b == mark) b ps)) s.2 ∙ joined_onto mark b (b == mark) s.0 s.1 refl ∙ ap (λ r. b ∷ r) again

-- a part without the mark, and then a mark, is cut there
pub split-word : (mark : ℕ) (w bs : List ℕ) → Without mark w → split mark (w ++ mark ∷ bs) ≡ w ∷ split mark bs
split-word mark [] bs h = ap (λ t. onto t mark (split mark bs)) (let e : (mark == mark) ≡ true = grind arith in e)
split-word mark (b ∷ w) bs h = rw (h.0, split-word mark w bs h.1) refl

pub split-last : (mark : ℕ) (w : List ℕ) → Without mark w → split mark w ≡ w ∷ []
split-last mark [] h = refl
split-last mark (b ∷ w) h = rw (h.0, split-last mark w h.1) refl

-- parts without the mark, put together, are cut into these parts
pub split-joined : (mark : ℕ) (w : List ℕ) (ws : List (List ℕ)) → AllByRecursion (Without mark) (w ∷ ws) → split mark (joined mark (w ∷ ws)) ≡ w ∷ ws
split-joined mark w [] h = split-last mark w h.0
split-joined mark w (v ∷ ws) h = split-word mark w (joined mark (v ∷ ws)) h.0 ∙ ap (λ ps. w ∷ ps) (split-joined mark v ws h.1)

onto_without : (mark b : ℕ) (t : Bool) (ps : List (List ℕ)) → (b == mark) ≡ t → AllByRecursion (Without mark) ps → AllByRecursion (Without mark) (onto t b ps)
onto_without mark b true ps e h = (tt, h)
onto_without mark b false [] e h = ((e, tt), tt)
onto_without mark b false (p ∷ ps) e h = ((e, h.0), h.1)

-- no part has the mark
pub split_without : (mark : ℕ) (bs : List ℕ) → AllByRecursion (Without mark) (split mark bs)
split_without mark [] = (tt, tt)
split_without mark (b ∷ bs) = onto_without mark b (b == mark) (split mark bs) refl (split_without mark bs)

onto_keeps : (other mark b : ℕ) (t : Bool) (ps : List (List ℕ)) → (b == other) ≡ false → AllByRecursion (Without other) ps → AllByRecursion (Without other) (onto t b ps)
onto_keeps other mark b true ps e h = (tt, h)
onto_keeps other mark b false [] e h = ((e, tt), tt)
onto_keeps other mark b false (p ∷ ps) e h = ((e, h.0), h.1)

-- what isn't in the whole isn't in a part
pub split_keeps : (other mark : ℕ) (bs : List ℕ) → Without other bs → AllByRecursion (Without other) (split mark bs)
split_keeps other mark [] h = (tt, tt)
split_keeps other mark (b ∷ bs) h = onto_keeps other mark b (b == mark) (split mark bs) h.0 (split_keeps other mark bs h.1)

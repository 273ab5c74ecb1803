-- The segments of a line are segments, and the line is what they spell.
use Rattle.std.proofs.Common.{◌≡◌, ℕ, Bool, true, false, cond, eqb, List, [], ◌∷◌, ◌++◌, refl, sym, ap, subst, ◌∙◌}
use Rattle.std.specs.Prelude.{◌&&◌}
use Rattle.std.proofs.lemmas.Bool.{eqb-true, eqb-false, eq-eqb, or_from, and_parts}
use Rattle.std.proofs.lemmas.List.{append-nil}
use Rattle.vcm_lines.specs.Segments.{Segment, Quoted, Open, Comment, onto_text, segments_from, segments_of}
use Rattle.vcm_lines.specs.Laws.{spelled, begins_dollar, AreSegments}

-- What the segments of a rest are known to be: inside a text they begin with it.
abbrev IsCutOf : Bool → List ℕ → List Segment → Type 0
IsCutOf true bs (Quoted t ∷ ps) = (t ++ 39 ∷ spelled ps ≡ bs) × AreSegments (Quoted t ∷ ps)
IsCutOf true bs (Open t ∷ ps) = (t ++ spelled ps ≡ bs) × AreSegments (Open t ∷ ps)
IsCutOf true bs _ = ⊥
IsCutOf false bs ps = (spelled ps ≡ bs) × AreSegments ps

onto_cut : (b : ℕ) (bs : List ℕ) (ps : List Segment) → eqb b 39 ≡ false → IsCutOf true bs ps → IsCutOf true (b ∷ bs) (onto_text b ps)
onto_cut b bs (Quoted t ∷ ps) e h = (ap (λ (x : List ℕ). b ∷ x) h.0, (or_from _ _ e h.1.0, h.1.1))
onto_cut b bs (Open t ∷ ps) e h = (ap (λ (x : List ℕ). b ∷ x) h.0, (or_from _ _ e h.1.0, h.1.1))
onto_cut b bs _ e h = absurd h

both : (b : Bool) → b ≡ true → b ≡ false → ⊥
both b e f = cc

choose : (P : List Segment → Type 0) (b : Bool) (x y : List Segment) → (b ≡ true → P x) → (b ≡ false → P y) → P (cond b x y)
choose P true x y p q = p refl
choose P false x y p q = q refl

-- a text that opens
opens : (bs : List ℕ) (ps : List Segment) → IsCutOf true bs ps → IsCutOf false (39 ∷ bs) ps
opens bs (Quoted t ∷ ps) h = (ap (λ (x : List ℕ). 39 ∷ x) h.0, h.1)
opens bs (Open t ∷ ps) h = (ap (λ (x : List ℕ). 39 ∷ x) h.0, h.1)
opens bs _ h = absurd h

abbrev NoDollar : List Segment → Type 0
NoDollar ps = begins_dollar ps ≡ false

onto_no_dollar : (b : ℕ) (ps : List Segment) → NoDollar ps → NoDollar (onto_text b ps)
onto_no_dollar b (Quoted t ∷ ps) h = refl
onto_no_dollar b (Open t ∷ ps) h = refl
onto_no_dollar b _ h = h

text_no_dollar : (bs : List ℕ) → NoDollar (segments_from true bs)
unfolding segments_from
text_no_dollar [] = refl
text_no_dollar (b ∷ bs) = choose NoDollar (eqb b 39) _ _ (λ e. refl) (λ e. onto_no_dollar b (segments_from true bs) (text_no_dollar bs))

-- A byte that is no dollar begins with none.
no_dollar : (c : ℕ) (bs : List ℕ) → eqb c 36 ≡ false → NoDollar (segments_from false (c ∷ bs))
unfolding segments_from
no_dollar c [] e = choose NoDollar (eqb c 39) _ _ (λ q. refl) (λ q. e)
no_dollar c (d ∷ bs) e = choose NoDollar (eqb c 39) _ _ (λ q. text_no_dollar (d ∷ bs))
    (λ q. choose NoDollar (eqb c 36 && eqb d 36) _ _ (λ p. let k = and_parts _ _ p in absurd (both _ k.0 e)) (λ p. e))

comment_cut : (b c : ℕ) (bs : List ℕ) → b ≡ 36 → c ≡ 36 → IsCutOf false (b ∷ c ∷ bs) (Comment bs ∷ [])
comment_cut b c bs p q = (ap (λ (x : List ℕ). 36 ∷ 36 ∷ x) (append-nil bs) ∙ ap (λ (d : ℕ). d ∷ 36 ∷ bs) (sym p) ∙ ap (λ (d : ℕ). b ∷ d ∷ bs) (sym q), refl)

pub cut_law : (inside : Bool) (bs : List ℕ) → IsCutOf inside bs (segments_from inside bs)
unfolding segments_from
cut_law true [] = (refl, (refl, refl))
cut_law true (b ∷ bs) =
    choose (IsCutOf true (b ∷ bs)) (eqb b 39) _ _
    (λ e. let h = cut_law false bs in (ap (λ (x : List ℕ). 39 ∷ x) h.0 ∙ ap (λ (d : ℕ). d ∷ bs) (sym (eqb-true b 39 e)), (refl, h.1)))
    (λ e. onto_cut b bs (segments_from true bs) e (cut_law true bs))
cut_law false [] = (refl, tt)
cut_law false (b ∷ []) =
    choose (IsCutOf false (b ∷ [])) (eqb b 39) _ _
    (λ e. (ap (λ (d : ℕ). d ∷ []) (sym (eqb-true b 39 e)), (refl, refl)))
    (λ e. (refl, (eqb-false b 39 e, (λ d. refl), tt)))
cut_law false (b ∷ c ∷ bs) =
    choose (IsCutOf false (b ∷ c ∷ bs)) (eqb b 39) _ _
    (λ e. subst (λ (d : ℕ). IsCutOf false (d ∷ c ∷ bs) (segments_from true (c ∷ bs))) (sym (eqb-true b 39 e)) (opens (c ∷ bs) (segments_from true (c ∷ bs)) (cut_law true (c ∷ bs))))
    (λ e. choose (IsCutOf false (b ∷ c ∷ bs)) (eqb b 36 && eqb c 36) _ _
    (λ d. let p = and_parts (eqb b 36) (eqb c 36) d in comment_cut b c bs (eqb-true b 36 p.0) (eqb-true c 36 p.1))
    (λ d. let h = cut_law false (c ∷ bs) in (ap (λ (x : List ℕ). b ∷ x) h.0, (eqb-false b 39 e, (λ is. no_dollar c bs (rw (eq-eqb b 36 is) at d)), h.1))))

pub segments_spelled : (line : List ℕ) → spelled (segments_of line) ≡ line
segments_spelled line = (cut_law false line).0

pub segments_are : (line : List ℕ) → AreSegments (segments_of line)
segments_are line = (cut_law false line).1

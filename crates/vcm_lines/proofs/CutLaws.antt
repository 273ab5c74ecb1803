-- What words are cut into is the words again.
use Rattle.std.proofs.Common.{◌≡◌, Bool, true, false, cond, ◌||◌, List, [], ◌∷◌, ◌++◌, Option, Some, None, refl, ap, ◌∙◌}
use Rattle.std.specs.List.{list_any}
use Rattle.vcm_lines.specs.declared.phrase.Cutter.{Cutter}
use Rattle.vcm_lines.specs.declared.phrase.Cutter.TheVariants.{AtSlash, AtComma}
use Rattle.vcm_lines.specs.Lexemes.{Lexeme, Slash, Comma}
use Rattle.vcm_lines.specs.Cuts.{cuts, before, after, onto, fields_of, last_of, front_of, mark_at, uncut, with_commas, has_cut}

-- the mark that words are cut at
cut_is : (m : Cutter) (w : Lexeme) → cuts m w ≡ true → mark_at m ≡ w
cut_is AtSlash Slash e = refl
cut_is AtComma Comma e = refl
cut_is m w e = cc

step_whole : (b : Bool) (m : Cutter) (w : Lexeme) (ws front : List Lexeme) (rest : Option (List Lexeme)) → (b ≡ true → mark_at m ≡ w) → uncut m front rest ≡ ws
    → uncut m (cond b [] (w ∷ front)) (cond b (Some ws) rest) ≡ w ∷ ws
step_whole true m w ws front rest k e = ap (λ (x : Lexeme). x ∷ ws) (k refl)
step_whole false m w ws front None k e = ap (λ (x : List Lexeme). w ∷ x) e
step_whole false m w ws front (Some rest) k e = ap (λ (x : List Lexeme). w ∷ x) e

pub parts_whole : (m : Cutter) (ws : List Lexeme) → uncut m (before m ws) (after m ws) ≡ ws
parts_whole m [] = refl
parts_whole m (w ∷ ws) = step_whole (cuts m w) m w ws (before m ws) (after m ws) (cut_is m w) (parts_whole m ws)

step_uncut : (b : Bool) (m : Cutter) (w : Lexeme) (front : List Lexeme) → cuts m w ≡ b → has_cut m front ≡ false → has_cut m (cond b [] (w ∷ front)) ≡ false
step_uncut true m w front k e = refl
step_uncut false m w front k e = ap (λ (x : Bool). x || list_any (cuts m) front) k ∙ e

pub first_uncut : (m : Cutter) (ws : List Lexeme) → has_cut m (before m ws) ≡ false
first_uncut m [] = refl
first_uncut m (w ∷ ws) = step_uncut (cuts m w) m w (before m ws) refl (first_uncut m ws)

joined_onto : (w : Lexeme) (fs : List (List Lexeme)) → with_commas (onto w fs) ≡ w ∷ with_commas fs
joined_onto w [] = refl
joined_onto w (f ∷ []) = refl
joined_onto w (f ∷ g ∷ fs) = refl

-- there is always a field
some_field : (b : Bool) (w : Lexeme) (fs : List (List Lexeme)) → with_commas ([] ∷ cond b ([] ∷ fs) (onto w fs)) ≡ Comma ∷ with_commas (cond b ([] ∷ fs) (onto w fs))
some_field true w fs = refl
some_field false w [] = refl
some_field false w (f ∷ fs) = refl

empty_first : (ws : List Lexeme) → with_commas ([] ∷ fields_of ws) ≡ Comma ∷ with_commas (fields_of ws)
empty_first [] = refl
empty_first (w ∷ ws) = some_field (cuts AtComma w) w (fields_of ws)

step_joined : (b : Bool) (w : Lexeme) (ws : List Lexeme) → (b ≡ true → mark_at AtComma ≡ w) → with_commas (fields_of ws) ≡ ws
    → with_commas (cond b ([] ∷ fields_of ws) (onto w (fields_of ws))) ≡ w ∷ ws
step_joined true w ws k e = empty_first ws ∙ ap (λ (x : Lexeme). x ∷ with_commas (fields_of ws)) (k refl) ∙ ap (λ (x : List Lexeme). w ∷ x) e
step_joined false w ws k e = joined_onto w (fields_of ws) ∙ ap (λ (x : List Lexeme). w ∷ x) e

pub fields_whole : (ws : List Lexeme) → with_commas (fields_of ws) ≡ ws
fields_whole [] = refl
fields_whole (w ∷ ws) = step_joined (cuts AtComma w) w ws (cut_is AtComma w) (fields_whole ws)

onto_uncut : (w : Lexeme) (fs : List (List Lexeme)) → cuts AtComma w ≡ false → list_any (has_cut AtComma) fs ≡ false → list_any (has_cut AtComma) (onto w fs) ≡ false
onto_uncut w [] k h = ap (λ (x : Bool). (x || false) || false) k
onto_uncut w (f ∷ fs) k h = ap (λ (x : Bool). (x || has_cut AtComma f) || list_any (has_cut AtComma) fs) k ∙ h

step_each : (b : Bool) (w : Lexeme) (fs : List (List Lexeme)) → cuts AtComma w ≡ b → list_any (has_cut AtComma) fs ≡ false → list_any (has_cut AtComma) (cond b ([] ∷ fs) (onto w fs)) ≡ false
step_each true w fs k h = h
step_each false w fs k h = onto_uncut w fs k h

pub each_uncut : (ws : List Lexeme) → list_any (has_cut AtComma) (fields_of ws) ≡ false
each_uncut [] = refl
each_uncut (w ∷ ws) = step_each (cuts AtComma w) w (fields_of ws) refl (each_uncut ws)

pub ends_whole : (w : Lexeme) (ws : List Lexeme) → front_of (w ∷ ws) ++ last_of (w ∷ ws) ∷ [] ≡ w ∷ ws
ends_whole w [] = refl
ends_whole w (v ∷ ws) = ap (λ (x : List Lexeme). w ∷ x) (ends_whole v ws)

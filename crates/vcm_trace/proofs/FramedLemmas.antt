-- Steps with the frames in which features were declared: one more, and more of them.
use Rattle.std.proofs.Common.{◌≡◌, ℕ, List, [], ◌∷◌, ◌++◌, refl, sym, ap, ◌∙◌}
use Rattle.std.proofs.lemmas.List.{flat_map_more}
use Rattle.std.specs.Prelude.{flat_map}
use Rattle.vcm_steps.specs.Passages.{Passage}
use Rattle.vcm_trace.specs.Framed.{Frames, FramedStep, framed_step, frames_with, frames_behind, framed}

pub behind_more : (fs : Frames) (ps : List Passage) (p : Passage) → frames_behind fs (ps ++ p ∷ []) ≡ frames_with (frames_behind fs ps) p
behind_more fs [] p = refl
behind_more fs (q ∷ ps) p = behind_more (frames_with fs q) ps p

pub framed_append : (fs : Frames) (ps qs : List Passage) → framed fs (ps ++ qs) ≡ framed fs ps ++ framed (frames_behind fs ps) qs
framed_append fs [] qs = refl
framed_append fs (p ∷ ps) qs = ap (λ ss. framed_step fs p ∷ ss) (framed_append (frames_with fs p) ps qs)

pub framed_more : (fs : Frames) (ps : List Passage) (p : Passage) → framed fs (ps ++ p ∷ []) ≡ framed fs ps ++ framed_step (frames_behind fs ps) p ∷ []
framed_more fs ps p = framed_append fs ps (p ∷ [])

-- the row of one more step
pub row_more : (row : FramedStep → List ℕ) (fs : Frames) (ps : List Passage) (p : Passage)
    → flat_map row (framed fs ps) ++ row (framed_step (frames_behind fs ps) p) ≡ flat_map row (framed fs (ps ++ p ∷ []))
row_more row fs ps p =
    flat_map_more row [] (framed fs ps) (framed_step (frames_behind fs ps) p) ∙ ap (flat_map row) (sym (framed_more fs ps p))

-- rows that don't ask for frames
pub unframed : (row : Passage → List ℕ) (fs : Frames) (ps : List Passage) → flat_map (λ s. row s.passage) (framed fs ps) ≡ flat_map row ps
unframed row fs [] = refl
unframed row fs (p ∷ ps) = ap (λ l. row p ++ l) (unframed row (frames_with fs p) ps)

-- One step more.
use Rattle.std.proofs.Common.{◌≡◌, ℕ, List, [], ◌∷◌, ◌++◌, refl, sym, ap, ◌∙◌}
use Rattle.vcm_steps.specs.Passages.{Passage}
use Rattle.vcm_trace.specs.Framed.{Frames, FramedStep, framed_step, frames_with, frames_behind, framed}
use Rattle.vcm_trace.proofs.FramedLemmas.{behind_more, framed_more}
use Rattle.vcm_summary.specs.declared.findings.Findings.{Findings}
use Rattle.vcm_summary.specs.Findings.{found_one, found_behind}

more : (from : ℕ) (f : Findings) (ss : List FramedStep) (s : FramedStep) → found_behind from f (ss ++ s ∷ []) ≡ found_one from (found_behind from f ss) s
more from f [] s = refl
more from f (t ∷ ss) s = more from (found_one from f t) ss s

module _ (from : ℕ) (first old new : Findings) (fs kept after : Frames) (ps : List Passage) (p : Passage) (k : kept ≡ frames_behind fs ps) where
  pub one_kept : after ≡ frames_with kept p → after ≡ frames_behind fs (ps ++ p ∷ [])
  one_kept e = e ∙ ap (λ x. frames_with x p) k ∙ sym (behind_more fs ps p)

  pub one_found : old ≡ found_behind from first (framed fs ps) → new ≡ found_one from old (framed_step kept p)
      → new ≡ found_behind from first (framed fs (ps ++ p ∷ []))
  one_found h e =
      e ∙ ap (λ f. found_one from f (framed_step kept p)) h ∙ ap (λ x. found_one from (found_behind from first (framed fs ps)) (framed_step x p)) k
      ∙ sym (ap (found_behind from first) (framed_more fs ps p) ∙ more from first (framed fs ps) (framed_step (frames_behind fs ps) p))

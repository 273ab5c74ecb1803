-- What is told of a run that was watched.
use Rattle.std.proofs.Common.{◌≡◌, ℕ, List, Option, ap, ◌∙◌, subst}
use Rattle.vcm_spec.specs.Workpiece.{Workpiece}
use Rattle.vcm_boxes.specs.declared.boxes.ProbeBox.{ProbeBox}
use Rattle.vcm_code.specs.declared.code.Code.{Code}
use Rattle.vcm_cause.specs.declared.watching.Watched.{Watched}
use Rattle.vcm_cause.specs.Watched.{seen, HasWatched}
use Rattle.vcm_backtrace.specs.Sources.{Sourced, IsSourced}
use Rattle.vcm_first_contact.specs.declared.first.FirstContact.{FirstContact}
use Rattle.vcm_first_contact.specs.declared.telling.FirstTold.{FirstTold}
use Rattle.vcm_first_contact.specs.First.{first_contact}
use Rattle.vcm_first_contact.specs.Lines.{told_lines}
use Rattle.vcm_first_contact.specs.Telling.{steps_up_to, told_of, IsFirstTold}
use Rattle.vcm_first_contact.specs.inner.Standing.{IsAmple}

module _ (names : List (List ℕ)) (text : Option (List ℕ)) (part : Workpiece) (boxes : List ProbeBox) (c : Code) (n : ℕ) (first : Option FirstContact)
    (is : first ≡ first_contact part boxes c n) (k : ℕ) (up : k ≡ steps_up_to first n) (w : Watched) (h : IsAmple part c k w) (source : Option Sourced) (s : IsSourced text source) where
  -- what is told where it stands
  pub told_as : (told : FirstTold) → told ≡ told_of first w.world.state.stop → (W : List ℕ → Type 0)
      → W (told_lines names source part boxes c.statements w.world w.next (seen w.progress) w.ran.done first) → IsFirstTold names text part boxes c n told W
  told_as told t W written = record {
    held = w.world;
    number = w.next;
    ran = w.ran;
    progress = w.progress;
    watched = subst (λ (i : ℕ). HasWatched part c i w.world w.next w.ran w.progress) (up ∙ ap (λ o. steps_up_to o n) is) h.watched;
    ample = h.ample;
    source = source;
    is_source = s;
    told_is = t ∙ ap (λ o. told_of o w.world.state.stop) is;
    written = subst (λ o. W (told_lines names source part boxes c.statements w.world w.next (seen w.progress) w.ran.done o)) is written;
  }

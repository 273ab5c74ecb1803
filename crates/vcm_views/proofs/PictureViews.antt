-- The picture of a run as a view.
use Rattle.std.specs.Prelude.{ℕ, Bool, List, Option, IfOk, IfErr, Result, Ok, Err}
use Rattle.std.proofs.Common.{◌≡◌, [], refl, sym, ap, ◌∙◌, subst}
use Rattle.std.proofs.KnownBytes.{Keeps-refl}
use Rattle.std.specs.Io.KnownBytes.{Appends}
use Rattle.vcm_num.specs.Written.{AppendsFront}
use Rattle.vcm_spec.specs.declared.stop.StopPlace.{StopPlace}
use Rattle.vcm_spec.specs.Workpiece.{Workpiece}
use Rattle.vcm_program.specs.declared.accepted.Noticed.{Noticed}
use Rattle.vcm_code.specs.declared.code.Code.{Code}
use Rattle.vcm_machine.specs.declared.ran.End.TheVariants.{NoMemory}
use Rattle.vcm_machine.specs.declared.ran.Ran.{Ran}
use Rattle.vcm_machine.specs.Running.{started, RunEnded}
use Rattle.vcm_state.specs.Held.{Held}
use Rattle.vcm_job.specs.Jobs.{status_of}
use Rattle.vcm_job.specs.Views.{IsViewed, IsCutShort}
use Rattle.vcm_job.specs.declared.fault.Fault.{Fault}
use Rattle.vcm_job.specs.declared.fault.InputRefusal.{InputRefusal}
use Rattle.vcm_job.specs.declared.fault.Fault.TheVariants as faults
use Rattle.vcm_marks.specs.declared.mark.PlacedMark.{PlacedMark}
use Rattle.vcm_way.specs.Ways.{Kept}
use Rattle.vcm_way.specs.Following.{HasFollowed}
use Rattle.vcm_picture.specs.Picture.{sheet, picture_text}
use Rattle.vcm_trace.specs.Rows.{framed_steps}
use Rattle.vcm_sheet.specs.declared.readings.Reading.{Reading}
use Rattle.vcm_sheet.specs.Content.{content}
use Rattle.vcm_sheet.specs.Filed.{SaidIn}
use Rattle.vcm_sheet.specs.Sayings.{Says}
use Rattle.vcm_views.specs.declared.sheets.Titles.{Titles}
use Rattle.vcm_views.specs.declared.untried.Untried.{Untried}
use Rattle.vcm_views.specs.Readings.{first_step, readings_behind, run_readings}
use Rattle.vcm_views.specs.Untried.{lines_of, marks_with}
use Rattle.vcm_views.specs.Views.{HasRunTo, WroteNothing, IsSheet, picture_of, filed_with, sheet_said, picture_view, sheet_view}
use Rattle.vcm_views.specs.inner.Drawn.{IsDrawn, IsNotDrawn, IsFiled, IsNotFiled}

-- what became of a run that was followed
module _ (w part : Workpiece) (same : w ≡ part) (c : Code) (n : ℕ) (held : Held) (ran : Ran) (way : Kept) (followed : HasFollowed w c n held ran way) where
  beside : HasFollowed part c n held ran way
  beside = subst (λ p. HasFollowed p c n held ran way) same followed

  run_to : HasRunTo part c n held ran
  run_to = record {
    new = beside.new;
    run = beside.has_run;
    state = beside.state;
    tables = beside.tables ∙ sym (ap (λ m. m.code.tables) beside.has_run.new_is);
  }

  wrote_nothing : ran.end ≡ NoMemory → (old : Option (List ℕ)) → WroteNothing part c n ran.done old old
  wrote_nothing e old =
      let ended : RunEnded n (started part c) beside.new ran.done NoMemory = subst (λ x. RunEnded n (started part c) beside.new ran.done x) e beside.has_run.ended in
      (subst (λ m. RunEnded n (started part c) m ran.done NoMemory) beside.has_run.new_is ended, Keeps-refl old)

module _ (program : Option (List ℕ)) (notices : List Noticed) (w part : Workpiece) (same : w ≡ part) (c : Code) (n : ℕ) (held : Held) (ran : Ran) (way : Kept)
    (followed : HasFollowed w c n held ran way) (is_close : Bool) (untried : Untried) where
  module _ (ample : ran.end ≡ NoMemory → ⊥) where
    drawn_viewed : (status : ℕ) (old after : Option (List ℕ)) → IsDrawn part held ran.done way is_close untried status old after
        → IsViewed (picture_view is_close untried) program notices part c n status old after
    drawn_viewed status old after d = record {
      text = picture_of part held ran.done way is_close untried;
      tells = record {
        held = held;
        ran = ran;
        run = run_to w part same c n held ran way followed;
        ample = ample;
        text_is = ap (λ k. picture_of part held ran.done k is_close untried) (beside w part same c n held ran way followed).kept;
        status_is = d.status_is;
      };
      written = d.written;
    }

    drawn_cut_short : (f : Fault InputRefusal) (old after : Option (List ℕ)) → IsNotDrawn part held ran.done way is_close untried f old after
        → IsCutShort (picture_view is_close untried) program notices part c n f old after
    drawn_cut_short faults.NoMemory old after k = k
    drawn_cut_short (faults.Write d) old after front = record {
      text = picture_of part held ran.done way is_close untried;
      status = status_of held.state.stop;
      tells = record {
        held = held;
        ran = ran;
        run = run_to w part same c n held ran way followed;
        ample = ample;
        text_is = ap (λ k. picture_of part held ran.done k is_close untried) (beside w part same c n held ran way followed).kept;
        status_is = refl;
      };
      front = front;
    }
    drawn_cut_short (faults.Memory d) old after t = absurd t
    drawn_cut_short (faults.Refused r) old after t = absurd t
    drawn_cut_short faults.Read old after t = absurd t
    drawn_cut_short faults.TooLong old after t = absurd t

    pub picture_viewed : (r : Result ℕ (Fault InputRefusal)) (old after : Option (List ℕ)) → IfOk r (λ status. IsDrawn part held ran.done way is_close untried status old after)
        → IfOk r (λ status. IsViewed (picture_view is_close untried) program notices part c n status old after)
    picture_viewed (Ok status) old after t = drawn_viewed status old after t
    picture_viewed (Err f) old after t = tt

    pub picture_cut_short : (r : Result ℕ (Fault InputRefusal)) (old after : Option (List ℕ)) → IfErr r (λ f. IsNotDrawn part held ran.done way is_close untried f old after)
        → IfErr r (λ f. IsCutShort (picture_view is_close untried) program notices part c n f old after)
    picture_cut_short (Ok status) old after t = tt
    picture_cut_short (Err f) old after t = drawn_cut_short f old after t

  pub picture_halted : ran.end ≡ NoMemory → (old : Option (List ℕ)) → IsCutShort (picture_view is_close untried) program notices part c n (faults.Memory ran.done) old old
  picture_halted e old = wrote_nothing w part same c n held ran way followed e old

-- the sheet
module _ (program : Option (List ℕ)) (notices : List Noticed) (w part : Workpiece) (same : w ≡ part) (c : Code) (n : ℕ) (held : Held) (ran : Ran) (way : Kept)
    (followed : HasFollowed w c n held ran way) (t : Titles) where
  -- what its steps measured, beside the same workpiece
  readings_are : (readings : List Reading) (from : ℕ) → from ≡ first_step way.marks → readings ≡ readings_behind from [] (framed_steps w c n)
      → readings ≡ run_readings part c n way
  readings_are readings from e h = h ∙ ap (λ f. readings_behind f [] (framed_steps w c n)) e ∙ ap (λ p. run_readings p c n way) same

  module _ (ample : ran.end ≡ NoMemory → ⊥) (readings : List Reading) (from : ℕ) (from_is : from ≡ first_step way.marks)
      (read : readings ≡ readings_behind from [] (framed_steps w c n)) where
    -- a text that says what such a sheet says, with the run's status
    is_sheet : (text : List ℕ) (status : ℕ) → Says (sheet_said t part held ran.done way readings) text → status ≡ status_of held.state.stop
        → IsSheet t part c n text status
    is_sheet text status said e =
        let told : Says (sheet_said t part held ran.done way (run_readings part c n way)) text =
        subst (λ r. Says (sheet_said t part held ran.done way r) text) (readings_are readings from from_is read) said in record {
          held = held;
          ran = ran;
          run = run_to w part same c n held ran way followed;
          ample = ample;
          says = subst (λ k. Says (sheet_said t part held ran.done k (run_readings part c n k)) text) (beside w part same c n held ran way followed).kept told;
          status_is = e;
        }

    filed_viewed : (status : ℕ) (old after : Option (List ℕ)) → IsFiled t part held ran.done way readings status old after
        → IsViewed (sheet_view t) program notices part c n status old after
    filed_viewed status old after d = record { text = d.sheet.text; tells = is_sheet d.sheet.text status d.sheet.says d.status_is; written = d.sheet.holds }

    filed_cut_short : (f : Fault InputRefusal) (old after : Option (List ℕ)) → IsNotFiled t part held ran.done way readings f old after
        → IsCutShort (sheet_view t) program notices part c n f old after
    filed_cut_short faults.NoMemory old after k = k
    filed_cut_short (faults.Write d) old after s = record {
      text = s.text;
      status = status_of held.state.stop;
      tells = is_sheet s.text (status_of held.state.stop) s.says refl;
      front = s.holds;
    }
    filed_cut_short (faults.Memory d) old after s = absurd s
    filed_cut_short (faults.Refused r) old after s = absurd s
    filed_cut_short faults.Read old after s = absurd s
    filed_cut_short faults.TooLong old after s = absurd s

    pub sheet_viewed : (r : Result ℕ (Fault InputRefusal)) (old after : Option (List ℕ)) → IfOk r (λ status. IsFiled t part held ran.done way readings status old after)
        → IfOk r (λ status. IsViewed (sheet_view t) program notices part c n status old after)
    sheet_viewed (Ok status) old after d = filed_viewed status old after d
    sheet_viewed (Err f) old after d = tt

    pub sheet_cut_short : (r : Result ℕ (Fault InputRefusal)) (old after : Option (List ℕ)) → IfErr r (λ f. IsNotFiled t part held ran.done way readings f old after)
        → IfErr r (λ f. IsCutShort (sheet_view t) program notices part c n f old after)
    sheet_cut_short (Ok status) old after d = tt
    sheet_cut_short (Err f) old after d = filed_cut_short f old after d

  pub sheet_halted : ran.end ≡ NoMemory → (old : Option (List ℕ)) → IsCutShort (sheet_view t) program notices part c n (faults.Memory ran.done) old old
  sheet_halted e old = wrote_nothing w part same c n held ran way followed e old

-- what a sheet says of the marks that a way keeps
module _ (t : Titles) (part : Workpiece) (held : Held) (done : ℕ) (way : Kept) (marks : List PlacedMark) (left_out : ℕ) (readings : List Reading)
    (same : marks ≡ marks_with t.untried way.marks) (as_many : left_out ≡ way.left_out) where
  same_said : content (filed_with t part held done marks left_out readings) ≡ sheet_said t part held done way readings
  same_said =
      ap (λ m. content (filed_with t part held done m left_out readings)) same ∙ ap (λ k. content (filed_with t part held done (marks_with t.untried way.marks) k readings)) as_many

  pub said_of : (P : List ℕ → Type 0) → SaidIn (content (filed_with t part held done marks left_out readings)) P → SaidIn (sheet_said t part held done way readings) P
  said_of P h = subst (λ s. SaidIn s P) same_said h

  pub filed_of : (status : ℕ) (stop : Option StopPlace) (old new : Option (List ℕ)) → status ≡ status_of stop → stop ≡ held.state.stop
      → SaidIn (content (filed_with t part held done marks left_out readings)) (Appends old new) → IsFiled t part held done way readings status old new
  filed_of status stop old new e f h = record { status_is = e ∙ ap status_of f; sheet = said_of (Appends old new) h }

-- what was written of the marks that a way keeps
module _ (part : Workpiece) (held : Held) (done : ℕ) (way : Kept) (is_close : Bool) (untried : Untried) (marks : List PlacedMark) (left_out : ℕ)
    (same : marks ≡ marks_with untried way.marks) (as_many : left_out ≡ way.left_out) where
  same_text : picture_text (sheet part held done marks left_out is_close (lines_of untried)) ≡ picture_of part held done way is_close untried
  same_text = ap (λ m. picture_text (sheet part held done m left_out is_close (lines_of untried))) same ∙ ap (λ k. picture_text (sheet part held done (marks_with untried way.marks) k is_close (lines_of untried))) as_many

  pub drawn_of : (status : ℕ) (stop : Option StopPlace) (old new : Option (List ℕ)) → status ≡ status_of stop → stop ≡ held.state.stop
      → Appends old new (picture_text (sheet part held done marks left_out is_close (lines_of untried))) → IsDrawn part held done way is_close untried status old new
  drawn_of status stop old new e f w = record { status_is = e ∙ ap status_of f; written = subst (Appends old new) same_text w }

  pub drawn_in_part : (old new : Option (List ℕ)) → AppendsFront old new (picture_text (sheet part held done marks left_out is_close (lines_of untried)))
      → AppendsFront old new (picture_of part held done way is_close untried)
  drawn_in_part old new w = subst (AppendsFront old new) same_text w

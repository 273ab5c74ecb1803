-- The first contact of boxes, as a view.
use Rattle.std.specs.Prelude.{ℕ, List, Option}
use Rattle.std.specs.Io.KnownBytes.{Appends}
use Rattle.std.proofs.Common.{◌≡◌, refl, sym, ap, ◌∙◌, subst}
use Rattle.vcm_num.specs.Written.{AppendsFront}
use Rattle.vcm_spec.specs.declared.stop.StopPlace.{StopPlace}
use Rattle.vcm_spec.specs.Setup.{Tables}
use Rattle.vcm_spec.specs.Workpiece.{Workpiece}
use Rattle.vcm_spec.specs.World.{World}
use Rattle.vcm_program.specs.declared.accepted.Noticed.{Noticed}
use Rattle.vcm_code.specs.declared.code.Code.{Code}
use Rattle.vcm_machine.specs.declared.ran.Ran.{Ran}
use Rattle.vcm_machine.specs.Running.{started}
use Rattle.vcm_machine.proofs.LawLemmas.{one_run}
use Rattle.vcm_state.specs.Held.{Held}
use Rattle.vcm_steps.specs.declared.fault.Unfinished.{Unfinished}
use Rattle.vcm_steps.specs.declared.fault.Unfinished.TheVariants as faults
use Rattle.vcm_job.specs.Views.{IsViewed, IsCutShort}
use Rattle.vcm_boxes.specs.declared.boxes.ProbeBox.{ProbeBox}
use Rattle.vcm_cause.specs.Behind.{Behind, behind_run}
use Rattle.vcm_cause.specs.Watched.{seen}
use Rattle.vcm_backtrace.specs.Sources.{Sourced}
use Rattle.vcm_first_contact.specs.declared.telling.FirstTold.{FirstTold}
use Rattle.vcm_first_contact.specs.First.{first_contact}
use Rattle.vcm_first_contact.specs.Lines.{told_lines}
use Rattle.vcm_first_contact.specs.Telling.{steps_up_to, told_of, IsFirstTold, IsTold, IsNotTold}
use Rattle.vcm_views.specs.Views.{first_status, first_view, IsFirstOf}
use Rattle.vcm_views.specs.inner.Cuts.{cut_short}
use Rattle.vcm_views.proofs.OneSource.{one_source}

module _ (names : List (List ℕ)) (boxes : List ProbeBox) (program : Option (List ℕ)) (part : Workpiece) (c : Code) (n : ℕ) where
  -- what is told, apart from what became of it
  module _ (told : FirstTold) (W : List ℕ → Type 0) (h : IsFirstTold names program part boxes c n told W) where
    abbrev lines : List ℕ
    lines = told_lines names h.source part boxes c.statements h.held h.number (seen h.progress) h.ran.done (first_contact part boxes c n)

    first : IsFirstTold names program part boxes c n told (λ t. t ≡ lines)
    first = record {
      held = h.held;
      number = h.number;
      ran = h.ran;
      progress = h.progress;
      watched = h.watched;
      ample = h.ample;
      source = h.source;
      is_source = h.is_source;
      told_is = h.told_is;
      written = refl;
    }

  module _ (notices : List Noticed) (old new : Option (List ℕ)) where
    pub first_viewed : (status : ℕ) (told : FirstTold) → IsTold names program part boxes c n told old new → status ≡ first_status told.is_met told.stop
        → IsViewed (first_view names boxes) program notices part c n status old new
    first_viewed status told h s = record {
      text = lines told (Appends old new) h;
      tells = record { first = told; told = first told (Appends old new) h; status_is = s };
      written = h.written;
    }

    pub first_cut_short : (f : Unfinished) → IsNotTold names program part boxes c n f old new → IsCutShort (first_view names boxes) program notices part c n (cut_short f) old new
    first_cut_short faults.NoMemory h = h
    first_cut_short (faults.Memory done) h = h
    first_cut_short (faults.Write done) h = record {
      text = lines h.0 (AppendsFront old new) h.1;
      status = first_status h.0.is_met h.0.stop;
      tells = record { first = h.0; told = first h.0 (AppendsFront old new) h.1; status_is = refl };
      front = h.1.written;
    }

-- ---- it is one

abbrev held : Tables → World → Held
held tables state = record { tables = tables; state = state }

module _ (names : List (List ℕ)) (boxes : List ProbeBox) (program : Option (List ℕ)) (part : Workpiece) (c : Code) (n : ℕ) (text other : List ℕ) (told left : FirstTold)
    (h : IsFirstTold names program part boxes c n told (λ t. t ≡ text)) (k : IsFirstTold names program part boxes c n left (λ t. t ≡ other)) where
  same_run : (h.held ≡ k.held) × (h.number ≡ k.number) × (h.ran ≡ k.ran)
  same_run =
      let a = h.watched in
      let b = k.watched in
      let same = one_run (steps_up_to (first_contact part boxes c n) n) (started part c) a.new b.new h.ran k.ran a.has_run b.has_run h.ample k.ample in
      let tables : h.held.tables ≡ k.held.tables = a.tables ∙ sym b.tables in
      let state : h.held.state ≡ k.held.state = a.state ∙ ap (λ m. m.state.world) same.0 ∙ sym b.state in
      let number : h.number ≡ k.number = a.next_is ∙ ap (λ m. m.state.next) same.0 ∙ sym b.next_is in
      (ap (λ x. held x h.held.state) tables ∙ ap (held k.held.tables) state, number, same.1)

  same_behind : seen h.progress ≡ seen k.progress
  same_behind = h.watched.behind ∙ ap (λ (r : Ran). behind_run part c r.done) same_run.2 ∙ sym k.watched.behind

  abbrev text_of : Option Sourced → Held → ℕ → Behind → ℕ → List ℕ
  text_of s x i b done = told_lines names s part boxes c.statements x i b done (first_contact part boxes c n)

  same_told : (text ≡ other) × (told ≡ left)
  same_told = (
    sym h.written
        ∙ ap (λ s. text_of s h.held h.number (seen h.progress) h.ran.done) (one_source program h.source k.source h.is_source k.is_source)
        ∙ ap (λ x. text_of k.source x h.number (seen h.progress) h.ran.done) same_run.0
        ∙ ap (λ i. text_of k.source k.held i (seen h.progress) h.ran.done) same_run.1
        ∙ ap (λ (b : Behind). text_of k.source k.held k.number b h.ran.done) same_behind
        ∙ ap (λ (r : Ran). text_of k.source k.held k.number (seen k.progress) r.done) same_run.2
        ∙ k.written,
    h.told_is ∙ ap (λ (x : Held). told_of (first_contact part boxes c n) x.state.stop) same_run.0 ∙ sym k.told_is,
  )

pub same_first : (names : List (List ℕ)) (boxes : List ProbeBox) (program : Option (List ℕ)) (part : Workpiece) (c : Code) (n : ℕ) (text other : List ℕ) (status more : ℕ)
    → IsFirstOf names boxes program part c n text status → IsFirstOf names boxes program part c n other more → (text ≡ other) × (status ≡ more)
same_first names boxes program part c n text other status more h k =
    let same = same_told names boxes program part c n text other h.first k.first h.told k.told in
    (same.0, h.status_is ∙ ap (λ (f : FirstTold). first_status f.is_met f.stop) same.1 ∙ sym k.status_is)

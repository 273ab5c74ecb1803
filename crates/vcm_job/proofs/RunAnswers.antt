-- Two answers of `run` or of `job` to one input are one.
use Rattle.std.proofs.Common.{◌≡◌, ◌≢◌, ◌⊎◌, inl, inr, ℕ, Bool, true, false, List, Option, Some, Ok, refl, sym, ap, ◌∙◌, subst}
use Rattle.vcm_part.specs.PartFile.{part_of}
use Rattle.vcm_spec.specs.Workpiece.{Workpiece}
use Rattle.vcm_program.specs.declared.accepted.Noticed.{Noticed}
use Rattle.vcm_program.specs.Program.{Parsed}
use Rattle.vcm_tree.proofs.AcceptanceLaws.{one_program}
use Rattle.vcm_machine.specs.declared.ran.End.TheVariants as ends
use Rattle.std.specs.Io.KnownBytes.{Appends}
use Rattle.vcm_run.specs.declared.run.Refusal.{Refusal}
use Rattle.vcm_run.specs.declared.run.Refusal.TheVariants as refusals
use Rattle.vcm_run.specs.Summaries.{Shown}
use Rattle.vcm_run.specs.Printed.{result_text}
use Rattle.vcm_run.proofs.OneRun.{one_summary, one_image_run}
use Rattle.vcm_job.specs.declared.running.Done.{Done}
use Rattle.vcm_job.specs.declared.fault.InputRefusal.{InputRefusal}
use Rattle.vcm_job.specs.declared.fault.InputRefusal.TheVariants.{Text, Image}
use Rattle.vcm_job.specs.Jobs.{part_text, program_text, last_state, job_text, status_of, IsJob}
use Rattle.vcm_job.specs.Results.{IsJobRefusal, IsDone}
use Rattle.vcm_job.specs.Inputs.{is_image, RunAs, IsInputRun, IsInputRefusal, IsWritten}
use Rattle.vcm_job.specs.Causes.{Cause, refusal_cause, input_cause}
use Rattle.vcm_job.specs.Answers.{status_and_notices}
use Rattle.vcm_job.specs.Laws.{JobAnswersAreOne, RunAnswersAreOne}
use Rattle.vcm_job.proofs.Answering.{written_once}
use Rattle.vcm_job.proofs.Told.{TextRefused, one_text, never_text, program_told, never_bad_image, image_told, RefusedAs, InputRefused, one_input, PartRefused, one_part, never_part, part_told}

abbrev pub pair : ℕ → List Noticed → ℕ × List Noticed
pair status notices = (status, notices)

-- ---- runs

-- the status and the notices of a run
abbrev given_by : Shown → ℕ × List Noticed
given_by s = (status_of s.held.state.stop, s.notices)

-- what a run gives and writes
pub record RunGives (part : Workpiece) (n : ℕ) (input : List ℕ) (b : ℕ × List Noticed) (bytes : List ℕ) : Type 0 where
  pub shown : Shown
  pub run : IsInputRun part input n shown
  pub ample : shown.ran.end ≢ ends.NoMemory
  pub gives : b ≡ given_by shown
  pub writes : bytes ≡ result_text shown.held shown.ran.done

one_run_as : (image : Bool) (part : Workpiece) (input : List ℕ) (n : ℕ) (s t : Shown) → RunAs image part input n s → RunAs image part input n t → s.ran.end ≢ ends.NoMemory
    → t.ran.end ≢ ends.NoMemory → s ≡ t
one_run_as true part input n s t h k p q = one_image_run part input n s t h k p q
one_run_as false part input n s t h k p q = one_summary part input n s t h k p q

never_run_as : (image : Bool) (part : Workpiece) (input : List ℕ) (n : ℕ) (s : Shown) (c : Cause) → RunAs image part input n s → RefusedAs image input c → ⊥
never_run_as true part input n s c h k = never_bad_image input h.code c h.valid h.fits h.spelled k
never_run_as false part input n s c h k = never_text input h.parsed c h.accepted k

-- a refused input
pub input_told : (input : List ℕ) (r : InputRefusal) (c : Cause) → IsInputRefusal input r → input_cause r ≡ Some c → InputRefused input c
input_told input (Text r) c h e = subst (λ b. RefusedAs b input c) (sym h.0) (program_told input r c h.1 e)
input_told input (Image f) c h e = subst (λ b. RefusedAs b input c) (sym h.0) (image_told input f c h.1 e)

module _ (part : Workpiece) (n : ℕ) (input : List ℕ) where
  one_given : (a b : ℕ × List Noticed) (xs ys : List ℕ) → RunGives part n input a xs → RunGives part n input b ys → (a ≡ b) × (xs ≡ ys)
  one_given a b xs ys h k =
      let same : h.shown ≡ k.shown = one_run_as (is_image input) part input n h.shown k.shown h.run k.run h.ample k.ample in
      (h.gives ∙ ap given_by same ∙ sym k.gives, h.writes ∙ ap (λ (s : Shown). result_text s.held s.ran.done) same ∙ sym k.writes)

  never_given : (b : ℕ × List Noticed) (xs : List ℕ) (c : Cause) → RunGives part n input b xs → InputRefused input c → ⊥
  never_given b xs c h k = never_run_as (is_image input) part input n h.shown c h.run k

  run_gives : (d : Done) (old new : Option (List ℕ)) → IsWritten part input n d.status d.notices.items old new
      → (bytes : List ℕ) × (RunGives part n input (status_and_notices d) bytes × Appends old new bytes)
  run_gives d old new h = (
    result_text h.shown.held h.shown.ran.done,
    (
      record {
        shown = h.shown;
        run = h.run;
        ample = h.ample;
        gives = ap (λ x. pair x d.notices.items) h.status_is ∙ ap (pair (status_of h.shown.held.state.stop)) h.notices_are;
        writes = refl;
      },
      h.written,
    ),
  )

pub run_answers : RunAnswersAreOne
run_answers part n input =
    written_once status_and_notices input_cause IsInputRefusal input (RunGives part n input) (InputRefused input) (input_told input) (one_given part n input) (one_input input)
    (never_given part n input) (λ d old new. IsWritten part input n d.status d.notices.items old new) _ _ (run_gives part n input)

-- ---- jobs

-- the status and the notices of a job
abbrev job_given : Workpiece → Parsed → ℕ × List Noticed
job_given part p = (status_of (last_state part p).world.stop, p.notices)

-- what a job gives and writes
pub record JobGives (input : List ℕ) (b : ℕ × List Noticed) (bytes : List ℕ) : Type 0 where
  pub part : Workpiece
  pub parsed : Parsed
  pub job : IsJob input part parsed
  pub gives : b ≡ job_given part parsed
  pub writes : bytes ≡ job_text part parsed

-- its part is refused; or its part gives a workpiece, and its program is refused
abbrev pub JobRefused : List ℕ → Cause → Type 0
JobRefused input c = PartRefused (part_text input) c ⊎ (((part : Workpiece) × (part_of (part_text input) ≡ Ok part)) × TextRefused (program_text input) c)

module _ (input : List ℕ) where
  one_job_given : (a b : ℕ × List Noticed) (xs ys : List ℕ) → JobGives input a xs → JobGives input b ys → (a ≡ b) × (xs ≡ ys)
  one_job_given a b xs ys h k =
      let p = h.job.part_is in
      let q = k.job.part_is in
      let part : h.part ≡ k.part = cc in
      let parsed : h.parsed ≡ k.parsed = one_program (program_text input) h.parsed k.parsed h.job.accepted k.job.accepted in (
        h.gives ∙ ap (λ x. job_given x h.parsed) part ∙ ap (job_given k.part) parsed ∙ sym k.gives,
        h.writes ∙ ap (λ x. job_text x h.parsed) part ∙ ap (job_text k.part) parsed ∙ sym k.writes,
      )

  one_job_refused : (c d : Cause) → JobRefused input c → JobRefused input d → c ≡ d
  one_job_refused c d (inl h) (inl k) = one_part (part_text input) c d h k
  one_job_refused c d (inl h) (inr k) = absurd (never_part (part_text input) k.0.0 c k.0.1 h)
  one_job_refused c d (inr h) (inl k) = absurd (never_part (part_text input) h.0.0 d h.0.1 k)
  one_job_refused c d (inr h) (inr k) = one_text (program_text input) c d h.1 k.1

  never_job_given : (b : ℕ × List Noticed) (xs : List ℕ) (c : Cause) → JobGives input b xs → JobRefused input c → ⊥
  never_job_given b xs c h (inl k) = never_part (part_text input) h.part c h.job.part_is k
  never_job_given b xs c h (inr k) = never_text (program_text input) h.parsed c h.job.accepted k.1

  job_gives : (d : Done) (old new : Option (List ℕ)) → IsDone input d.status d.notices.items old new
      → (bytes : List ℕ) × (JobGives input (status_and_notices d) bytes × Appends old new bytes)
  job_gives d old new h = (
    job_text h.part h.parsed,
    (
      record {
        part = h.part;
        parsed = h.parsed;
        job = h.job;
        gives = ap (λ x. pair x d.notices.items) h.status_is ∙ ap (pair (status_of (last_state h.part h.parsed).world.stop)) h.notices_are;
        writes = refl;
      },
      h.written,
    ),
  )

  job_refused : (r : Refusal) (c : Cause) → IsJobRefusal input r → refusal_cause r ≡ Some c → JobRefused input c
  job_refused (refusals.Source f) c h e = inr (h.0, program_told (program_text input) (refusals.Source f) c h.1 e)
  job_refused (refusals.Part f) c h e = inl (part_told (part_text input) f c h e)
  job_refused refusals.NoMemory c h e = absurd cc

pub job_answers : JobAnswersAreOne
job_answers input =
    written_once status_and_notices refusal_cause IsJobRefusal input (JobGives input) (JobRefused input) (job_refused input) (one_job_given input) (one_job_refused input)
    (never_job_given input) (λ d old new. IsDone input d.status d.notices.items old new) _ _ (job_gives input)

-- From runs to the answers of jobs.
use Rattle.std.proofs.Common.{◌≡◌, ℕ, zero, suc, ◌+◌, ◌<◌, ◌≤◌, List, [], ◌∷◌, length, take, Option, Some, None, Result, Ok, Err, refl, sym, ap, ◌∙◌, subst, arith, length-append}
use Rattle.std.specs.Prelude.{IfSome, IfOk, IfErr}
use Rattle.std.specs.Io.KnownBytes.{Appends, Consumes, Keeps}
use Rattle.vcm_num.specs.Written.{AppendsFront}
use Rattle.vcm_part.specs.PartFile.{part_of}
use Rattle.vcm_spec.specs.Workpiece.{Workpiece}
use Rattle.vcm_spec.specs.Setup.{Tables, Setup}
use Rattle.vcm_spec.specs.World.{World}
use Rattle.vcm_spec.specs.Table.{State, steps, effective}
use Rattle.vcm_spec.proofs.Steps.{steps-effective}
use Rattle.vcm_state.specs.Held.{Held}
use Rattle.vcm_program.specs.declared.accepted.Noticed.{Noticed}
use Rattle.vcm_machine.specs.declared.ran.End.{End}
use Rattle.vcm_machine.specs.declared.ran.End.TheVariants as ends
use Rattle.vcm_run.specs.declared.run.Refusal.{Refusal}
use Rattle.vcm_run.specs.declared.run.Refusal.TheVariants.{Source, Part}
use Rattle.vcm_run.specs.declared.run.Refusal.TheVariants as refusals
use Rattle.vcm_run.specs.Run.{Ended}
use Rattle.vcm_run.specs.Programs.{IsSummary, IsRefusal}
use Rattle.vcm_run.specs.Summaries.{Shown}
use Rattle.vcm_run.specs.Printed.{result_text}
use Rattle.vcm_job.specs.declared.fault.Fault.{Fault}
use Rattle.vcm_job.specs.declared.fault.Fault.TheVariants.{Refused, Memory, NoMemory, Read, Write, TooLong}
use Rattle.vcm_job.specs.Reading.{most_bytes, ReadsAtMost, ReadsLittle}
use Rattle.vcm_job.specs.inner.Judged.{IsRefusedAs}
use Rattle.vcm_job.specs.Jobs.{most_steps, job_setup, start_of, held, part_text, program_text, status_of}
use Rattle.vcm_job.specs.Results.{IsHalted, IsJobRefusal, IsDone, IsCutOff, IsNotDone}
use Rattle.vcm_job.specs.inner.Running.{IsShown, IsShort, IsShownInPart, IsTextsRun, IsJobRun, IsNoJob}
use Rattle.vcm_job.proofs.UnreadLemmas.{known, none_written_of}

-- ---- what is known of an input

pub too_long : (a b : Option (List ℕ)) (bytes : List ℕ) → Consumes a b bytes → 33554432 < length bytes → IfSome a (λ input. most_bytes < length input)
unfolding most_bytes
too_long None b bytes h l = tt
too_long (Some x) None bytes h l = absurd h
too_long (Some x) (Some y) bytes h l = (let e = ap length h in omega (arith, length-append bytes y))

take_le : (n : ℕ) (xs : List ℕ) → length (take n xs) ≤ n
take_le zero xs = omega arith
take_le (suc n) [] = omega arith
take_le (suc n) (x ∷ xs) = (let t = take_le n xs in omega arith)

-- so many bytes were read, and then no more
pub little : (a b c : Option (List ℕ)) (bytes : List ℕ) → Consumes a b bytes → Keeps b c → length bytes ≤ 33554433 → ReadsLittle a c
unfolding most_bytes
little None b c bytes h k l = tt
little (Some x) None c bytes h k l = absurd h
little (Some x) (Some y) None bytes h k l = absurd k
little (Some x) (Some y) (Some z) bytes h k l = (let e = ap length h in let f = ap length k in omega (arith, length-append bytes y))

-- so many bytes were read, and no more than an input may have
pub few : (a b c : Option (List ℕ)) (bytes : List ℕ) → Consumes a b bytes → Keeps b c → length bytes ≤ 33554432 → ReadsAtMost most_bytes a c
unfolding most_bytes
few None b c bytes h k l = tt
few (Some x) None c bytes h k l = absurd h
few (Some x) (Some y) None bytes h k l = absurd k
few (Some x) (Some y) (Some z) bytes h k l = (let e = ap length h in let f = ap length k in omega (arith, length-append bytes y))

-- so many bytes were read, and then some more
pub little_more : (a b c : Option (List ℕ)) (bytes buf : List ℕ) (n : ℕ) → Consumes a b bytes → Consumes b c (take n buf) → length bytes + n ≤ 33554433 → ReadsLittle a c
unfolding most_bytes
little_more None b c bytes buf n h k l = tt
little_more (Some x) None c bytes buf n h k l = absurd h
little_more (Some x) (Some y) None bytes buf n h k l = absurd k
little_more (Some x) (Some y) (Some z) bytes buf n h k l =
    (let e = ap length h in let f = ap length k in let t = take_le n buf in omega (arith, length-append bytes y, length-append (take n buf) z))

-- ---- runs of as many steps as a job has

pub steps_of_jobs : 1000000 ≡ most_steps
unfolding most_steps
steps_of_jobs = refl

module _ (n : ℕ) (is : n ≡ most_steps) (input : List ℕ) (part : Workpiece) (part_is : part_of (part_text input) ≡ Ok part) (s : Shown)
    (h : IsSummary part (program_text input) n s) where
  abbrev setup : Setup
  setup = job_setup part h.parsed

  abbrev start : State
  start = start_of part h.parsed

  abbrev shown : Tables → World → Held
  shown tables w = record { tables = tables; state = w }

  -- the steps that were done lead to the state after n steps, and they are the effective ones
  settled : (same : steps setup s.ran.done start ≡ steps setup n start) → s.ran.done ≡ effective setup n start → IsJobRun input s
  settled same count =
      let reached : s.held.state ≡ (steps setup n start).world = h.run.world_is ∙ ap (λ x. x.world) same in
      record {
        part = part;
        parsed = h.parsed;
        job = record { part_is = part_is; accepted = h.accepted };
        notices = h.notices;
        count = count ∙ ap (λ k. effective setup k start) is;
        text = ap (λ t. result_text (shown t s.held.state) s.ran.done) h.tables_are
            ∙ ap (λ w. result_text (shown h.parsed.tables w) s.ran.done) reached
            ∙ ap (λ d. result_text (held h.parsed (steps setup n start)) d) count
            ∙ ap (λ k. result_text (held h.parsed (steps setup k start)) (effective setup k start)) is;
        stop = ap (λ w. w.stop) reached ∙ ap (λ k. (steps setup k start).world.stop) is;
      }

  pub job_run : (s.ran.end ≡ ends.NoMemory → ⊥) → IsJobRun input s
  job_run ample = by s.ran.end refl h.run.ended
    where
      by : (end : End) → s.ran.end ≡ end → Ended setup n start (steps setup s.ran.done start) s.ran.done end → IsJobRun input s
      by ends.Stopped e (count, stop) = settled (ap (λ d. steps setup d start) count ∙ sym (steps-effective setup n start)) count
      by ends.Count e (all, count, none) = settled (ap (λ d. steps setup d start) all) (all ∙ count)
      by ends.NoMemory e x = absurd (ample e)

  pub job_halted : s.ran.end ≡ ends.NoMemory → IsHalted input s.ran.done
  job_halted e = record {
    part = part;
    parsed = h.parsed;
    job = record { part_is = part_is; accepted = h.accepted };
    halted = subst (λ k. Ended setup k start (steps setup s.ran.done start) s.ran.done ends.NoMemory) is
        (subst (λ end. Ended setup n start (steps setup s.ran.done start) s.ran.done end) e h.run.ended);
  }

-- what the refusal of a program is for the job
program_refused : (input program : List ℕ) (part : Workpiece) (f : Fault Refusal) → part_of (part_text input) ≡ Ok part → program ≡ program_text input → IsRefusedAs (IsRefusal program) f
    → IsRefusedAs (IsJobRefusal input) f
program_refused input program part (Refused (Source f)) e is h = ((part, e), subst (λ p. IsRefusal p (Source f)) is h)
program_refused input program part (Refused (Part f)) e is h = absurd h
program_refused input program part (Refused refusals.NoMemory) e is h = ((part, e), subst (λ p. IsRefusal p refusals.NoMemory) is h)
program_refused input program part NoMemory e is h = tt
program_refused input program part (Memory n) e is h = absurd h
program_refused input program part Read e is h = absurd h
program_refused input program part (Write n) e is h = absurd h
program_refused input program part TooLong e is h = absurd h

pub program_refuses : (input program : List ℕ) (part : Workpiece) (r : Result Shown (Fault Refusal)) → part_of (part_text input) ≡ Ok part → program ≡ program_text input
    → IfErr r (IsRefusedAs (IsRefusal program)) → IfErr r (IsRefusedAs (IsJobRefusal input))
program_refuses input program part (Ok s) e is h = tt
program_refuses input program part (Err f) e is h = program_refused input program part f e is h

-- a run of its program is one of the input's texts
pub texts_run : (input program : List ℕ) (n : ℕ) (part : Workpiece) (r : Result Shown (Fault Refusal)) → part_of (part_text input) ≡ Ok part → program ≡ program_text input
    → IfOk r (IsSummary part program n) → IfOk r (IsTextsRun input n)
texts_run input program n part (Err f) e is h = tt
texts_run input program n part (Ok s) e is h = record { part = part; part_is = e; run = subst (λ p. IsSummary part p n s) is h }

-- ---- what was written

module _ (n : ℕ) (is : n ≡ most_steps) (input : List ℕ) (s : Shown) (texts : IsTextsRun input n s) where
  ran : (s.ran.end ≡ ends.NoMemory → ⊥) → IsJobRun input s
  ran ample = job_run n is input texts.part texts.part_is s texts.run ample

  pub job_done : (status : ℕ) (notices : List Noticed) (old new : Option (List ℕ)) → IsShown s status notices old new → IsDone input status notices old new
  job_done status notices old new h =
      let run : IsJobRun input s = ran h.ample in
      record {
        part = run.part;
        parsed = run.parsed;
        job = run.job;
        status_is = h.status_is ∙ ap status_of run.stop;
        notices_are = h.notices_are ∙ run.notices;
        written = subst (λ t. Appends old new t) run.text h.written;
      }

  pub job_cut_off : (done : ℕ) (old new : Option (List ℕ)) → IsShownInPart s done old new → IsCutOff input done old new
  job_cut_off done old new h =
      let run : IsJobRun input s = ran h.ample in
      record {
        part = run.part;
        parsed = run.parsed;
        job = run.job;
        count = h.count ∙ run.count;
        front = subst (λ t. AppendsFront old new t) run.text h.front;
      }

  pub job_short : (done : ℕ) (old new : Option (List ℕ)) → IsShort s done × Keeps old new → IsHalted input done × Keeps old new
  job_short done old new (h, k) = (subst (λ d. IsHalted input d) (sym h.count) (job_halted n is input texts.part texts.part_is s texts.run h.halted), k)

-- ---- what holds of what was read holds of the input

pub not_done_of : {A : Type 0} (a b : Option (List ℕ)) (bytes : List ℕ) (r : Result A (Fault Refusal)) (old new : Option (List ℕ)) → IfSome a (λ input. bytes ≡ input)
    → IfErr r (λ f. IsNoJob bytes f old new) → IfErr r (λ f. IsNotDone a b f old new)
not_done_of a b bytes r old new all h =
    none_written_of IsJobRefusal a b bytes all _ _ _ (IsCutOff bytes) old new (λ done p. (known a _ _ all (λ input is. subst (λ i. IsHalted i done) is p.0), p.1))
    (λ done p. known a _ _ all (λ input is. subst (λ i. IsCutOff i done old new) is p)) r h

-- ---- inputs over their limit

pub not_long : (bytes : List ℕ) → length bytes ≤ 33554432 → length bytes ≤ most_bytes
unfolding most_bytes
not_long bytes h = h

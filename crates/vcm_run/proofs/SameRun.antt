-- A run of an assembled code is a run of its program.
use Rattle.std.specs.Prelude.{slice_get}
use Rattle.std.proofs.Common.{◌≡◌, ℕ, zero, suc, ◌+◌, ◌<◌, List, length, true, None, refl, sym, ap, ◌∙◌, subst, arith}
use Rattle.vcm_spec.specs.Workpiece.{Workpiece}
use Rattle.vcm_spec.specs.Rests.{Rests}
use Rattle.vcm_spec.specs.Setup.{Setup, Tables, setup_of}
use Rattle.vcm_spec.specs.Program.{Block, sizes}
use Rattle.vcm_spec.specs.Table.{State, front, step, steps, effective, opening}
use Rattle.vcm_spec.proofs.Steps.{steps-add}
use Rattle.vcm_code.specs.Code.{CodeStatement}
use Rattle.vcm_code.specs.declared.code.Code.{Code}
use Rattle.vcm_code.specs.CodeTable.{CodeState, code_step, code_steps, code_effective, start, next_prints}
use Rattle.vcm_spec.specs.Stepping.{unless_stopped}
use Rattle.vcm_spec.specs.Printing.{takes_memory, next_node}
use Rattle.vcm_asm.specs.Assembled.{marks, place_in}
use Rattle.vcm_asm.specs.Simulation.{SameAfter, IsAssembled}
use Rattle.vcm_asm.proofs.Place.{block_length}
use Rattle.vcm_tree.proofs.AcceptanceLaws.{one_program}
use Rattle.vcm_machine.specs.declared.ran.End.{End}
use Rattle.vcm_machine.specs.declared.ran.End.TheVariants as ends
use Rattle.vcm_machine.specs.declared.ran.Ran.{Ran}
use Rattle.vcm_machine.specs.Running.{Running, setup, started, later, WantsMemory, RunEnded, HasRun}
use Rattle.vcm_machine.proofs.LawLemmas.{follow}
use Rattle.vcm_machine.proofs.ProgramRests.{programs_rest}
use Rattle.vcm_program.specs.Program.{Parsed}
use Rattle.vcm_program.specs.declared.accepted.Noticed.{Noticed}
use Rattle.vcm_image.specs.Whole.{FitsImage, spelling}
use Rattle.vcm_image.proofs.ImageLaws.{one_image}
use Rattle.vcm_run.specs.Run.{Ended, IsRun}
use Rattle.vcm_run.specs.Summaries.{Shown}
use Rattle.vcm_run.specs.Programs.{IsSummary, NextIsThere}
use Rattle.vcm_run.specs.Built.{IsImageOf, IsBuilt}
use Rattle.vcm_run.specs.Images.{IsCodeRun}
use Rattle.vcm_run.specs.Laws.{CallsShowTheProgram, SummariesRest}

module _ (part : Workpiece) (program : Block) (c : Code) (same : (k : ℕ) → SameAfter (setup_of part c.tables) program c.statements k) where
  abbrev su : Setup
  su = setup_of part c.tables

  abbrev code : List CodeStatement
  code = c.statements

  -- the steps that count are as many
  effective_from : (k : ℕ) (m : CodeState) (s : State) → ((j : ℕ) → (code_steps su code j m).world ≡ (steps su j s).world) → code_effective su code k m ≡ effective su k s
  effective_from zero m s h = refl
  effective_from (suc k) m s h =
      ap (λ w. unless_stopped w.stop 0 (suc (code_effective su code k (code_step su code m)))) (h 0)
      ∙ ap (λ x. unless_stopped s.world.stop 0 (suc x)) (effective_from k (code_step su code m) (step su s) (λ j. h (suc j)))

  same_effective : (k : ℕ) → code_effective su code k (start su) ≡ effective su k (opening su program)
  same_effective k = effective_from k (start su) (opening su program) (λ j. (same j).world)

  code-add : (k : ℕ) (m : CodeState) → code_steps su code (k + 1) m ≡ code_step su code (code_steps su code k m)
  code-add zero m = refl
  code-add (suc k) m = ap (λ j. code_steps su code j m) (let e : suc k + 1 ≡ suc (k + 1) = omega arith in e) ∙ code-add k (code_step su code m)

  -- the step behind so many has one world
  next_world : (k : ℕ) → (code_step su code (code_steps su code k (start su))).world ≡ (step su (steps su k (opening su program))).world
  next_world k = ap (λ p. p.world) (sym (code-add k (start su))) ∙ (same (k + 1)).world ∙ ap (λ s. s.world) (steps-add su k 1 (opening su program))

  module _ (n : ℕ) (m : Running) (done : ℕ) (e : m ≡ later done (started part c)) where
    abbrev reached : State
    reached = steps su done (opening su program)

    stop_is : m.state.world.stop ≡ reached.world.stop
    stop_is = ap (λ x. x.state.world.stop) e ∙ ap (λ w. w.stop) (same done).world

    prints_is : WantsMemory m → takes_memory (next_node (front reached.entries)) ≡ true
    prints_is w = sym (same done).prints ∙ sym (ap (λ x. next_prints (slice_get x.code.statements x.state.next)) e) ∙ w.prints

    goes_is : WantsMemory m → (step su reached).world.stop ≡ None
    goes_is w = sym (ap (λ x. x.stop) (next_world done)) ∙ sym (ap (λ x. (code_step (setup x) x.code.statements x.state).world.stop) e) ∙ w.goes_on

    ends_so : (end : End) → RunEnded n (started part c) m done end → Ended su n (opening su program) reached done end
    ends_so ends.Stopped h = (h.0 ∙ same_effective n, (h.1.0, sym stop_is ∙ h.1.1))
    ends_so ends.Count h = (h.0, h.1 ∙ same_effective n, sym stop_is ∙ h.2)
    ends_so ends.NoMemory h = (h.0, h.1 ∙ same_effective done, sym stop_is ∙ (h.2).running, prints_is h.2, goes_is h.2)

  run_is : (n : ℕ) (m : Running) (ran : Ran) → HasRun n (started part c) m ran → IsRun su program n m.state.world m.state.next ran
  run_is n m ran h = record {
    world_is = ap (λ x. x.state.world) h.new_is ∙ (same ran.done).world;
    next_is = ap (λ x. x.state.next) h.new_is ∙ (same ran.done).next;
    ended = ends_so n m ran.done h.new_is ran.end h.ended;
  }

-- a run of an assembled code
pub assembled_run : (part : Workpiece) (program : Block) (tables : Tables) (c : Code) (n : ℕ) (m : Running) (ran : Ran) → IsAssembled program tables c
    → HasRun n (started part c) m ran → IsRun (setup_of part tables) program n m.state.world m.state.next ran
assembled_run part program tables c n m ran a h =
    subst (λ t. IsRun (setup_of part t) program n m.state.world m.state.next ran) a.tables_are
    (run_is part program c (λ k. subst (λ t. SameAfter (setup_of part t) program c.statements k) (sym a.tables_are) (a.follows part k)) n m ran h)

-- ---- the calls one by one

-- codes that fit and have one image run alike
pub calls_show : CallsShowTheProgram
calls_show part text parsed written loaded n m ran ok a f g e rs =
    let b = subst (λ (k : Code). IsAssembled parsed.program parsed.tables k) (one_image written loaded f g e) a in
    let h = follow n (started part loaded) m ran rs in
    record {
      parsed = parsed;
      accepted = ok;
      tables_are = ap (λ x. x.code.tables) h.new_is ∙ b.tables_are;
      notices = refl;
      run = assembled_run part parsed.program parsed.tables loaded n m ran b h;
    }

-- the probe is at rest in each state of the statement table
pub rests_shown : SummariesRest
rests_shown part text n s valid h =
    subst (Rests part) (sym h.run.world_is) (programs_rest (setup_of part h.parsed.tables) valid h.parsed.program s.ran.done)

-- the image of a program is loaded as its code
loaded_code : (p : Parsed) (bytes : List ℕ) (l : Code) (i : IsImageOf p bytes) → FitsImage l → bytes ≡ spelling l → i.code ≡ l
loaded_code p bytes l i f e = one_image i.code l i.fits f (sym i.spelled ∙ e)

-- a run of what was loaded is a run of the text
pub text_run : (part : Workpiece) (text bytes : List ℕ) (notices : List Noticed) (n : ℕ) (s : Shown) (l : Code) → IsBuilt text bytes notices → FitsImage l → bytes ≡ spelling l
    → IsCodeRun part l n s → s.notices ≡ notices → IsSummary part text n s
text_run part text bytes notices n s l b f e r ns =
    let a = subst (λ (k : Code). IsAssembled b.parsed.program b.parsed.tables k) (loaded_code b.parsed bytes l b.image f e) b.image.assembled in
    let run = assembled_run part b.parsed.program b.parsed.tables l n r.machine s.ran a r.has_run in
    record {
      parsed = b.parsed;
      accepted = b.accepted;
      tables_are = r.tables_are ∙ a.tables_are;
      notices = ns ∙ b.notices_are;
      run = subst (λ w. IsRun (setup_of part b.parsed.tables) b.parsed.program n w s.next s.ran) (sym r.world_is)
          (subst (λ k. IsRun (setup_of part b.parsed.tables) b.parsed.program n r.machine.state.world k s.ran) (sym r.next_is) run);
    }

-- the next statement is one of the program's
pub text_next : (text bytes : List ℕ) (notices : List Noticed) (s : Shown) (l : Code) → IsBuilt text bytes notices → FitsImage l → bytes ≡ spelling l
    → s.next < length l.statements → NextIsThere text s
text_next text bytes notices s l b f e within p ok =
    let a = subst (λ (k : Code). IsAssembled b.parsed.program b.parsed.tables k) (loaded_code b.parsed bytes l b.image f e) b.image.assembled in
    let program = b.parsed.program in
    let as_many = ap length a.statements_are ∙ block_length (place_in (marks program 0)) program 0 0 in
    let same : sizes program ≡ sizes p.program = ap (λ q. sizes q.program) (one_program text b.parsed p b.accepted ok) in
    omega (arith, within, as_many, same)

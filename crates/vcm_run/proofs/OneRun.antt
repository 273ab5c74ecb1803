-- Runs, images and refusals of one input are one.
use Rattle.std.proofs.Common.{◌≡◌, ◌≢◌, inl, inr, ℕ, List, Result, Ok, Err, refl, sym, ap, ◌∙◌, subst}
use Rattle.vcm_spec.specs.Workpiece.{Workpiece}
use Rattle.vcm_spec.specs.World.{World}
use Rattle.vcm_spec.specs.Setup.{Setup, Tables, setup_of}
use Rattle.vcm_spec.specs.Program.{Block}
use Rattle.vcm_spec.specs.Table.{State, next_number, steps, effective, opening}
use Rattle.vcm_state.specs.Held.{Held}
use Rattle.vcm_tree.specs.Acceptance.{IsAccepted}
use Rattle.vcm_program.specs.Program.{Parsed}
use Rattle.vcm_program.specs.declared.accepted.Noticed.{Noticed}
use Rattle.vcm_tree.proofs.AcceptanceLaws.{one_program, not_refused, one_refusal}
use Rattle.vcm_code.specs.declared.code.Code.{Code}
use Rattle.vcm_code.specs.declared.version.Version.{Version}
use Rattle.vcm_code.specs.Code.{CodeStatement}
use Rattle.vcm_fields.specs.declared.fault.ImageFault.{ImageFault}
use Rattle.vcm_fields.specs.declared.fault.ImageFault.TheVariants as image_faults
use Rattle.vcm_image.specs.Whole.{spelling, code_at}
use Rattle.vcm_image.proofs.ImageLaws.{one_image}
use Rattle.vcm_loader.specs.Loading.{RefusesCode, LoadFault}
use Rattle.vcm_loader.proofs.Refusals.{written_loaded, one_refusal as one_refused}
use Rattle.vcm_code.specs.Ranges.{version_for}
use Rattle.vcm_asm.specs.Simulation.{IsAssembled}
use Rattle.vcm_machine.specs.declared.ran.End.{End}
use Rattle.vcm_machine.specs.declared.ran.End.TheVariants.{Count, Stopped, NoMemory}
use Rattle.vcm_machine.specs.declared.ran.Ran.{Ran}
use Rattle.vcm_machine.specs.Running.{started}
use Rattle.vcm_machine.proofs.LawLemmas.{one_run}
use Rattle.vcm_run.specs.declared.run.Refusal.{Refusal}
use Rattle.vcm_run.specs.declared.run.Refusal.TheVariants as refusals
use Rattle.vcm_run.specs.Images.{IsCodeRun}
use Rattle.vcm_run.specs.Run.{Ended, IsRun}
use Rattle.vcm_run.specs.Summaries.{Shown}
use Rattle.vcm_run.specs.Programs.{IsRefusal}
use Rattle.vcm_run.specs.Laws.{SummariesAreOne, ImageRunsAreOne, BuildsAreOne, IsWant, RefusedIsNotBuilt, RefusedIsNotRun, RefusedImageIsNotRun, RefusedAtOneLine, ImageRefusalsAreOne}

abbrev ran : ℕ → End → Ran
ran done end = record { done = done; end = end }

abbrev held : Tables → World → Held
held tables state = record { tables = tables; state = state }

abbrev shown : Held → ℕ → Ran → List Noticed → Shown
shown h next r notices = record { held = h; next = next; ran = r; notices = notices }

-- what is the same in all parts is the same
one_shown : (s t : Shown) → s.held.tables ≡ t.held.tables → s.held.state ≡ t.held.state → s.next ≡ t.next → s.ran ≡ t.ran → s.notices ≡ t.notices → s ≡ t
one_shown s t tables state next r notices =
    ap (λ x. shown (held x s.held.state) s.next s.ran s.notices) tables
    ∙ ap (λ x. shown (held t.held.tables x) s.next s.ran s.notices) state
    ∙ ap (λ x. shown t.held x s.ran s.notices) next
    ∙ ap (λ x. shown t.held t.next x s.notices) r
    ∙ ap (shown t.held t.next t.ran) notices

-- ---- runs of images

one_code_run : (part : Workpiece) (c : Code) (n : ℕ) (s t : Shown) → IsCodeRun part c n s → IsCodeRun part c n t → s.ran.end ≢ NoMemory → t.ran.end ≢ NoMemory
    → s.notices ≡ t.notices → s ≡ t
one_code_run part c n s t h k p q notices =
    let same = one_run n (started part c) h.machine k.machine s.ran t.ran h.has_run k.has_run p q in
    one_shown s t (h.tables_are ∙ sym k.tables_are) (h.world_is ∙ ap (λ m. m.state.world) same.0 ∙ sym k.world_is) (h.next_is ∙ ap (λ m. m.state.next) same.0 ∙ sym k.next_is)
    same.1 notices

pub one_image_run : ImageRunsAreOne
one_image_run part bytes n s t h k p q =
    let same : h.code ≡ k.code = one_image h.code k.code h.fits k.fits (sym h.spelled ∙ k.spelled) in
    one_code_run part k.code n s t (subst (λ (c : Code). IsCodeRun part c n s) same h.run) k.run p q (h.notices ∙ sym k.notices)

-- ---- runs of texts

module _ (setup : Setup) (n : ℕ) (start : State) where
  -- a run that memory lets go on does the effective steps
  all_done : (reached : State) (done : ℕ) (end : End) → Ended setup n start reached done end → end ≢ NoMemory → done ≡ effective setup n start
  all_done reached done Stopped h other = h.0
  all_done reached done Count h other = h.0 ∙ h.1
  all_done reached done NoMemory h other = absurd (other refl)

  -- two that come to one state end alike
  same_end : (reached : State) (done : ℕ) (d e : End) → Ended setup n start reached done d → Ended setup n start reached done e → d ≢ NoMemory → e ≢ NoMemory → d ≡ e
  same_end reached done Count Count h k p q = refl
  same_end reached done Count Stopped h k p q = let none = h.2 in let some = k.1.1 in absurd cc
  same_end reached done Count NoMemory h k p q = absurd (q refl)
  same_end reached done Stopped Count h k p q = let some = h.1.1 in let none = k.2 in absurd cc
  same_end reached done Stopped Stopped h k p q = refl
  same_end reached done Stopped NoMemory h k p q = absurd (q refl)
  same_end reached done NoMemory e h k p q = absurd (p refl)

  one_ran : (x y : Ran) → Ended setup n start (steps setup x.done start) x.done x.end → Ended setup n start (steps setup y.done start) y.done y.end → x.end ≢ NoMemory
      → y.end ≢ NoMemory → x ≡ y
  one_ran x y h k p q =
      let done : x.done ≡ y.done = all_done (steps setup x.done start) x.done x.end h p ∙ sym (all_done (steps setup y.done start) y.done y.end k q) in
      let ended : Ended setup n start (steps setup y.done start) y.done x.end = subst (λ d. Ended setup n start (steps setup d start) d x.end) done h in
      ap (λ d. ran d x.end) done ∙ ap (ran y.done) (same_end (steps setup y.done start) y.done x.end y.end ended k p q)

abbrev RunOf : Workpiece → ℕ → Shown → Parsed → Type 0
RunOf part n s p = IsRun (setup_of part p.tables) p.program n s.held.state s.next s.ran

one_program_run : (part : Workpiece) (n : ℕ) (p : Parsed) (s t : Shown) → RunOf part n s p → RunOf part n t p → s.held.tables ≡ t.held.tables → s.notices ≡ t.notices
    → s.ran.end ≢ NoMemory → t.ran.end ≢ NoMemory → s ≡ t
one_program_run part n p s t h k tables notices g l =
    let setup = setup_of part p.tables in
    let start = opening setup p.program in
    let same : s.ran ≡ t.ran = one_ran setup n start s.ran t.ran h.ended k.ended g l in
    one_shown s t tables (h.world_is ∙ ap (λ (r : Ran). (steps setup r.done start).world) same ∙ sym k.world_is)
    (h.next_is ∙ ap (λ (r : Ran). next_number (steps setup r.done start).entries) same ∙ sym k.next_is) same notices

pub one_summary : SummariesAreOne
one_summary part text n s t h k p q =
    let same : h.parsed ≡ k.parsed = one_program text h.parsed k.parsed h.accepted k.accepted in
    one_program_run part n k.parsed s t (subst (RunOf part n s) same h.run) k.run (h.tables_are ∙ ap (λ (x : Parsed). x.tables) same ∙ sym k.tables_are)
    (h.notices ∙ ap (λ (x : Parsed). x.notices) same ∙ sym k.notices) p q

-- ---- images of texts

abbrev code : Version → Tables → List CodeStatement → Code
code version tables statements = record { version = version; tables = tables; statements = statements }

-- a program is assembled to one code
one_code : (program : Block) (tables : Tables) (c d : Code) → IsAssembled program tables c → IsAssembled program tables d → c ≡ d
one_code program tables c d h k =
    let statements = h.statements_are ∙ sym k.statements_are in
    let version = h.version_is ∙ ap version_for statements ∙ sym k.version_is in
    let names = h.tables_are ∙ sym k.tables_are in
    let same : code c.version c.tables c.statements ≡ code d.version d.tables d.statements =
    ap (λ x. code x c.tables c.statements) version ∙ ap (λ x. code d.version x c.statements) names ∙ ap (code d.version d.tables) statements in
    same

pub one_build : BuildsAreOne
one_build text image other notices more h k =
    let same : h.parsed ≡ k.parsed = one_program text h.parsed k.parsed h.accepted k.accepted in
    let assembled = subst (λ (p : Parsed). IsAssembled p.program p.tables h.image.code) same h.image.assembled in
    let codes : h.image.code ≡ k.image.code = one_code k.parsed.program k.parsed.tables h.image.code k.image.code assembled k.image.assembled in (
      h.image.spelled ∙ ap spelling codes ∙ sym k.image.spelled,
      h.notices_are ∙ ap (λ (p : Parsed). p.notices) same ∙ sym k.notices_are,
    )

-- ---- refusals

-- a text that is refused for another cause than memory is not accepted
not_accepted : (text : List ℕ) (p : Parsed) (r : Refusal) → IsRefusal text r → ¬ IsWant r → ¬ IsAccepted text p
not_accepted text p (refusals.Source f) (inl e) other accepted = other e
not_accepted text p (refusals.Source f) (inr h) other accepted = not_refused text p f accepted h
not_accepted text p (refusals.Part f) h other accepted = h
not_accepted text p refusals.NoMemory h other accepted = other tt

pub not_built : RefusedIsNotBuilt
not_built text image notices r h other b = not_accepted text b.parsed r h other b.accepted

pub not_run : RefusedIsNotRun
not_run part text n s r h other b = not_accepted text b.parsed r h other b.accepted

pub not_image_run : RefusedImageIsNotRun
not_image_run part bytes n s e h other b =
    other ((written_loaded b.code b.code e b.fits b.valid b.fits refl).1 (subst (λ l. LoadFault (code_at l) e) b.spelled h))

pub one_refused_line : RefusedAtOneLine
one_refused_line text f g (inl e) h p q = absurd (p e)
one_refused_line text f g (inr d) (inl e) p q = absurd (q e)
one_refused_line text f g (inr d) (inr e) p q = one_refusal text f g d e

-- of bytes that are no image, for another cause than memory, what reading them tells
of_bytes : (f e : ImageFault) → LoadFault (Err f) e → e ≢ image_faults.NoMemory → e ≡ f
of_bytes f image_faults.NoMemory h p = absurd (p refl)
of_bytes f _ h p = h

-- of a code what refuses it
of_code : (c : Code) (e : ImageFault) → LoadFault (Ok c) e → e ≢ image_faults.NoMemory → RefusesCode c e
of_code c image_faults.NoMemory h p = absurd (p refl)
of_code c _ h p = h

told_once : (read : Result Code ImageFault) (d e : ImageFault) → LoadFault read d → LoadFault read e → d ≢ image_faults.NoMemory → e ≢ image_faults.NoMemory → d ≡ e
told_once (Err f) d e h k p q = of_bytes f d h p ∙ sym (of_bytes f e k q)
told_once (Ok c) d e h k p q = one_refused c d e (of_code c d h p) (of_code c e k q)

pub one_image_refusal : ImageRefusalsAreOne
one_image_refusal bytes d e h k p q = told_once (code_at bytes) d e h k p q

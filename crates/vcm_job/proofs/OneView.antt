-- Two views of one input are one, where a view tells one thing of a code.
use Rattle.std.proofs.Common.{◌≡◌, ℕ, Bool, true, false, List, Option, sym, ap, ◌∙◌, subst}
use Rattle.std.specs.Io.KnownBytes.{Appends}
use Rattle.vcm_spec.specs.Workpiece.{Workpiece}
use Rattle.vcm_program.specs.declared.accepted.Noticed.{Noticed}
use Rattle.vcm_code.specs.declared.code.Code.{Code}
use Rattle.vcm_code.specs.Valid as codes
use Rattle.vcm_image.proofs.ImageLaws.{one_image}
use Rattle.vcm_run.proofs.OneRun.{one_build}
use Rattle.vcm_job.specs.declared.running.Done.{Done}
use Rattle.vcm_job.specs.Inputs.{is_image, IsInputRefusal}
use Rattle.vcm_job.specs.Given.{IsImageOf, CodeAs, IsCodeOf, text_of}
use Rattle.vcm_job.specs.Views.{RunView, IsShown}
use Rattle.vcm_job.specs.Causes.{Cause, input_cause}
use Rattle.vcm_job.specs.Answers.{status_and_notices}
use Rattle.vcm_job.specs.Laws.{ViewAnswersAreOne}
use Rattle.vcm_job.proofs.Answering.{written_once}
use Rattle.vcm_job.proofs.Told.{never_text, never_bad_image, RefusedAs, InputRefused, one_input}
use Rattle.vcm_job.proofs.RunAnswers.{input_told}

-- the view has one text and one status of a code
abbrev pub TellsOne : RunView → Workpiece → Type 0
TellsOne view part =
    (program : Option (List ℕ)) (notices : List Noticed) (c : Code) (n : ℕ) (text other : List ℕ) (status more : ℕ) → codes.IsValid c
    → view.tells program notices part c n text status → view.tells program notices part c n other more → (text ≡ other) × (status ≡ more)

-- ---- the code of an input

one_code_of : (image : List ℕ) (c d : Code) → IsImageOf image c → IsImageOf image d → c ≡ d
one_code_of image c d h k = one_image c d h.fits k.fits (sym h.spelled ∙ k.spelled)

one_code_as : (image : Bool) (input : List ℕ) (c d : Code) (a b : List Noticed) → CodeAs image input c a → CodeAs image input d b → (c ≡ d) × (a ≡ b)
one_code_as true input c d a b h k = (one_code_of input c d h.0 k.0, h.1 ∙ sym k.1)
one_code_as false input c d a b h k =
    let same = one_build input h.0 k.0 a b h.1.0 k.1.0 in
    (one_code_of k.0 c d (subst (λ (l : List ℕ). IsImageOf l c) same.0 h.1.1) k.1.1, same.1)

valid_code : (image : Bool) (input : List ℕ) (c : Code) (a : List Noticed) → CodeAs image input c a → codes.IsValid c
valid_code true input c a h = h.0.valid
valid_code false input c a h = h.1.1.valid

never_code_as : (image : Bool) (input : List ℕ) (code : Code) (a : List Noticed) (c : Cause) → CodeAs image input code a → RefusedAs image input c → ⊥
never_code_as true input code a c h k = never_bad_image input code c h.0.valid h.0.fits h.0.spelled k
never_code_as false input code a c h k = never_text input h.1.0.parsed c h.1.0.accepted k

-- ---- views of an input

abbrev pair : ℕ → List Noticed → ℕ × List Noticed
pair status notices = (status, notices)

-- what a view gives and writes
pub record ViewGives (view : RunView) (part : Workpiece) (n : ℕ) (input : List ℕ) (b : ℕ × List Noticed) (bytes : List ℕ) : Type 0 where
  pub code : Code
  pub is_code : IsCodeOf input code b.1
  pub tells : view.tells (text_of input) b.1 part code n bytes b.0

module _ (view : RunView) (part : Workpiece) (one : TellsOne view part) (n : ℕ) (input : List ℕ) where
  one_given : (a b : ℕ × List Noticed) (xs ys : List ℕ) → ViewGives view part n input a xs → ViewGives view part n input b ys → (a ≡ b) × (xs ≡ ys)
  one_given a b xs ys h k =
      let same = one_code_as (is_image input) input h.code k.code a.1 b.1 h.is_code k.is_code in
      let there : view.tells (text_of input) b.1 part k.code n xs a.0 =
      subst (λ (l : List Noticed). view.tells (text_of input) l part k.code n xs a.0) same.1 (subst (λ (c : Code). view.tells (text_of input) a.1 part c n xs a.0) same.0 h.tells) in
      let told = one (text_of input) b.1 k.code n xs ys a.0 b.0 (valid_code (is_image input) input k.code b.1 k.is_code) there k.tells in
      let given : pair a.0 a.1 ≡ pair b.0 b.1 = ap (λ x. pair x a.1) told.1 ∙ ap (pair b.0) same.1 in
      (given, told.0)

  never_given : (b : ℕ × List Noticed) (xs : List ℕ) (c : Cause) → ViewGives view part n input b xs → InputRefused input c → ⊥
  never_given b xs c h k = never_code_as (is_image input) input h.code b.1 c h.is_code k

  view_gives : (d : Done) (old new : Option (List ℕ)) → IsShown view part input n d.status d.notices.items old new
      → (bytes : List ℕ) × (ViewGives view part n input (status_and_notices d) bytes × Appends old new bytes)
  view_gives d old new h = (h.viewed.text, (record { code = h.code; is_code = h.is_code; tells = h.viewed.tells }, h.viewed.written))

pub one_view : (view : RunView) (part : Workpiece) → TellsOne view part → ViewAnswersAreOne view part
one_view view part one n input =
    written_once status_and_notices input_cause IsInputRefusal input (ViewGives view part n input) (InputRefused input) (input_told input) (one_given view part one n input)
    (one_input input) (never_given view part one n input) (λ d old new. IsShown view part input n d.status d.notices.items old new) _ _ (view_gives view part one n input)

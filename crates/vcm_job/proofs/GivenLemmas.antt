-- What is done with what was read is done with the input.
use Rattle.std.proofs.Common.{◌≡◌, ℕ, Bool, true, false, List, [], Option, Some, None, refl, sym, subst}
use Rattle.std.specs.Prelude.{not, is_some}
use Rattle.std.specs.Option.{option_map}
use Rattle.std.specs.Global.{Vec}
use Rattle.std.proofs.KnownBytes.{Keeps-refl}
use Rattle.vcm_spec.specs.Workpiece.{Workpiece}
use Rattle.vcm_program.specs.declared.accepted.Noticed.{Noticed}
use Rattle.vcm_fields.specs.declared.fault.ImageFault.{ImageFault}
use Rattle.vcm_image.specs.Whole.{code_at}
use Rattle.vcm_loader.specs.Loading.{LoadFault}
use Rattle.vcm_run.specs.Built.{IsBuilt}
use Rattle.vcm_run.specs.Images.{IsImageRun, IsImageRefusal}
use Rattle.vcm_run.specs.Programs.{IsSummary}
use Rattle.vcm_run.specs.Summaries.{Shown}
use Rattle.vcm_job.specs.declared.fault.Fault.{Fault}
use Rattle.vcm_job.specs.declared.fault.Fault.TheVariants as faults
use Rattle.vcm_job.specs.declared.fault.InputRefusal.{InputRefusal}
use Rattle.vcm_job.specs.declared.fault.InputRefusal.TheVariants.{Text, Image}
use Rattle.vcm_job.specs.declared.fault.SessionFault.{SessionFault}
use Rattle.vcm_job.specs.declared.fault.SessionFault.TheVariants as session
use Rattle.vcm_job.specs.Unread.{session_fault}
use Rattle.vcm_job.specs.Inputs.{is_image, RunAs, IsInputRun, IsInputRefusal}
use Rattle.vcm_job.specs.Given.{text_as, ImageAs, IsGiven}
use Rattle.vcm_job.specs.Listings.{IsPrinted, ListedAs, IsListed}
use Rattle.vcm_job.specs.Debugged.{IsInputFault}
use Rattle.vcm_job.specs.inner.Judged.{IsRefusedAs}
use Rattle.vcm_job.specs.inner.Printing.{IsNotPrinted}
use Rattle.vcm_job.specs.inner.Sessions.{IsNotServed, built_fault}
use Rattle.vcm_job.specs.inner.Viewing.{judged}
use Rattle.vcm_job.proofs.DebugLemmas.{cut_short_of}
use Rattle.vcm_job.proofs.ViewLemmas.{text_there}

-- ---- runs

run_as : (b : Bool) (part : Workpiece) (input image : List ℕ) (notices : List Noticed) (n : ℕ) (s : Shown) → ImageAs b input image notices
    → (notices ≡ [] → IsImageRun part image n s)
    → ((text : List ℕ) → IsBuilt text image notices → IsSummary part text n s)
    → RunAs b part input n s
run_as true part input image notices n s h of_image of_text = subst (λ l. IsImageRun part l n s) h.0 (of_image h.1)
run_as false part input image notices n s h of_image of_text = of_text input h

pub run_given : (part : Workpiece) (input image : List ℕ) (text : Option (List ℕ)) (notices : List Noticed) (n : ℕ) (s : Shown) → IsGiven input image text notices
    → (notices ≡ [] → IsImageRun part image n s)
    → ((text : List ℕ) → IsBuilt text image notices → IsSummary part text n s)
    → IsInputRun part input n s
run_given part input image text notices n s g = run_as (is_image input) part input image notices n s g.image_is

-- ---- refusals

-- an image that was read is refused so; one that was built is not, but for want of memory
refused_as : (b : Bool) (input image : List ℕ) (notices : List Noticed) (e : ImageFault) → is_image input ≡ b → ImageAs b input image notices → IsImageRefusal image e
    → IsRefusedAs (IsInputRefusal input) (judged (not b) (faults.Refused (Image e)))
refused_as true input image notices e is h k = (is, subst (λ l. LoadFault (code_at l) e) h.0 k)
refused_as false input image notices e is h k = tt

pub refused_given : (input image : List ℕ) (o : Option (Vec ℕ)) (notices : List Noticed) (e : ImageFault) → IsGiven input image (option_map (λ t. t.items) o) notices → IsImageRefusal image e
    → IsRefusedAs (IsInputRefusal input) (judged (is_some o) (faults.Refused (Image e)))
refused_given input image o notices e g k =
    subst (λ b. IsRefusedAs (IsInputRefusal input) (judged b (faults.Refused (Image e)))) (sym (text_there (is_image input) input o g.text_is))
    (refused_as (is_image input) input image notices e refl g.image_is k)

-- ---- listings

listed_as : (b : Bool) (input image text : List ℕ) (notices : List Noticed) → ImageAs b input image notices → IsPrinted image text → ListedAs b input text notices
listed_as true input image text notices h k = (subst (λ l. IsPrinted l text) h.0 k, h.1)
listed_as false input image text notices h k = (image, (h, k))

pub listed_given : (input image listing : List ℕ) (text : Option (List ℕ)) (notices : List Noticed) → IsGiven input image text notices → IsPrinted image listing
    → IsListed input listing notices
listed_given input image listing text notices g = listed_as (is_image input) input image listing notices g.image_is

-- want of memory is told as such, of an image that was read and of one that was built
wanted : (b : Bool) (input : List ℕ) → IsRefusedAs (IsInputRefusal input) (judged b faults.NoMemory)
wanted true input = tt
wanted false input = tt

pub unlisted_given : (input image : List ℕ) (o : Option (Vec ℕ)) (notices : List Noticed) (f : Fault InputRefusal) → IsGiven input image (option_map (λ t. t.items) o) notices
    → IsNotPrinted image f
    → IsRefusedAs (IsInputRefusal input) (judged (is_some o) f)
unlisted_given input image o notices (faults.Refused (Image e)) g k = refused_given input image o notices e g k
unlisted_given input image o notices (faults.Refused (Text r)) g k = absurd k
unlisted_given input image o notices faults.NoMemory g k = wanted (is_some o) input
unlisted_given input image o notices (faults.Memory done) g k = absurd k
unlisted_given input image o notices faults.Read g k = absurd k
unlisted_given input image o notices (faults.Write done) g k = absurd k
unlisted_given input image o notices faults.TooLong g k = absurd k

-- ---- sessions

-- an input without a text is an image
image_there : (b : Bool) (input : List ℕ) (o : Option (Vec ℕ)) → option_map (λ t. t.items) o ≡ text_as b input → is_some o ≡ false → b ≡ true
image_there true input o e f = refl
image_there false input None e f = absurd cc
image_there false input (Some t) e f = absurd cc

module _ (part : Workpiece) (input image : List ℕ) (o : Option (Vec ℕ)) (notices : List Noticed) (known after old new : Option (List ℕ))
    (g : IsGiven input image (option_map (λ t. t.items) o) notices) where
  -- of an image that was built
  pub built_short : (f : Fault SessionFault) → IsNotServed part image known after f old new → IsInputFault part input known after (built_fault f) old new
  built_short (faults.Refused (session.Serve e)) h = cut_short_of part input image notices known after old new e g.image_is h
  built_short (faults.Refused (session.Image e)) h = h.1
  built_short (faults.Refused (session.Text r)) h = absurd h
  built_short faults.NoMemory h = h
  built_short (faults.Memory done) h = absurd h
  built_short faults.Read h = absurd h
  built_short (faults.Write done) h = absurd h
  built_short faults.TooLong h = absurd h

  -- and of one that was read
  pub read_short : (f : Fault SessionFault) → is_some o ≡ false → IsNotServed part image known after f old new → IsInputFault part input known after f old new
  read_short (faults.Refused (session.Serve e)) none h = cut_short_of part input image notices known after old new e g.image_is h
  read_short (faults.Refused (session.Image e)) none h =
      let is = image_there (is_image input) input o g.text_is none in
      let same = subst (λ b. ImageAs b input image notices) is g.image_is in
      ((is, subst (λ l. LoadFault (code_at l) e) same.0 h.0), h.1)
  read_short (faults.Refused (session.Text r)) none h = absurd h
  read_short faults.NoMemory none h = h
  read_short (faults.Memory done) none h = absurd h
  read_short faults.Read none h = absurd h
  read_short (faults.Write done) none h = absurd h
  read_short faults.TooLong none h = absurd h

-- an input that is refused is refused a session
pub no_session : (part : Workpiece) (input : List ℕ) (known after old : Option (List ℕ)) (f : Fault InputRefusal) → IsRefusedAs (IsInputRefusal input) f
    → IsInputFault part input known after (session_fault f) old old
no_session part input known after old (faults.Refused (Text r)) h = (h, Keeps-refl old)
no_session part input known after old (faults.Refused (Image e)) h = (h, Keeps-refl old)
no_session part input known after old faults.NoMemory h = Keeps-refl old
no_session part input known after old (faults.Memory done) h = absurd h
no_session part input known after old faults.Read h = absurd h
no_session part input known after old (faults.Write done) h = absurd h
no_session part input known after old faults.TooLong h = absurd h

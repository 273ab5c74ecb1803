-- The page of a run.
use Rattle.std.specs.Prelude.{◌≡◌, ℕ, Bool, true, false, List, Option, Some, None, flat_map}
use Rattle.std.specs.Borrow.{Bor}
use Rattle.std.specs.Io.KnownBytes.{Keeps}
use Rattle.vcm_spec.specs.Workpiece.{Workpiece}
use Rattle.vcm_program.specs.declared.accepted.Noticed.{Noticed}
use Rattle.vcm_code.specs.declared.code.Code.{Code}
use Rattle.vcm_words.specs.Rows.{listing}
use Rattle.vcm_machine.specs.declared.ran.End.TheVariants as ends
use Rattle.vcm_machine.specs.Running.{started, later, RunEnded}
use Rattle.vcm_steps.specs.Passages.{state_after}
use Rattle.vcm_job.specs.Jobs.{status_of}
use Rattle.vcm_job.specs.Laws.{ViewAnswersAreOne}
use Rattle.vcm_job.specs.Views.{RunView}
use Rattle.vcm_page.specs.Pages.{page_text, story_of}

-- a run for at most n steps was refused memory after so many of them
abbrev pub IsHaltedAfter : Workpiece → Code → ℕ → ℕ → Type 0
IsHaltedAfter part c n done = RunEnded n (started part c) (later done (started part c)) done ends.NoMemory

-- what stands before the story of a page and behind it
pub record Texts : Type 0 where
  pub front : List ℕ
  pub back : List ℕ

-- those of these pieces
abbrev pub texts_of : List (Bor (List ℕ)) → List (Bor (List ℕ)) → Texts
texts_of front back = record { front = flat_map (λ p. p.now) front; back = flat_map (λ p. p.now) back }

-- the page of a code that shows this text of it, a listing or the program's, and these lines without effect
abbrev pub page_with : Texts → Workpiece → Code → (shown : List ℕ) → (is_listing : Bool) → List Noticed → ℕ → List ℕ
page_with texts part c shown is_listing notices n = page_text texts.front (story_of part c shown is_listing notices n) texts.back

-- the page of a code: it shows the program's text, and where there is none the code's listing
abbrev pub page_of : Texts → Option (List ℕ) → List Noticed → Workpiece → Code → ℕ → List ℕ
page_of texts (Some program) notices part c n = page_with texts part c program false notices n
page_of texts None notices part c n = page_with texts part c (listing c) true notices n

-- that page, with the exit status of the run
pub record IsPage (texts : Texts) (program : Option (List ℕ)) (notices : List Noticed) (part : Workpiece) (c : Code) (n : ℕ) (text : List ℕ) (status : ℕ) : Type 0 where
  pub text_is : text ≡ page_of texts program notices part c n
  pub status_is : status ≡ status_of (state_after part c n).world.stop

-- the view; where memory was refused to the run, nothing was written
abbrev pub page_view : Texts → RunView
page_view texts = record { tells = IsPage texts; halted = λ program part c n done old new. IsHaltedAfter part c n done × Keeps old new }

-- of two answers to one input, each of which tells something, both tell the same and wrote the same
abbrev pub PagesAreOne : Type 0
PagesAreOne = (texts : Texts) (part : Workpiece) → ViewAnswersAreOne (page_view texts) part

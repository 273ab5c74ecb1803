-- Statements about stories. Each is the contract of a law in src/laws.rt.
use Rattle.std.specs.Prelude.{◌≡◌, ℕ, ◌+◌, ◌-◌, ◌*◌, ◌<◌, ◌==◌, nat_le, nat_lt, Bool, true, ◌&&◌, ◌||◌, not, if◌then◌else◌, List, [], ◌∷◌, ◌++◌, flat_map}
use Rattle.std.specs.Prelude.{Option, Some, None}
use Rattle.std.specs.Char.{is_ascii_digit}
use Rattle.std.specs.List.{list_all, AllByRecursion}
use Rattle.vcm_spec.specs.Setup.{Tables}
use Rattle.vcm_spec.specs.Workpiece.{Workpiece}
use Rattle.vcm_program.specs.declared.accepted.Noticed.{Noticed}
use Rattle.vcm_code.specs.declared.code.Code.{Code}
use Rattle.vcm_code.specs.Ranges.{IsInRange}
use Rattle.vcm_steps.specs.Passages.{Passage, passages, state_after, steps_taken}
use Rattle.vcm_trace.specs.Lines.{heading}
use Rattle.vcm_trace.specs.Traces.{trace_line, last_line, trace_text}
use Rattle.vcm_rows.specs.Spelled.{spelled}
use Rattle.vcm_story.specs.Stories.{story_text}

-- whether a byte is a line feed, or a printable one other than <
abbrev pub is_clear : ℕ → Bool
is_clear b = b == 10 || (nat_le 32 b && nat_le b 126 && not (b == 60))

-- whether all bytes of a text are
abbrev pub are_clear : List ℕ → Bool
are_clear bs = list_all is_clear bs

-- A story has no <, and no byte that is not printable but the line feed: whatever the shown text, the output lines and the code in range have, and however
-- many steps are shown
abbrev pub StoriesAreClear : Type 0
StoriesAreClear =
    (part : Workpiece) (c : Code) (shown : List ℕ) (is_listing : Bool) (notices : List Noticed) (from n : ℕ) → IsInRange c
    → are_clear (story_text part c shown is_listing notices from n) ≡ true

-- what a hexadecimal digit with capitals says
abbrev pub digit_value : ℕ → ℕ
digit_value d = if nat_le d 57 then d - 48 else d - 55

-- a spelled text, read: % and two digits are a byte, any other byte itself
abbrev pub read_text : List ℕ → List ℕ
read_text [] = []
read_text (b ∷ []) = b ∷ []
read_text (b ∷ h ∷ []) = b ∷ h ∷ []
read_text (b ∷ h ∷ l ∷ bs) = if b == 37 then (16 * digit_value h + digit_value l) ∷ read_text bs else b ∷ read_text (h ∷ l ∷ bs)

-- a text of bytes is read as it was before it was spelled
abbrev pub TextsAreRead : Type 0
TextsAreRead = (bs : List ℕ) → AllByRecursion (λ b. b < 256) bs → read_text (spelled bs) ≡ bs

-- whether a byte stands in a line that begins with a digit: at the beginning of a line it is that digit itself, behind it this is known of the line
abbrev pub is_kept : Option Bool → ℕ → Bool
is_kept None b = is_ascii_digit b
is_kept (Some digit) b = digit

-- what is known of the line behind a byte: nothing where a new one begins
abbrev pub known_behind : Option Bool → ℕ → Option Bool
known_behind known b = if b == 10 then None else Some (is_kept known b)

-- the lines of a text that begin with a digit, put together, where this is known of its first line
abbrev pub digit_lines_from : Option Bool → List ℕ → List ℕ
digit_lines_from known [] = []
digit_lines_from known (b ∷ bs) = (if is_kept known b then b ∷ [] else []) ++ digit_lines_from (known_behind known b) bs

-- those of a whole text
abbrev pub digit_lines : List ℕ → List ℕ
digit_lines text = digit_lines_from None text

-- the line of a step that is shown, behind the first so many
abbrev pub shown_line : Tables → ℕ → Passage → List ℕ
shown_line tables from p = if nat_lt from p.count then trace_line tables p else []

-- The lines of a story that begin with a digit are the lines of the steps that are shown, as the trace has them, and its last line; nothing else is
abbrev pub StoriesTellSteps : Type 0
StoriesTellSteps =
    (part : Workpiece) (c : Code) (shown : List ℕ) (is_listing : Bool) (notices : List Noticed) (from n : ℕ) → IsInRange c
    → digit_lines (story_text part c shown is_listing notices from n)
    ≡ flat_map (shown_line c.tables from) (passages part c n) ++ last_line c (steps_taken part c n) (state_after part c n) (state_after part c n).world.stop

-- Where all steps are shown, they are the trace without its header
abbrev pub StoriesTellTraces : Type 0
StoriesTellTraces =
    (part : Workpiece) (c : Code) (shown : List ℕ) (is_listing : Bool) (notices : List Noticed) (n : ℕ) → IsInRange c
    → heading ++ digit_lines (story_text part c shown is_listing notices 0 n) ≡ trace_text part c n

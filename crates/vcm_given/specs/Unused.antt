-- What is given and the text never uses.
use Rattle.std.specs.Prelude.{ℕ, suc, ◌-◌, ◌&&◌, ◌||◌, not, nat_eq, nat_lt, Bool, true, false, if◌then◌else◌, List, [], ◌∷◌, Option, Some, None}
use Rattle.std.specs.List.{list_any}
use Rattle.std.specs.Str.{bytes_eq}
use Rattle.vcm_lines.specs.declared.logical.Logical.{Logical}
use Rattle.vcm_forms.specs.declared.statement.Argument.{Argument}
use Rattle.vcm_forms.specs.declared.statement.Form.{Form}
use Rattle.vcm_forms.specs.declared.statement.Form.TheVariants as form
use Rattle.vcm_forms.specs.declared.statement.Statement.{Statement}
use Rattle.vcm_given.specs.declared.choices.GivenFrame.{GivenFrame}
use Rattle.vcm_given.specs.declared.choices.Answer.{Answer}
use Rattle.vcm_given.specs.declared.choices.Choices.{Choices}
use Rattle.vcm_given.specs.declared.answers.Asked.{Asked}
use Rattle.vcm_given.specs.declared.unused.Above.{Above}
use Rattle.vcm_given.specs.declared.unused.TheConstants.{DEEPEST}
use Rattle.vcm_heads.specs.Rows.{row_in, words_of}
use Rattle.vcm_given.specs.Spoken.{goes_by}
use Rattle.vcm_given.specs.Chosen.{asked_from}
use Rattle.vcm_given.specs.Texts.{fitting_answers}

-- ---- frames

-- whether a name is this one, if it is there
abbrev pub is_this : List ℕ → Option (List ℕ) → Bool
is_this name None = false
is_this name (Some other) = bytes_eq other name

-- whether a call hands over this name
abbrev pub hands_over : List ℕ → List Argument → Bool
hands_over name args = list_any (λ a. is_this name a.name) args

-- whether a statement makes the frame with this name of something that isn't known: it is placed there as it is given
abbrev pub places : List ℕ → Form → Bool
places name (form.Shift label []) = bytes_eq label name
places name f = false

-- whether a statement takes the frame as it is given: it is placed, recalled, or handed to a macro
abbrev pub takes : List ℕ → Form → Bool
takes name (form.Restore label) = bytes_eq label name
takes name (form.Call macro args) = hands_over name args
takes name f = places name f

-- whether a statement makes the frame of its own
abbrev pub makes : List ℕ → Form → Bool
makes name (form.Shift label (o ∷ os)) = bytes_eq label name
makes name (form.Rotation label axis turns) = bytes_eq label name
makes name f = false

-- one more block or macro is open; the deepest aren't counted
abbrev pub deeper : ℕ → ℕ
deeper n = if nat_lt n DEEPEST then suc n else n

-- how many blocks and macros are open behind a statement
abbrev pub depth_behind : ℕ → Form → ℕ
depth_behind n (form.Test c) = deeper n
depth_behind n (form.Choose c) = deeper n
depth_behind n (form.Repeat r) = deeper n
depth_behind n (form.Macro name ps) = deeper n
depth_behind n form.TestEnd = n - 1
depth_behind n form.ChooseEnd = n - 1
depth_behind n form.RepeatEnd = n - 1
depth_behind n form.MacroEnd = n - 1
depth_behind n f = n

-- whether a statement is a label or a jump
abbrev pub is_jump : Form → Bool
is_jump (form.Mark label) = true
is_jump (form.Leap label) = true
is_jump f = false

-- nothing stands above
abbrev pub nothing_above : Above
nothing_above = record { made = false; straight = true; depth = 0 }

-- what stands above behind a statement: it is sure that the frame is made there of its own, where no block is open and no label and no jump stands above
abbrev pub above_behind : List ℕ → Above → Form → Above
above_behind name a f = record {
  made = a.made || (makes name f && (a.straight && nat_eq a.depth 0));
  straight = a.straight && not (is_jump f);
  depth = depth_behind a.depth f;
}

-- whether a statement takes the frame as it is given, or places it so where the text has made it
abbrev pub takes_at : List ℕ → Above → Form → Bool
takes_at name a f = if a.made then places name f else takes name f

-- whether one of the statements does
abbrev pub is_taken : List ℕ → Above → List Statement → Bool
is_taken name a [] = false
is_taken name a (s ∷ ss) = takes_at name a s.form || is_taken name (above_behind name a s.form) ss

-- the first frame that changes nothing: no statement takes it as it is given
abbrev pub unmade : List Statement → List GivenFrame → Option (List ℕ)
unmade ss [] = None
unmade ss (f ∷ fs) = if is_taken f.name nothing_above ss then unmade ss fs else Some f.name

-- ---- answers

-- whether one of the questions asks for this variable
abbrev pub is_asked : List Asked → List ℕ → Bool
is_asked qs name = list_any (λ q. bytes_eq q.answer.variable name) qs

-- the first variable that no question asks for
abbrev pub unasked : List Asked → List Answer → Option (List ℕ)
unasked qs [] = None
unasked qs (a ∷ rest) = if is_asked qs a.variable then unasked qs rest else Some a.variable

-- a name, or else another one
abbrev pub name_or : Option (List ℕ) → Option (List ℕ) → Option (List ℕ)
name_or None other = other
name_or (Some name) other = Some name

-- ---- harmless words

-- whether a statement goes by this word
abbrev pub is_gone_by : List ℕ → Logical → Bool
is_gone_by name l = goes_by (row_in (words_of l)) (words_of l) name

-- the first word that no statement goes by
abbrev pub unspoken : List Logical → List (List ℕ) → Option (List ℕ)
unspoken ls [] = None
unspoken ls (n ∷ ns) = if list_any (is_gone_by n) ls then unspoken ls ns else Some n

-- the first name that is given and that the text never uses: a frame that no statement takes as it is given, a variable that no question asks for or whose answer doesn't fit it, or a harmless word
-- that no statement goes by
abbrev pub unused : Choices → List Logical → List Statement → Option (List ℕ)
unused c ls ss = name_or (unmade ss c.frames) (name_or (unasked (asked_from (fitting_answers c.answers ls) false ls) c.answers) (unspoken ls c.harmless))

-- What the image of a producer's text is, and which texts have none.
use Rattle.std.specs.Prelude.{◌≡◌, ◌<◌, ◌⊎◌, ◌&&◌, ℕ, Bool, true, false, not, if◌then◌else◌, List, [], length, slice_get, Option, Some, None}
use Rattle.std.specs.List.{list_all}
use Rattle.std.specs.Str.{bytes_eq}
use Rattle.vcm_lines.specs.declared.fault.FaultCode.TheVariants.{TooLong, BadOrder}
use Rattle.vcm_lines.specs.declared.fault.SourceFault.{SourceFault}
use Rattle.vcm_lines.specs.declared.logical.Logical.{Logical}
use Rattle.vcm_lines.specs.Fault.{NoMemoryOr}
use Rattle.vcm_lines.specs.Statements.{lines_of, Breaks, told_line}
use Rattle.vcm_spec.specs.Phase.{FirstFault}
use Rattle.vcm_items.specs.NameBytes.{is_variable_name}
use Rattle.vcm_forms.specs.declared.statement.Form.{Form}
use Rattle.vcm_forms.specs.declared.statement.Statement.{Statement}
use Rattle.vcm_forms.specs.declared.statement.Form.TheVariants.{Declaration}
use Rattle.vcm_macro.specs.declared.placed.Placed.{Placed}
use Rattle.vcm_macro.specs.Expansion.{IsExpanded, IsRefused as IsUnexpanded}
use Rattle.vcm_tree.specs.Acceptance.{ReadsLines, IsRefused, IsRefusedPlaced}
use Rattle.vcm_tree.specs.Ended.{is_ended}
use Rattle.vcm_program.specs.declared.accepted.Noticed.{Noticed}
use Rattle.vcm_run.specs.Built.{IsBuilt, IsBuiltPlaced}
use Rattle.vcm_run.specs.declared.run.Refusal.{Refusal}
use Rattle.vcm_run.specs.declared.run.Refusal.TheVariants.{Source, Part, NoMemory}
use Rattle.vcm_remarks.specs.declared.remark.NumberedRemark.{NumberedRemark}
use Rattle.vcm_plain.specs.declared.unit.Lengths.{Lengths}
use Rattle.vcm_plain.specs.declared.unit.Unit.TheVariants.{Millimetre}
use Rattle.vcm_plain.specs.Plain.{plain}
use Rattle.vcm_plain.specs.Units.{all_in, lengths_of}
use Rattle.vcm_said.specs.All.{said_all, refused_from}
use Rattle.vcm_given.specs.declared.choices.Choices.{Choices}
use Rattle.vcm_given.specs.Chosen.{is_silent, chosen}
use Rattle.vcm_given.specs.Texts.{given_texts}
use Rattle.vcm_compared.specs.Compared.{compared}
use Rattle.vcm_datums.specs.Dated.{dated}
use Rattle.vcm_certain.specs.Certain.{is_certain}
use Rattle.vcm_given.specs.Unused.{unused}
use Rattle.vcm_doubts.specs.Settled.{settled}
use Rattle.vcm_whole.specs.declared.whole.Facts.{Facts}
use Rattle.vcm_given.specs.Tips.{other_tips}
use Rattle.vcm_given.specs.Missing.{missing_probes}
use Rattle.vcm_whole.specs.Losses.{lossy_lines, says_unit, says_mode, says_sensor, unlooked}
use Rattle.vcm_whole.specs.Frames.{named_frames}
use Rattle.vcm_whole.specs.Readings.{readings_of}
use Rattle.vcm_kept.specs.Guarding.{guarded}
use Rattle.vcm_kept.specs.Put.{placed_in, remarks_in}
use Rattle.vcm_num.specs.declared.limits.TheConstants.{MOST_STATEMENTS}

-- the lines of a text with its lengths in whole micrometres: they are read by the units of its lines as they are written, with numbers rounded
pub record ReadsPlain (text : List ℕ) (lengths : Lengths) (lines : List Logical) : Type 0 where
  pub written : List Logical
  pub as_written : ReadsLines (plain (all_in Millimetre) text) written
  pub lengths_are : lengths ≡ lengths_of written
  pub read : ReadsLines (plain lengths text) lines

-- what the statements of a text say, with its texts counted, with what a command line says of them, and with its datums; where something is read in two ways it isn't known
abbrev pub statements_of : Choices → List ℕ → List Logical → List Statement
statements_of c text ls = settled text ls (dated ls (chosen c ls (compared (given_texts c.answers) ls (said_all ls))))

-- the text reads as these statements, none of those that shape the program is faulty, and what they say expands to these
pub record Expands (c : Choices) (text : List ℕ) (lengths : Lengths) (lines : List Logical) (expanded : List Placed) : Type 0 where
  pub read : ReadsPlain text lengths lines
  pub shaped : refused_from false lines ≡ None
  pub is_expanded : IsExpanded (statements_of c text lines) expanded

-- whether a text stays as it is written: the command line says nothing of it, it is read in one way and loses nothing
abbrev pub stays : Choices → List Placed → Bool
stays c ps = is_silent c && is_certain ps

-- what is known has to be carried: the text doesn't stay as it is written, or is no program of the language
abbrev pub HasToBeCarried : Choices → List ℕ → List Placed → Type 0
HasToBeCarried c text ps = (stays c ps ≡ false) ⊎ ((f : SourceFault) × IsRefused text f)

-- the text is put as a program whose image the bytes are: as it is written where it stays so and is a program of the language, else with what is known carried
pub data IsPut (c : Choices) (text : List ℕ) (ss : List Statement) (ps : List Placed) (bytes : List ℕ) (notices : List Noticed) (remarks : List NumberedRemark) (written : Bool) : Type 0 where
  as_written : stays c ps ≡ true → IsBuilt text bytes notices → remarks ≡ [] → written ≡ true → IsPut c text ss ps bytes notices remarks written
  as_carried : HasToBeCarried c text ps → IsBuiltPlaced ss (placed_in (guarded ps)) bytes notices → remarks ≡ remarks_in (guarded ps) → written ≡ false
      → IsPut c text ss ps bytes notices remarks written

-- whether lengths of a text are written otherwise than they are read
abbrev pub is_rewritten : List ℕ → Lengths → Bool
is_rewritten text lengths = not (bytes_eq (plain lengths text) text)

-- the text is put as a program whose image the bytes are, with these notices and remarks, and this is told of it
pub record IsWholeBuilt (c : Choices) (text bytes : List ℕ) (notices : List Noticed) (remarks : List NumberedRemark) (facts : Facts) : Type 0 where
  pub lines : List Logical
  pub expanded : List Placed
  pub expands : Expands c text facts.lengths lines expanded
  pub put : IsPut c text (statements_of c text lines) expanded bytes notices remarks facts.is_as_written
  pub rewritten_is : facts.is_rewritten ≡ is_rewritten text facts.lengths
  pub losses_are : facts.losses ≡ lossy_lines (statements_of c text lines)
  pub unused_is : facts.unused ≡ unused c lines (said_all lines)
  pub frames_are : facts.frames ≡ named_frames (statements_of c text lines)
  pub count_is : facts.statements ≡ length lines
  pub unit_said : facts.says_unit ≡ says_unit lines
  pub mode_said : facts.says_mode ≡ says_mode lines
  pub sensor_said : facts.says_sensor ≡ says_sensor lines
  pub tips_are : facts.tips ≡ other_tips c.probes c.tip lines
  pub missing_are : facts.missing ≡ missing_probes c.probes lines
  pub unlooked_are : facts.unlooked ≡ unlooked lines
  pub readings_are : facts.readings ≡ readings_of lines (statements_of c text lines)

-- whether a declaration declares names of variables
abbrev pub is_lettered : Form → Bool
is_lettered (Declaration k names) = list_all is_variable_name names
is_lettered f = true

-- the same of a statement in its expansion
abbrev pub is_lettered_placed : Placed → Bool
is_lettered_placed p = is_lettered p.statement.form

-- whether statements are a program as far as it can be told without their names: they declare names of variables, and the last is ENDFIL
abbrev pub is_program : List Placed → Bool
is_program ps = if list_all is_lettered_placed ps then is_ended ps else false

-- the line of the first statement behind as many as a program may have, 0 where there is none
abbrev pub line_beyond : Option Placed → ℕ
line_beyond None = 0
line_beyond (Some p) = p.statement.line

-- the text reads as these statements, which expand to these, and what is known has to be carried
pub record Carries (c : Choices) (text : List ℕ) (lengths : Lengths) (lines : List Logical) (expanded : List Placed) : Type 0 where
  pub expands : Expands c text lengths lines expanded
  pub has_to : HasToBeCarried c text expanded

-- the text is put as so many statements
pub record IsPutAs (c : Choices) (text : List ℕ) (n : ℕ) : Type 0 where
  pub lengths : Lengths
  pub lines : List Logical
  pub expanded : List Placed
  pub expands : Expands c text lengths lines expanded
  pub count_is : n ≡ length (placed_in (guarded expanded))

-- why a text isn't put as a program: its lines, a statement that shapes it, the order of its statements or its macros, more statements than a program may
-- have, or the names and blocks of what it is put as
pub data IsWholeRefused (c : Choices) (text : List ℕ) (f : SourceFault) : Type 0 where
  in_lines : FirstFault Breaks told_line (lines_of (plain (all_in Millimetre) text)) f.code f.line → IsWholeRefused c text f
  in_converted : (ls : List Logical) → ReadsLines (plain (all_in Millimetre) text) ls → FirstFault Breaks told_line (lines_of (plain (lengths_of ls) text)) f.code f.line
      → IsWholeRefused c text f
  in_shape : (u : Lengths) (ls : List Logical) → ReadsPlain text u ls → refused_from false ls ≡ Some f → IsWholeRefused c text f
  in_expansion : (u : Lengths) (ls : List Logical) → ReadsPlain text u ls → IsUnexpanded (statements_of c text ls) f → IsWholeRefused c text f
  too_long : (u : Lengths) (ls : List Logical) (ps : List Placed) → Carries c text u ls ps → MOST_STATEMENTS < length (placed_in (guarded ps))
      → f ≡ record { code = TooLong; line = line_beyond (slice_get (placed_in (guarded ps)) MOST_STATEMENTS) } → IsWholeRefused c text f
  no_program : (u : Lengths) (ls : List Logical) (ps : List Placed) → Carries c text u ls ps → is_program (placed_in (guarded ps)) ≡ false
      → f ≡ record { code = BadOrder; line = 1 } → IsWholeRefused c text f
  in_program : (u : Lengths) (ls : List Logical) (ps : List Placed) → Carries c text u ls ps → IsRefusedPlaced (statements_of c text ls) (placed_in (guarded ps)) f
      → IsWholeRefused c text f

-- what is told of a text that isn't put as a program; of want of memory behind acceptance nothing is said
abbrev pub IsWholeRefusal : Choices → List ℕ → Refusal → Type 0
IsWholeRefusal c text (Source f) = NoMemoryOr (IsWholeRefused c text) f
IsWholeRefusal c text (Part f) = ⊥
IsWholeRefusal c text NoMemory = Unit {0}

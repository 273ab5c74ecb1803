-- What the statements of an expanded program mean, each behind those above it, once their names are looked up.
use Rattle.std.specs.Prelude.{◌≡◌, ℕ, ◌&&◌, is_some, Bool, true, false, List, [], ◌∷◌, ◌++◌, Option, Some, None, Result, Ok, Err}
use Rattle.vcm_lines.specs.declared.fault.FaultCode.{FaultCode}
use Rattle.vcm_lines.specs.declared.fault.FaultCode.TheVariants.{MeasBody, Unbalanced}
use Rattle.vcm_spec.specs.Expression.{Tree}
use Rattle.vcm_spec.specs.Simple.{Simple}
use Rattle.vcm_spec.specs.declared.simple.Simple.TheVariants.{GoHome, Text}
use Rattle.vcm_spec.specs.Program.{Label}
use Rattle.vcm_spec.specs.Setup.{Variable}
use Rattle.vcm_forms.specs.declared.statement.Form.{Form}
use Rattle.vcm_forms.specs.declared.statement.Form.TheVariants.{Declaration, Assignment, Move, Home, Say, Test, Otherwise, TestEnd, Repeat}
use Rattle.vcm_forms.specs.declared.statement.Form.TheVariants.{RepeatEnd, Mark, Leap, Feature, Measure, Touch, MeasureEnd, Configure}
use Rattle.vcm_forms.specs.declared.statement.Form.TheVariants.{Shift, Rotation, Restore, Query, Report, Ending}
use Rattle.vcm_forms.specs.declared.statement.Form.TheVariants.{Choose, Case, CaseEnd, Default, ChooseEnd}
use Rattle.vcm_forms.specs.Statements.{is_counted}
use Rattle.vcm_macro.specs.declared.placed.Placed.{Placed}
use Rattle.vcm_tree.specs.Sentences.{Step, Sentence, sentence, Does, Marks, Leaps, Tests, Divides, EndsTest, Repeats, EndsRepeat, Measures}
use Rattle.vcm_tree.specs.Sentences.{EndsMeasure, Selects, BeginsCase, BeginsDefault, EndsCase, EndsSelect}
use Rattle.vcm_tree.specs.Variables.{with_all, assigned, moved}
use Rattle.vcm_tree.specs.Blocks.{Opened, InFirst, InSecond, InBody, InMeasure, InSelect, InCase, Measured, measured, Behind, behind}
use Rattle.vcm_tree.specs.Blocks.{nested, divided, test_ended, repeat_ended, case_begun, case_ended, select_ended, is_choosing, ended}
use Rattle.vcm_tree.specs.Blocks.{tested, selected, repeated, label_of, marked}
use Rattle.vcm_program.specs.Titles.{with_name}
use Rattle.vcm_tree.specs.Features.{declared, opened_measure, measuring, touched, measure_ended, configured, shifted, rotated, recalled, obtained, reported}
use Rattle.vcm_spec.specs.Results.{◌>>=◌}

-- what a statement does to a program: nothing, new variables in its table, a counted statement
pub data Meaning : Type 0 where
  Silent : Meaning
  Declares : List Variable → Meaning
  Counts : Step → Meaning

-- a counted statement
abbrev pub counts : Result Step FaultCode → Result Meaning FaultCode
counts r = r >>= λ s. Ok (Counts s)

-- a simple statement
abbrev pub does : Result (Simple Tree) FaultCode → Result Step FaultCode
does r = r >>= λ s. Ok (Does s)

-- a simple statement behind others where it may stand there, or the code of the leftmost rule that it breaks; nothing for any other
abbrev pub acted : Behind → Form → Option (Result (Simple Tree) FaultCode)
acted b (Assignment t value) = Some (assigned b.variables t value)
acted b (Move p) = Some (moved b.variables p.x p.y p.z)
acted b Home = Some (Ok GoHome)
acted b (Say bytes) = Some (Ok (Text bytes))
acted b (Feature l p d) = Some (declared b.measured.features b.variables l p d)
acted b (Touch p given) = Some (touched b.blocks b.measured.touched b.variables p given)
acted b (Configure which e) = Some (configured b.variables which e)
acted b (Shift l os) = Some (shifted b.measured.frames b.variables l os)
acted b (Rotation l axis n) = Some (rotated b.measured.frames l axis n)
acted b (Restore l) = Some (recalled b.measured.frames l)
acted b (Query t side l word) = Some (obtained b.measured.features b.variables t side l word)
acted b (Report side l) = Some (reported b.measured.features side l)
acted b _ = None

-- the meaning of a statement of an expansion that isn't simple
abbrev pub structured : Behind → ℕ → Form → Result Meaning FaultCode
structured b e (Declaration kind names) = with_all b.variables e kind names >>= λ ws. Ok (Declares ws)
structured b e (Test condition) = counts (nested b.blocks (tested b.variables condition))
structured b e Otherwise = counts (divided b.blocks)
structured b e TestEnd = counts (test_ended b.blocks)
structured b e (Repeat r) = counts (nested b.blocks (repeated b.variables r))
structured b e RepeatEnd = counts (repeat_ended b.blocks)
structured b e (Mark name) = counts (marked b.labels (label_of e name))
structured b e (Leap name) = counts (Ok (Leaps (label_of e name)))
structured b e (Measure l) = counts (nested b.blocks (opened_measure b.measured.features l))
structured b e MeasureEnd = counts (measure_ended b.blocks b.measured.touched)
structured b e (Choose value) = counts (selected b.variables value)
structured b e (Case value) = counts (case_begun b.blocks (BeginsCase value))
structured b e Default = counts (case_begun b.blocks BeginsDefault)
structured b e CaseEnd = counts (case_ended b.blocks)
structured b e ChooseEnd = counts (select_ended b.blocks)
structured b e Ending = counts (ended b.blocks)
structured b e _ = Ok Silent

-- the meaning of a simple statement, or of another one
abbrev pub stated_by : Behind → ℕ → Form → Option (Result (Simple Tree) FaultCode) → Result Meaning FaultCode
stated_by b e form (Some r) = counts (does r)
stated_by b e form None = structured b e form

-- the meaning of a statement of an expansion behind others where it may stand there, or the code of the leftmost rule that it breaks
abbrev pub stated : Behind → ℕ → Form → Result Meaning FaultCode
stated b e form = stated_by b e form (acted b form)

-- whether the innermost block is that of a MEAS
abbrev pub is_measuring : List Opened → Bool
is_measuring bs = is_some (measuring bs)

-- whether a statement may not stand in a MEAS block: all counted ones but GOTO, GOHOME, PTMEAS, and the words that go on with blocks
-- or close them
abbrev pub is_barred : Form → Bool
is_barred (Assignment t value) = true
is_barred (Say bytes) = true
is_barred (Test e) = true
is_barred (Choose e) = true
is_barred (Repeat r) = true
is_barred (Mark name) = true
is_barred (Leap name) = true
is_barred (Feature l p d) = true
is_barred (Measure l) = true
is_barred (Configure which e) = true
is_barred (Shift l os) = true
is_barred (Rotation l axis n) = true
is_barred (Restore l) = true
is_barred (Query t side l word) = true
is_barred (Report side l) = true
is_barred _ = false

-- a statement that may not stand there has no meaning
abbrev pub unless_barred : Bool → Result Meaning FaultCode → Result Meaning FaultCode
unless_barred true r = Err MeasBody
unless_barred false r = r

-- whether a statement stands in one of the blocks where a SELECT is open: a DECL, and a counted one but CASE, DFTCAS and ENDSEL
abbrev pub is_in_block : Form → Bool
is_in_block (Declaration kind names) = true
is_in_block (Case value) = false
is_in_block Default = false
is_in_block ChooseEnd = false
is_in_block form = is_counted form

-- a statement that has no block to stand in has no meaning
abbrev pub unless_choosing : Bool → Result Meaning FaultCode → Result Meaning FaultCode
unless_choosing true r = Err Unbalanced
unless_choosing false r = r

-- the meaning of a statement behind others, or the code of a rule that it breaks
abbrev pub resolved : Behind → ℕ → Form → Result Meaning FaultCode
resolved b e form =
    unless_barred (is_measuring b.blocks && is_barred form)
    (unless_choosing (is_choosing b.blocks && is_in_block form) (stated b e form))

-- the same of a statement of an expanded program
abbrev pub resolved_here : Behind → Placed → Result Meaning FaultCode
resolved_here b p = resolved b p.expansion p.statement.form

-- all but the innermost block
abbrev pub outer : List Opened → List Opened
outer [] = []
outer (b ∷ bs) = bs

-- the blocks that are open behind a counted statement
abbrev pub blocks_after : List Opened → Step → List Opened
blocks_after bs (Tests t) = InFirst ∷ bs
blocks_after bs Divides = InSecond ∷ outer bs
blocks_after bs EndsTest = outer bs
blocks_after bs (Repeats v a b c) = InBody ∷ bs
blocks_after bs EndsRepeat = outer bs
blocks_after bs (Measures f) = InMeasure f ∷ bs
blocks_after bs EndsMeasure = outer bs
blocks_after bs (Selects t) = InSelect false ∷ bs
blocks_after bs (BeginsCase value) = InCase ∷ bs
blocks_after bs BeginsDefault = InCase ∷ InSelect true ∷ outer bs
blocks_after bs EndsCase = outer bs
blocks_after bs EndsSelect = outer bs
blocks_after bs _ = bs

-- the labels behind a counted statement
abbrev pub labels_after : List Label → Step → List Label
labels_after ls (Marks l) = ls ++ l ∷ []
labels_after ls _ = ls

-- the features and frames behind a statement
abbrev pub measured_after : Measured → Form → Measured
measured_after ms (Feature l p d) = measured (with_name ms.features l) ms.frames ms.touched
measured_after ms (Shift l os) = measured ms.features (with_name ms.frames l) ms.touched
measured_after ms (Rotation l axis n) = measured ms.features (with_name ms.frames l) ms.touched
measured_after ms (Measure l) = measured ms.features ms.frames false
measured_after ms (Touch p given) = measured ms.features ms.frames true
measured_after ms _ = ms

-- what a statement of this meaning leaves behind it
abbrev pub behind_by : Behind → Form → Result Meaning FaultCode → Behind
behind_by b form (Ok (Declares ws)) = behind ws b.blocks b.labels (measured_after b.measured form)
behind_by b form (Ok (Counts s)) = behind b.variables (blocks_after b.blocks s) (labels_after b.labels s) (measured_after b.measured form)
behind_by b form _ = behind b.variables b.blocks b.labels (measured_after b.measured form)

-- what a statement leaves behind it
abbrev pub behind_one : Behind → Placed → Behind
behind_one b p = behind_by b p.statement.form (resolved_here b p)

-- what statements leave behind them
abbrev pub behind_all : Behind → List Placed → Behind
behind_all b [] = b
behind_all b (p ∷ ps) = behind_all (behind_one b p) ps

-- nothing is declared, open or marked at the start
abbrev pub start : Behind
start = behind [] [] [] (measured [] [] false)

-- the counted statement of a meaning, if there is one
abbrev pub sentences_by : ℕ → Result Meaning FaultCode → List Sentence
sentences_by line (Ok (Counts s)) = sentence line s ∷ []
sentences_by line _ = []

-- the counted statements, in writing
abbrev pub sentences_from : Behind → List Placed → List Sentence
sentences_from b [] = []
sentences_from b (p ∷ ps) = sentences_by p.statement.line (resolved_here b p) ++ sentences_from (behind_one b p) ps

-- the phase of names and blocks: a statement that has no meaning behind those above it, and nothing at the end
abbrev pub BreaksNames : List Placed → Option Placed → FaultCode → Type 0
BreaksNames before None code = ⊥
BreaksNames before (Some p) code = resolved_here (behind_all start before) p ≡ Err code

-- a fault is told at the line of its statement
abbrev pub names_line : List Placed → Option Placed → ℕ
names_line before None = 0
names_line before (Some p) = p.statement.line

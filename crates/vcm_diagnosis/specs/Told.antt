-- What is told of other lines.
use Rattle.std.specs.Prelude.{◌≡◌, ℕ, ◌==◌, nat_eq, Bool, true, false, ◌&&◌, ◌||◌, ◌⊎◌, IsTrue, List, length}
use Rattle.std.specs.List.{list_any}
use Rattle.std.specs.Cmp.Lexicographic.{pointwise}
use Rattle.vcm_forms.specs.declared.statement.Parameter.{Parameter}
use Rattle.vcm_forms.specs.declared.statement.Form.{Form}
use Rattle.vcm_forms.specs.declared.statement.Form.TheVariants.{Declaration, Test, Repeat, Mark, Measure, Choose, Case, Default as DefaultCase, Macro as MacroForm}
use Rattle.vcm_forms.specs.declared.statement.Statement.{Statement}
use Rattle.vcm_tree.specs.Acceptance.{ReadsAs}
use Rattle.vcm_diagnosis.specs.declared.about.About.{About}
use Rattle.vcm_diagnosis.specs.declared.about.About.TheVariants.{Nothing, Declared, Unended, Inside, Has, Touches, Inward, Count, Argument}
use Rattle.vcm_diagnosis.specs.declared.about.Block.{Block}
use Rattle.vcm_diagnosis.specs.declared.about.Block.TheVariants as block
use Rattle.vcm_diagnosis.specs.declared.about.Sort.{Sort}
use Rattle.vcm_diagnosis.specs.declared.about.Sort.TheVariants as sort

-- whether a statement is IF
abbrev pub is_test : Form → Bool
is_test (Test e) = true
is_test form = false

-- whether it is DO
abbrev pub is_repeat : Form → Bool
is_repeat (Repeat r) = true
is_repeat form = false

-- whether it is MEAS
abbrev pub is_measure : Form → Bool
is_measure (Measure l) = true
is_measure form = false

-- whether it is SELECT
abbrev pub is_choice : Form → Bool
is_choice (Choose e) = true
is_choice form = false

-- whether it is CASE
abbrev pub is_case : Form → Bool
is_case (Case z) = true
is_case form = false

-- whether it is DFTCAS
abbrev pub is_default : Form → Bool
is_default DefaultCase = true
is_default form = false

-- whether it is MACRO
abbrev pub is_macro : Form → Bool
is_macro (MacroForm name ps) = true
is_macro form = false

-- whether a statement opens such a block
abbrev pub opens : Block → Form → Bool
opens block.If form = is_test form
opens block.Else form = is_test form
opens block.Do form = is_repeat form
opens block.Meas form = is_measure form
opens block.Select form = is_choice form
opens block.Last form = is_choice form
opens block.Case form = is_case form
opens block.Default form = is_default form
opens block.Macro form = is_macro form

-- whether it opens a block that labels stand in
abbrev pub opens_any : Form → Bool
opens_any form = is_test form || (is_repeat form || (is_measure form || (is_case form || is_default form)))

-- whether the statement of a line opens such a block
abbrev pub opened_in : List Statement → Block → ℕ → Bool
opened_in all b line = list_any (λ s. s.line == line && opens b s.form) all

-- whether two names are the same
abbrev pub is_same : List ℕ → List ℕ → Bool
is_same a b = pointwise nat_eq a b

-- whether one of these variables has the name
abbrev pub names_one : List (List ℕ) → List ℕ → Bool
names_one names name = list_any (λ own. is_same own name) names

-- whether one of these parameters has it
abbrev pub has_parameter : List Parameter → List ℕ → Bool
has_parameter ps name = list_any (λ p. is_same p.name name) ps

-- whether a sort is that of variables, of labels
abbrev pub is_variable : Sort → Bool
is_variable sort.Variable = true
is_variable s = false

abbrev pub is_label : Sort → Bool
is_label sort.Label = true
is_label s = false

-- whether MACRO declares a name of this sort: its own, or that of a parameter
abbrev pub macro_declares : Sort → List ℕ → List ℕ → List Parameter → Bool
macro_declares sort.Variable name own ps = has_parameter ps name
macro_declares sort.Macro name own ps = is_same own name
macro_declares s name own ps = false

-- whether a statement declares a name of this sort
abbrev pub declares : Sort → List ℕ → Form → Bool
declares s name (Declaration k names) = is_variable s && names_one names name
declares s name (Mark own) = is_label s && is_same own name
declares s name (MacroForm own ps) = macro_declares s name own ps
declares s name form = false

-- whether the statement of a line declares it
abbrev pub declared_in : List Statement → Sort → List ℕ → ℕ → Bool
declared_in all s name line = list_any (λ t. t.line == line && declares s name t.form) all

-- whether a statement is the MACRO of this name with so many parameters
abbrev pub is_macro_of : List ℕ → ℕ → Form → Bool
is_macro_of name count (MacroForm own ps) = is_same own name && (length ps == count)
is_macro_of name count form = false

-- whether what is told of another line stands there among these statements: a declaration, the opener of a block, the MACRO of a call
abbrev pub told_in : List Statement → About → Bool
told_in all (Declared s name line) = declared_in all s name line
told_in all (Unended b line) = opened_in all b line
told_in all (Inside word b line) = opened_in all b line
told_in all (Has b line word) = opened_in all b line
told_in all (Touches line count) = opened_in all block.Meas line
told_in all (Inward name line at) = declared_in all sort.Label name line && list_any (λ s. s.line == at && opens_any s.form) all
told_in all (Count name line count given) = list_any (λ s. s.line == line && is_macro_of name count s.form) all
told_in all (Argument number name line misfit) = declared_in all sort.Macro name line
told_in all about = true

-- what a refusal of a text may be told to be about: nothing, or what stands in other lines of it as it is told
abbrev pub IsAbout : List ℕ → About → Type 0
IsAbout text about = (about ≡ Nothing) ⊎ ((ss : List Statement) × ReadsAs text ss × IsTrue (told_in ss about))

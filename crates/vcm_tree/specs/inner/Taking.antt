-- What is read of a program, and one statement more.
use Rattle.std.specs.Prelude.{◌≡◌, ℕ, List, [], ◌∷◌, ◌++◌, Option, Some, None, Result, Ok, Err}
use Rattle.vcm_spec.specs.Setup.{Variable}
use Rattle.vcm_forms.specs.declared.statement.Rounds.{Rounds}
use Rattle.vcm_forms.specs.declared.statement.Statement.{Statement}
use Rattle.vcm_macro.specs.declared.placed.Placed.{Placed}
use Rattle.vcm_lines.specs.declared.fault.SourceFault.{SourceFault}
use Rattle.vcm_spec.specs.Expression.{Tree}
use Rattle.vcm_spec.specs.Simple.{Simple}
use Rattle.vcm_spec.specs.Program.{Label}
use Rattle.vcm_lines.specs.declared.fault.FaultCode.{FaultCode}
use Rattle.vcm_forms.specs.declared.statement.Form.{Form}
use Rattle.vcm_forms.specs.declared.statement.Form.TheVariants.{Declaration, Mark}
use Rattle.vcm_tree.specs.declared.builder.Head.{Head}
use Rattle.vcm_tree.specs.declared.builder.Head.TheVariants.{Body}
use Rattle.vcm_tree.specs.declared.selection.Selection.{Selection}
use Rattle.vcm_tree.specs.declared.selection.Selection.TheVariants.{Plain}
use Rattle.vcm_tree.specs.declared.taking.Progress.{Progress}
use Rattle.vcm_expr.specs.Source.{Source}
use Rattle.vcm_tree.specs.Sentences.{Repeats, Selects}
use Rattle.vcm_tree.specs.Variables.{with_all}
use Rattle.vcm_tree.specs.Blocks.{Measured, measured, Behind, behind, repeated, selected, label_of}
use Rattle.vcm_tree.specs.Resolving.{measured_after, Meaning, acted, stated, resolved_here}
use Rattle.vcm_tree.specs.inner.Growing.{growing, grown_by, kinds}

-- the rounds are these, and open a body by this
pub record IsBody (vs : List Variable) (r : Rounds) (line : ℕ) (h : Head) : Type 0 where
  pub variable : ℕ
  pub initial : Tree
  pub limit : Tree
  pub increment : Tree
  pub is : h ≡ Body line variable initial limit increment
  pub rounds : repeated vs r ≡ Ok (Repeats variable initial limit increment)

-- the SELECT has this value, and no block
pub record IsSelected (vs : List Variable) (e : Source) (line : ℕ) (s : Selection) : Type 0 where
  pub value : Tree
  pub is : s ≡ Plain line value []
  pub typed : selected vs e ≡ Ok (Selects value)

-- what the statements that are read say of features and frames
abbrev pub measured_of : Progress → Measured
measured_of r = measured r.features r.frames r.touched

-- what the statements that are read leave behind them, with a SELECT whose next block is waited for, if there is one
abbrev pub behind_with : Progress → Option Selection → Behind
behind_with r waits = behind r.names (kinds (growing r.builder waits)) r.labels (measured_of r)

-- what they leave where there is none
abbrev pub behind_of : Progress → Behind
behind_of r = behind_with r None

-- the variables behind a statement of an expansion, if it may declare those that it declares
abbrev pub declared_by : List Variable → ℕ → Form → Result (List Variable) FaultCode
declared_by vs e (Declaration kind names) = with_all vs e kind names
declared_by vs e form = Ok vs

-- the labels behind it
abbrev pub marked_by : List Label → ℕ → Form → List Label
marked_by ls e (Mark name) = ls ++ label_of e name ∷ []
marked_by ls e form = ls

-- the statement is this simple one behind the others, and leaves what it says of features and frames
pub record ActsSo (s : Statement) (old new : Progress) (what : Simple Tree) : Type 0 where
  pub is : acted (behind_of old) s.form ≡ Some (Ok what)
  pub measures : measured_of new ≡ measured_after (measured_of old) s.form
  pub names : (e : ℕ) → declared_by old.names e s.form ≡ Ok new.names
  pub labels : (e : ℕ) → new.labels ≡ marked_by old.labels e s.form
  pub builder : new.builder ≡ old.builder

-- the statement is this simple one, or none
abbrev pub Acts : Statement → Progress → Progress → Option (Simple Tree) → Type 0
Acts s old new (Some action) = ActsSo s old new action
Acts s old new None = (acted (behind_of old) s.form ≡ None) × (new ≡ old)

-- the refusal tells the line of a simple statement, and the rule that it breaks
abbrev pub ActedAt : Statement → Behind → SourceFault → Type 0
ActedAt s b f = (f.line ≡ s.line) × (acted b s.form ≡ Some (Err f.code))

-- no SELECT waits for its next block behind a statement that is read so
abbrev pub unselected : Result (Unit {0}) SourceFault → Result (Option Selection) SourceFault
unselected (Ok x) = Ok None
unselected (Err f) = Err f

-- the statement of an expansion, of this meaning, is read behind the others
pub record TakesAs (r : Result Meaning FaultCode) (line e : ℕ) (form : Form) (old : Progress) (before : Option Selection) (new : Progress)
    (waits : Option Selection) : Type 0 where
  pub grows : grown_by (growing old.builder before) line r ≡ Some (growing new.builder waits)
  pub names : declared_by old.names e form ≡ Ok new.names
  pub labels : new.labels ≡ marked_by old.labels e form
  pub measures : measured_of new ≡ measured_after (measured_of old) form

-- the statement has a meaning behind the others, and is read
abbrev pub Takes : Placed → Progress → Option Selection → Progress → Option Selection → Type 0
Takes p old before = TakesAs (resolved_here (behind_with old before) p) p.statement.line p.expansion p.statement.form old before

-- the same of a statement that may stand there
abbrev pub TakesStated : Placed → Progress → Option Selection → Progress → Option Selection → Type 0
TakesStated p old before = TakesAs (stated (behind_with old before) p.expansion p.statement.form) p.statement.line p.expansion p.statement.form old before

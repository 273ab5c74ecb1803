-- What stands above a statement, as the code has it, and which statements a function takes.
use Rattle.std.specs.Prelude.{Bool, true, false}
use Rattle.vcm_forms.specs.declared.statement.Form.{Form}
use Rattle.vcm_forms.specs.declared.statement.Form.TheVariants as form
use Rattle.vcm_kept.specs.declared.guarding.Above.{Above}
use Rattle.vcm_kept.specs.declared.guarding.Passing.{Passing}
use Rattle.vcm_kept.specs.declared.guarding.Passing.TheVariants.{Branch, Label, Nothing}
use Rattle.vcm_kept.specs.Guarding.{Reached, branched, doubted}

-- what the code keeps says this
abbrev pub reached : Above → Reached
reached a = record { variables = a.names; frames = a.frames; features = a.features; within = a.within; since = a.since; measuring = a.measuring; aiming = a.aiming; assigned = a.assigned.items; blocks = a.blocks }

-- whether a statement opens a block of a choice or a loop, or closes one
abbrev pub is_block : Form → Bool
is_block (form.Test c) = true
is_block form.TestEnd = true
is_block (form.Choose c) = true
is_block form.ChooseEnd = true
is_block (form.Repeat r) = true
is_block form.RepeatEnd = true
is_block f = false

-- whether a statement is none of variables, motions, points and features
abbrev pub is_state : Form → Bool
is_state (form.Declaration k names) = false
is_state (form.Assignment t value) = false
is_state (form.Move p) = false
is_state form.Home = false
is_state (form.Feature l p d) = false
is_state (form.Measure l) = false
is_state (form.Touch p d) = false
is_state form.MeasureEnd = false
is_state f = true

-- and none of settings, frames and values of features
abbrev pub is_other : Form → Bool
is_other (form.Configure which value) = false
is_other (form.Shift l os) = false
is_other (form.Rotation l axis n) = false
is_other (form.Restore l) = false
is_other (form.Query t side l word) = false
is_other (form.Report side l) = false
is_other f = is_state f

-- what a statement that opens no block and closes none does to what stands above
abbrev pub passing_of : Form → Passing
passing_of (form.Case n) = Branch
passing_of form.Default = Branch
passing_of form.CaseEnd = Branch
passing_of form.Otherwise = Branch
passing_of (form.Mark name) = Label
passing_of f = Nothing

-- the same is done
abbrev pub passes : Passing → Reached → Reached
passes Branch r = branched r
passes Label r = doubted r
passes Nothing r = r

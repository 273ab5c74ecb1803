-- What is reported of the steps of a run.
use Rattle.std.specs.Prelude.{ℕ, nat_eq, if◌then◌else◌, List, [], ◌∷◌, replicate, Option, Some, None}
use Rattle.vcm_remarks.specs.declared.remark.Cause.{Cause}
use Rattle.vcm_remarks.specs.declared.remark.Remark.{Remark}
use Rattle.vcm_remarks.specs.declared.remark.Remark.TheVariants.{NotTried, Approached, BeginsElsewhere, NotReported, AnotherTip, NotInFile, Loses, Ends}
use Rattle.vcm_remarks.specs.declared.remark.NumberedRemark.{NumberedRemark}
use Rattle.vcm_steps.specs.Passages.{Passage}
use Rattle.vcm_untried.specs.declared.about.About.TheVariants as about
use Rattle.vcm_untried.specs.declared.rows.Row.{Row}
use Rattle.vcm_untried.specs.declared.telling.Told.{Told}
use Rattle.vcm_untried.specs.Causes.{cause_in, line_of, named, lost_at}
use Rattle.vcm_untried.specs.Rows.{add}

-- what is reported: the line at which each cause came about last, how often each thing is reported of each line, and the line from which on nothing is tried
pub record Telling : Type 0 where
  pub lost : List ℕ
  pub rows : List Row
  pub end : Option ℕ

-- the same, as a value has it
abbrev pub shown : Told → Telling
shown t = record { lost = t.lost; rows = t.rows.items; end = t.end }

-- before the first step
abbrev pub nothing_told : Telling
nothing_told = record { lost = replicate 7 0; rows = []; end = None }

-- the first of two lines
abbrev pub first_line : Option ℕ → ℕ → Option ℕ
first_line (Some first) line = Some first
first_line None line = Some line

-- what is reported after a statement with this remark at this line, where a motion that isn't tried isn't for this cause
abbrev pub told_as : Telling → Remark → ℕ → Cause → Telling
told_as t NotTried line cause = record t { rows = add (about.NotTried (named t.lost cause) (line_of t.lost cause)) line t.rows }
told_as t Approached line cause = record t { rows = add about.Approached line t.rows }
told_as t NotReported line cause = record t { rows = add about.NotReported line t.rows }
told_as t AnotherTip line cause = record t { rows = add about.AnotherTip line t.rows }
told_as t NotInFile line cause = record t { rows = add about.NotInFile line t.rows }
told_as t BeginsElsewhere line cause = record t { rows = add about.BeginsElsewhere line t.rows }
told_as t (Loses what) line cause = record t { lost = lost_at t.lost what line }
told_as t Ends line cause = record t { end = first_line t.end line }

-- by a remark with its line
abbrev pub told_by : Telling → NumberedRemark → Cause → Telling
told_by t r cause = told_as t r.remark r.line cause

-- by a remark, if there is one
abbrev pub told_if : Telling → Option NumberedRemark → Cause → Telling
told_if t None cause = t
told_if t (Some r) cause = told_by t r cause

-- the remark on the statement with a number, if there is one
abbrev pub remark_on : List NumberedRemark → ℕ → Option NumberedRemark
remark_on [] number = None
remark_on (r ∷ remarks) number = if nat_eq r.number number then Some r else remark_on remarks number

-- what is reported after one step more; why a motion isn't tried is read from the state before it
abbrev pub told_one : List NumberedRemark → Telling → Passage → Telling
told_one remarks t p = told_if t (remark_on remarks p.number) (cause_in p.before.variables)

-- after these steps
abbrev pub told_behind : List NumberedRemark → Telling → List Passage → Telling
told_behind remarks t [] = t
told_behind remarks t (p ∷ ps) = told_behind remarks (told_one remarks t p) ps

-- of these steps
abbrev pub told_of : List NumberedRemark → List Passage → Telling
told_of remarks ps = told_behind remarks nothing_told ps

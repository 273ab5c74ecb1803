-- Statements about what is reported. Each is a clause of a law in src/laws.rt.
use Rattle.std.specs.Prelude.{◌≡◌, ℕ, zero, suc, ◌+◌, ◌-◌, ◌<◌, ◌≤◌, ◌^◌, Bool, true, false, nat_eq, if◌then◌else◌, List, [], ◌∷◌, ◌++◌, length, Option, Some, None}
use Rattle.vcm_spec.specs.Workpiece.{Workpiece}
use Rattle.vcm_code.specs.declared.code.Code.{Code}
use Rattle.vcm_remarks.specs.declared.remark.Cause.{Cause}
use Rattle.vcm_remarks.specs.declared.remark.Remark.{Remark}
use Rattle.vcm_remarks.specs.declared.remark.Remark.TheVariants.{NotTried, Approached, BeginsElsewhere, NotReported, AnotherTip, NotInFile, Loses, Ends}
use Rattle.vcm_remarks.specs.declared.remark.NumberedRemark.{NumberedRemark}
use Rattle.vcm_steps.specs.Passages.{Passage, passages}
use Rattle.vcm_untried.specs.declared.about.About.{About}
use Rattle.vcm_untried.specs.declared.about.About.TheVariants as about
use Rattle.vcm_untried.specs.declared.rows.Row.{Row}
use Rattle.vcm_untried.specs.declared.groups.Group.{Group}
use Rattle.vcm_untried.specs.declared.spans.Span.{Span}
use Rattle.vcm_untried.specs.About.{same}
use Rattle.vcm_untried.specs.Causes.{cause_in, line_of, named}
use Rattle.vcm_untried.specs.Rows.{is_before}
use Rattle.vcm_untried.specs.Times.{times}
use Rattle.vcm_untried.specs.Telling.{Telling, nothing_told, remark_on, told_one, told_of}
use Rattle.vcm_untried.specs.Groups.{is_first, groups_of}
use Rattle.vcm_untried.specs.Spans.{spans_of}
use Rattle.vcm_untried.specs.Lines.{all_tried}

-- ---- steps

-- a run of at most n steps has no more than n
abbrev pub RunsAreShort : Type 0
RunsAreShort = (part : Workpiece) (c : Code) (n : ℕ) → length (passages part c n) ≤ n

-- what a statement with this remark reports of its line, if anything, where the causes came about at these lines, and a motion that isn't tried isn't for this one
abbrev pub told_now : List ℕ → Remark → Cause → Option About
told_now lost NotTried cause = Some (about.NotTried (named lost cause) (line_of lost cause))
told_now lost Approached cause = Some about.Approached
told_now lost BeginsElsewhere cause = Some about.BeginsElsewhere
told_now lost NotReported cause = Some about.NotReported
told_now lost AnotherTip cause = Some about.AnotherTip
told_now lost NotInFile cause = Some about.NotInFile
told_now lost (Loses what) cause = None
told_now lost Ends cause = None

-- once, where what is reported of a line is what is asked for
abbrev pub once_if : (About → ℕ → Bool) → Option About → ℕ → ℕ
once_if asked None line = 0
once_if asked (Some what) line = if asked what line then 1 else 0

-- the same for the remark on a statement, if there is one
abbrev pub asked_on : (About → ℕ → Bool) → List ℕ → Option NumberedRemark → Cause → ℕ
asked_on asked lost None cause = 0
asked_on asked lost (Some r) cause = once_if asked (told_now lost r.remark cause) r.line

-- how many steps report what is asked for, after what was reported before
abbrev pub asked_behind : (About → ℕ → Bool) → List NumberedRemark → Telling → List Passage → ℕ
asked_behind asked remarks t [] = 0
asked_behind asked remarks t (p ∷ ps) =
    asked_on asked t.lost (remark_on remarks p.number) (cause_in p.before.variables) + asked_behind asked remarks (told_one remarks t p) ps

-- how often rows report what is asked for
abbrev pub asked_in : (About → ℕ → Bool) → List Row → ℕ
asked_in asked [] = 0
asked_in asked (r ∷ rows) = (if asked r.about r.line then r.count else 0) + asked_in asked rows

-- whatever is asked for, rows report it as often as there are steps that do: nothing is lost, and nothing is counted twice
abbrev pub EachStepIsTold : Type 0
EachStepIsTold =
    (asked : About → ℕ → Bool) (remarks : List NumberedRemark) (ps : List Passage)
    → asked_in asked (told_of remarks ps).rows ≡ asked_behind asked remarks nothing_told ps

-- ---- lines

-- a motion isn't tried
abbrev pub is_untried : About → Bool
is_untried (about.NotTried cause since) = true
is_untried about.Approached = false
is_untried about.BeginsElsewhere = false
is_untried about.NotReported = false
is_untried about.AnotherTip = false
is_untried about.NotInFile = false

-- the remark on a statement says so
abbrev pub says_untried : Remark → Bool
says_untried NotTried = true
says_untried Approached = false
says_untried BeginsElsewhere = false
says_untried NotReported = false
says_untried AnotherTip = false
says_untried NotInFile = false
says_untried (Loses what) = false
says_untried Ends = false

-- the same, if there is one
abbrev pub is_untried_on : Option NumberedRemark → Bool
is_untried_on None = false
is_untried_on (Some r) = says_untried r.remark

-- how many of these steps are motions that aren't tried
abbrev pub untried_steps : List NumberedRemark → List Passage → ℕ
untried_steps remarks [] = 0
untried_steps remarks (p ∷ ps) = (if is_untried_on (remark_on remarks p.number) then 1 else 0) + untried_steps remarks ps

-- how many the lines of these groups report
abbrev pub untried_total : List Group → ℕ
untried_total [] = 0
untried_total (g ∷ groups) = (if is_untried g.about then g.total else 0) + untried_total groups

-- the numbers of motions in all lines are together that of the motions that weren't tried
abbrev pub LinesTellAllSteps : Type 0
LinesTellAllSteps =
    (remarks : List NumberedRemark) (ps : List Passage) → length ps < 2 ^ 64
    → untried_total (groups_of (told_of remarks ps).rows) ≡ untried_steps remarks ps

-- how often the lines of groups report one thing
abbrev pub total_of : About → List Group → ℕ
total_of what [] = 0
total_of what (g ∷ groups) = (if same g.about what then g.total else 0) + total_of what groups

-- how often rows report it, of any line
abbrev pub sum_of : About → List Row → ℕ
sum_of what rows = asked_in (λ x line. same x what) rows

-- what stands in a line for each cause, and since each line, is the sum of its rows
abbrev pub GroupsAreSums : Type 0
GroupsAreSums =
    (remarks : List NumberedRemark) (ps : List Passage) → length ps < 2 ^ 64
    → (what : About) → total_of what (groups_of (told_of remarks ps).rows) ≡ sum_of what (told_of remarks ps).rows

-- ---- spans

-- a line, and how often it counts
pub record Counted : Type 0 where
  pub line : ℕ
  pub count : ℕ

-- so many lines from one on, each of which counts so often
abbrev pub lines_from : (line count many : ℕ) → List Counted
lines_from line count zero = []
lines_from line count (suc k) = record { line = line; count = count } ∷ lines_from (suc line) count k

-- the lines of a span
abbrev pub lines_of : Span → List Counted
lines_of s = lines_from s.first s.count (s.last + 1 - s.first)

-- the lines of spans
abbrev pub all_lines : List Span → List Counted
all_lines [] = []
all_lines (s ∷ spans) = lines_of s ++ all_lines spans

-- the lines of the rows that report this
abbrev pub rows_about : About → List Row → List Counted
rows_about what [] = []
rows_about what (r ∷ rows) = if same r.about what then record { line = r.line; count = r.count } ∷ rows_about what rows else rows_about what rows

-- the spans of a group are the lines of its rows, in their order
abbrev pub SpansAreLines : Type 0
SpansAreLines = (what : About) (rows : List Row) → all_lines (spans_of what rows) ≡ rows_about what rows

-- ---- all that is tried

-- a remark reports nothing that isn't tried
abbrev pub says_nothing : Remark → Bool
says_nothing NotTried = false
says_nothing Approached = false
says_nothing BeginsElsewhere = false
says_nothing NotReported = false
says_nothing AnotherTip = false
says_nothing NotInFile = false
says_nothing (Loses what) = true
says_nothing Ends = false

-- the same, if there is one
abbrev pub is_tried_on : Option NumberedRemark → Bool
is_tried_on None = true
is_tried_on (Some r) = says_nothing r.remark

-- each of these steps is tried
abbrev pub are_tried : List NumberedRemark → List Passage → Bool
are_tried remarks [] = true
are_tried remarks (p ∷ ps) = if is_tried_on (remark_on remarks p.number) then are_tried remarks ps else false

-- nothing was reported where each step was tried, and only there
abbrev pub AllIsTried : Type 0
AllIsTried = (remarks : List NumberedRemark) (ps : List Passage) → all_tried (told_of remarks ps) ≡ are_tried remarks ps

-- ---- order

-- a row stands before all of these: they are of lines after it, or report something else of the same line
abbrev pub StandsBefore : Row → List Row → Type 0
StandsBefore r [] = Unit {0}
StandsBefore r (s ∷ rows) = (is_before r s.about s.line ≡ true) × StandsBefore r rows

-- each row stands before those after it
abbrev pub AreInOrder : List Row → Type 0
AreInOrder [] = Unit {0}
AreInOrder (r ∷ rows) = StandsBefore r rows × AreInOrder rows

-- rows stand in the order of their lines, and no two report the same of the same line
abbrev pub RowsAreInOrder : Type 0
RowsAreInOrder = (remarks : List NumberedRemark) (ps : List Passage) → AreInOrder (told_of remarks ps).rows

-- none of these groups is about this
abbrev pub IsApart : About → List Group → Type 0
IsApart what [] = Unit {0}
IsApart what (g ∷ groups) = (same g.about what ≡ false) × IsApart what groups

-- no two groups are about the same
abbrev pub AreApart : List Group → Type 0
AreApart [] = Unit {0}
AreApart (g ∷ groups) = IsApart g.about groups × AreApart groups

-- no group stands directly after one that it comes before
abbrev pub AreSorted : List Group → Type 0
AreSorted [] = Unit {0}
AreSorted (g ∷ []) = Unit {0}
AreSorted (g ∷ h ∷ groups) = (is_first h g ≡ false) × AreSorted (h ∷ groups)

-- there is one line for each cause and each line since which it is so, and the lines are in order
abbrev pub GroupsAreInOrder : Type 0
GroupsAreInOrder = (rows : List Row) → AreApart (groups_of rows) × AreSorted (groups_of rows)

-- ---- counts and lines

-- none of these remarks is on this statement
abbrev pub IsNew : ℕ → List NumberedRemark → Type 0
IsNew number [] = Unit {0}
IsNew number (r ∷ remarks) = (nat_eq r.number number ≡ false) × IsNew number remarks

-- no two remarks are on one statement
abbrev pub AreSingle : List NumberedRemark → Type 0
AreSingle [] = Unit {0}
AreSingle (r ∷ remarks) = IsNew r.number remarks × AreSingle remarks

-- how often these steps take the statements whose remark says that a motion isn't tried
abbrev pub untried_times : List Passage → List NumberedRemark → ℕ
untried_times ps [] = 0
untried_times ps (r ∷ remarks) = (if says_untried r.remark then times ps r.number else 0) + untried_times ps remarks

-- the counts of these statements are together the number of motions that weren't tried
abbrev pub CountsAgree : Type 0
CountsAgree = (remarks : List NumberedRemark) (ps : List Passage) → AreSingle remarks → untried_times ps remarks ≡ untried_steps remarks ps

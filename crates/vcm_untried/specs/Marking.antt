-- What is reported at each step of a run, which ways begin elsewhere, and what is known.
use Rattle.std.specs.Prelude.{ℕ, ◌+◌, ◌-◌, ◌^◌, min, Bool, true, false, not, ◌&&◌, nat_eq, if◌then◌else◌, List, [], ◌∷◌, ◌++◌, replicate, Option, Some, None, decimal, codes}
use Rattle.vcm_spec.specs.Workpiece.{Workpiece}
use Rattle.vcm_code.specs.declared.code.Code.{Code}
use Rattle.vcm_remarks.specs.declared.remark.Cause.{Cause}
use Rattle.vcm_remarks.specs.declared.remark.Remark.{Remark}
use Rattle.vcm_remarks.specs.declared.remark.Remark.TheVariants.{NotTried, Approached, BeginsElsewhere, NotReported, AnotherTip, NotInFile, Loses, Ends}
use Rattle.vcm_remarks.specs.declared.remark.NumberedRemark.{NumberedRemark}
use Rattle.vcm_steps.specs.Passages.{Passage, passages}
use Rattle.vcm_untried.specs.declared.about.About.{About}
use Rattle.vcm_untried.specs.declared.about.About.TheVariants as about
use Rattle.vcm_untried.specs.declared.known.Known.{Known}
use Rattle.vcm_untried.specs.declared.marking.Marked.{Marked}
use Rattle.vcm_untried.specs.declared.marking.Knowing.{Knowing}
use Rattle.vcm_untried.specs.declared.marking.Marking.{Marking}
use Rattle.vcm_untried.specs.declared.rows.Row.{Row}
use Rattle.vcm_untried.specs.Causes.{cause_in, line_of, named, lost_at}
use Rattle.vcm_untried.specs.Elsewhere.{is_way}
use Rattle.vcm_untried.specs.Known.{known_in, is_same, all_known}
use Rattle.vcm_untried.specs.Telling.{Telling, remark_on}

-- ---- steps

-- the line at which each cause came about last; what is reported at which step, of which line; whether the way that comes next begins elsewhere, and the steps whose
-- ways do; what is known, and the steps behind which that is something else
pub record Marks : Type 0 where
  pub lost : List ℕ
  pub marks : List Marked
  pub begins : Bool
  pub elsewhere : List ℕ
  pub known : Known
  pub changes : List Knowing

-- the same, as a value has it
abbrev pub marks_in : Marking → Marks
marks_in m = record {
  lost = m.lost;
  marks = m.marks.items;
  begins = m.begins;
  elsewhere = m.elsewhere.items;
  known = m.known;
  changes = m.changes.items;
}

-- before the first step all is known
abbrev pub unmarked : Marks
unmarked = record { lost = replicate 7 0; marks = []; begins = false; elsewhere = []; known = all_known; changes = [] }

-- a step of the statement with a number reports this of a line
abbrev pub marked : ℕ → ℕ → ℕ → About → Marked
marked step number line about = record { step = step; number = number; line = line; about = about }

-- behind a step of the statement with a number, on which there is this remark of a line, where a motion that isn't tried isn't for this cause
abbrev pub marked_as : Marks → ℕ → ℕ → Remark → ℕ → Cause → Marks
marked_as m step number NotTried line cause = record m { marks = m.marks ++ marked step number line (about.NotTried (named m.lost cause) (line_of m.lost cause)) ∷ [] }
marked_as m step number Approached line cause = record m { marks = m.marks ++ marked step number line about.Approached ∷ [] }
marked_as m step number BeginsElsewhere line cause = record m { marks = m.marks ++ marked step number line about.BeginsElsewhere ∷ []; begins = true }
marked_as m step number NotReported line cause = record m { marks = m.marks ++ marked step number line about.NotReported ∷ [] }
marked_as m step number AnotherTip line cause = record m { marks = m.marks ++ marked step number line about.AnotherTip ∷ [] }
marked_as m step number NotInFile line cause = record m { marks = m.marks ++ marked step number line about.NotInFile ∷ [] }
marked_as m step number (Loses what) line cause = record m { lost = lost_at m.lost what line }
marked_as m step number Ends line cause = m

-- the same by a remark, if there is one
abbrev pub marked_if : Marks → ℕ → Option NumberedRemark → Cause → Marks
marked_if m step None cause = m
marked_if m step (Some r) cause = marked_as m step r.number r.remark r.line cause

-- behind a way, which begins elsewhere if that was remarked before it; and behind any other statement
abbrev pub gone_by : Marks → ℕ → Bool → Marks
gone_by m step true = record m { elsewhere = m.elsewhere ++ (if m.begins then step ∷ [] else []); begins = false }
gone_by m step false = m

-- behind a step something else is known: this
abbrev pub learned : Marks → ℕ → Known → Marks
learned m step k = record m { known = k; changes = m.changes ++ record { step = step; known = k } ∷ [] }

-- behind a step this is known. What is known is set at the start by statements on line 1
abbrev pub known_by : Marks → ℕ → ℕ → Known → Marks
known_by m step line k =
    if nat_eq line 1 then m
    else if is_same m.known k then m
    else learned m step k

-- behind one more step; why a motion isn't tried is read from the state before it
abbrev pub marked_one : List NumberedRemark → Marks → Passage → Marks
marked_one remarks m p =
    known_by (gone_by (marked_if m p.count (remark_on remarks p.number) (cause_in p.before.variables)) p.count (is_way p.statement.op))
    p.count p.statement.line (known_in p.after.variables)

-- behind these steps
abbrev pub marked_behind : List NumberedRemark → Marks → List Passage → Marks
marked_behind remarks m [] = m
marked_behind remarks m (p ∷ ps) = marked_behind remarks (marked_one remarks m p) ps

-- behind a run of at most n steps
abbrev pub marks_of : List NumberedRemark → Workpiece → Code → ℕ → Marks
marks_of remarks part c n = marked_behind remarks unmarked (passages part c n)

-- ---- behind a number of ways

-- a motion isn't tried
abbrev pub is_motion : About → Bool
is_motion (about.NotTried cause since) = true
is_motion about.Approached = false
is_motion about.BeginsElsewhere = false
is_motion about.NotReported = false
is_motion about.AnotherTip = false
is_motion about.NotInFile = false

-- as many more as a row reports that aren't tried
abbrev pub with_motions : ℕ → Row → ℕ
with_motions sum r = if is_motion r.about then min (sum + r.count) (2 ^ 64 - 1) else sum

-- as many more as these rows do
abbrev pub motions_behind : ℕ → List Row → ℕ
motions_behind sum [] = sum
motions_behind sum (r ∷ rows) = motions_behind (with_motions sum r) rows

-- how many motions weren't tried
abbrev pub motions : List Row → ℕ
motions rows = motions_behind 0 rows

-- from which line on none is, if there is one
abbrev pub end_behind : Option ℕ → List ℕ
end_behind None = []
end_behind (Some line) = codes " and from line " ++ (decimal line ++ codes " on")

-- what stands behind the number of ways: how many motions weren't tried, and from which line on none is
abbrev pub behind_ways : Telling → List ℕ
behind_ways t = codes ", not tried " ++ (decimal (motions t.rows) ++ end_behind t.end)

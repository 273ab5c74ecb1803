-- What wasn't tried, in lines.
use Rattle.std.specs.Prelude.{ℕ, Bool, true, false, ◌&&◌, not, nat_eq, if◌then◌else◌, List, [], ◌∷◌, ◌++◌, flat_map, decimal, codes, Option, Some, None}
use Rattle.vcm_remarks.specs.declared.remark.Cause.{Cause}
use Rattle.vcm_remarks.specs.declared.remark.Cause.TheVariants.{Table, Mode, Scanning, Unit as UnitLost, Frame, Setting, Value, All}
use Rattle.vcm_untried.specs.declared.about.About.{About}
use Rattle.vcm_untried.specs.declared.about.About.TheVariants.{NotTried, Approached, BeginsElsewhere, NotReported, AnotherTip, NotInFile}
use Rattle.vcm_untried.specs.declared.rows.Row.{Row}
use Rattle.vcm_untried.specs.declared.groups.Group.{Group}
use Rattle.vcm_untried.specs.declared.frames.NamedFrame.{NamedFrame}
use Rattle.vcm_untried.specs.declared.spans.Span.{Span}
use Rattle.vcm_untried.specs.Telling.{Telling}
use Rattle.vcm_untried.specs.Groups.{groups_of}
use Rattle.vcm_untried.specs.Spans.{spans_of}
use Rattle.vcm_untried.specs.Frames.{frame_at}
use Rattle.vcm_untried.specs.declared.elsewhere.Standing.{Standing}

-- what a line begins with
abbrev pub head_text : About → List ℕ
head_text (NotTried cause since) = codes "not tried "
head_text Approached = codes "approached, not touched "
head_text BeginsElsewhere = codes "begins elsewhere "
head_text NotReported = codes "not reported "
head_text AnotherTip = codes "another tip since"
head_text NotInFile = codes "not in the probe file: "

-- how often in all, which isn't told of other sensors
abbrev pub count_text : About → ℕ → List ℕ
count_text AnotherTip total = []
count_text about total = decimal total ++ codes ":"

-- a span is one line
abbrev pub is_alone : Span → Bool
is_alone s = nat_eq s.first s.last

-- one line, or several
abbrev pub lines_word : List Span → List ℕ
lines_word (s ∷ []) = if is_alone s then codes " line" else codes " lines"
lines_word spans = codes " lines"

-- what stands after the first line of a span: the last one, or how often it counts, if that isn't once
abbrev pub rest_text : Span → List ℕ
rest_text s =
    if not (is_alone s) then codes "-" ++ decimal s.last
    else if not (nat_eq s.count 1) then codes "(" ++ (decimal s.count ++ codes ")")
    else []

-- a span
abbrev pub span_text : Span → List ℕ
span_text s = codes " " ++ (decimal s.first ++ rest_text s)

-- spans
abbrev pub spans_text : List Span → List ℕ
spans_text spans = flat_map span_text spans

-- the words of a cause that came about at a line, which stands after them
abbrev pub since_text : Cause → List ℕ
since_text Table = codes ", a table may be turned since line "
since_text Mode = codes ", the mode isn't programmed since line "
since_text Scanning = codes ", the machine scans since line "
since_text UnitLost = codes ", the unit isn't followed since line "
since_text Frame = codes ", the frame isn't known since line "
since_text Setting = codes ", the approach, search or way back isn't known since line "
since_text Value = codes ", a value isn't known since line "
since_text All = codes ", anything may have changed since line "

-- the words of a cause that came about at no line
abbrev pub given_text : Cause → List ℕ
given_text Table = codes ", a table may be turned"
given_text Mode = codes ", no MODE gives the programmed mode"
given_text Scanning = codes ", the machine scans"
given_text UnitLost = codes ", no UNITS gives a unit that is followed"
given_text Frame = codes ", the frame isn't given"
given_text Setting = codes ", no SNSET gives the approach, the search and the way back"
given_text Value = codes ", a value isn't known"
given_text All = codes ", anything may have changed"

-- how a frame may be given
abbrev pub option_text : NamedFrame → List ℕ
option_text f = codes "; give --frame " ++ (f.name ++ codes "=X,Y,Z")

-- the same, where it may
abbrev pub give_text : NamedFrame → List ℕ
give_text f = if f.takes_given then option_text f else []

-- that a frame of this name isn't known since a line
abbrev pub named_text : NamedFrame → ℕ → List ℕ
named_text f since = codes ", the frame " ++ (f.name ++ (codes " isn't known since line " ++ (decimal since ++ give_text f)))

-- that the frame isn't known since a line, with its name where the statement of that line has one
abbrev pub frame_text : Option NamedFrame → ℕ → List ℕ
frame_text None since = since_text Frame ++ decimal since
frame_text (Some f) since = named_text f since

-- why, where it came about at a line
abbrev pub lost_text : List NamedFrame → Cause → ℕ → List ℕ
lost_text frames Frame since = frame_text (frame_at frames since) since
lost_text frames cause since = since_text cause ++ decimal since

-- why, and since which line
abbrev pub cause_text : List NamedFrame → Cause → ℕ → List ℕ
cause_text frames cause since = if nat_eq since 0 then given_text cause else lost_text frames cause since

-- why a line isn't tried, if it isn't
abbrev pub about_text : List NamedFrame → About → List ℕ
about_text frames (NotTried cause since) = cause_text frames cause since
about_text frames about = []

-- the line of what is reported so many times
abbrev pub line_text : List NamedFrame → List Row → About → ℕ → List ℕ
line_text frames rows about total =
    head_text about
    ++ (count_text about total
    ++ (lines_word (spans_of about rows) ++ (spans_text (spans_of about rows) ++ (about_text frames about ++ codes "\n"))))

-- the sensor that a statement selects, by its name where that is known
abbrev pub sensor_text : Option NamedFrame → List ℕ
sensor_text None = codes "a sensor"
sensor_text (Some f) = f.name

-- that the file of probes hasn't the one of this line
abbrev pub missing_line : Option NamedFrame → ℕ → List ℕ
missing_line f line = codes "not in the probe file: " ++ (sensor_text f ++ (codes " line " ++ (decimal line ++ codes "\n")))

-- the same, where that is what is reported of the line
abbrev pub missing_at : List NamedFrame → ℕ → About → List ℕ
missing_at frames line NotInFile = missing_line (frame_at frames line) line
missing_at frames line about = []

-- the same of a row
abbrev pub missing_row : List NamedFrame → Row → List ℕ
missing_row frames r = missing_at frames r.line r.about

-- the lines of probes that the file hasn't: one for each line that selects one
abbrev pub missing_text : List NamedFrame → List Row → List ℕ
missing_text frames rows = flat_map (missing_row frames) rows

-- the line of a group, or its lines
abbrev pub lines_text : List NamedFrame → List Row → About → ℕ → List ℕ
lines_text frames rows NotInFile total = missing_text frames rows
lines_text frames rows about total = line_text frames rows about total

abbrev pub group_text : List NamedFrame → List Row → Group → List ℕ
group_text frames rows g = lines_text frames rows g.about g.total

-- the lines of groups
abbrev pub groups_text : List NamedFrame → List Row → List Group → List ℕ
groups_text frames rows groups = flat_map (group_text frames rows) groups

-- from which line on nothing is tried, if there is one
abbrev pub end_text : Option ℕ → List ℕ
end_text (Some line) = codes "not tried from line " ++ (decimal line ++ codes " on\n")
end_text None = []

-- what wasn't tried, in lines, where the statements of these lines make or recall these frames
abbrev pub untried_text : List NamedFrame → Telling → List ℕ
untried_text frames t = groups_text frames t.rows (groups_of t.rows) ++ end_text t.end

-- there is none
abbrev pub is_none : {A : Type 0} → List A → Bool
is_none [] = true
is_none (x ∷ xs) = false

-- there is no such line
abbrev pub no_end : Option ℕ → Bool
no_end None = true
no_end (Some line) = false

-- nothing was reported
abbrev pub all_tried : Telling → Bool
all_tried t = is_none t.rows && no_end t.end

-- ---- the way on which a run stops

-- that it begins elsewhere than on the machine, if it does
abbrev pub begun_text : ℕ → List ℕ
begun_text line =
    if nat_eq line 0 then [] else codes "begins elsewhere: the machine's way to here isn't known since line " ++ (decimal line ++ codes "\n")

-- the current frame, if the statement that made it so names one
abbrev pub current_text : Option NamedFrame → ℕ → List ℕ
current_text None line = []
current_text (Some f) line = codes "frame " ++ (f.name ++ (codes " since line " ++ (decimal line ++ codes "\n")))

-- what is told of the way on which a run stops, if it stops on one
abbrev pub way_text : List NamedFrame → Standing → List ℕ
way_text frames s = if s.is_way then begun_text s.way ++ current_text (frame_at frames s.frame) s.frame else []

-- ---- what is reported at a step

-- what it is
abbrev pub mark_text : About → List ℕ
mark_text (NotTried cause since) = codes "not tried"
mark_text Approached = codes "approached, not touched"
mark_text BeginsElsewhere = codes "begins elsewhere"
mark_text NotReported = codes "not reported"
mark_text AnotherTip = codes "another tip"
mark_text NotInFile = codes "not in the probe file"

-- the same, and why
abbrev pub about_words : List NamedFrame → About → List ℕ
about_words frames about = mark_text about ++ about_text frames about

-- What a sheet says.
use Rattle.std.specs.Prelude.{ℕ, pos, ◌*ℤ◌, Bool, false, List, [], ◌∷◌, ◌++◌, length, map, Option, Some, None, codes}
use Rattle.std.specs.Int.{int_div_euclid}
use Rattle.vcm_num.specs.Texts.{thousandths}
use Rattle.vcm_spec.specs.Workpiece.{Workpiece}
use Rattle.vcm_state.specs.Held.{Held}
use Rattle.vcm_marks.specs.declared.mark.Contact.{Contact}
use Rattle.vcm_marks.specs.declared.mark.PlacedMark.{PlacedMark}
use Rattle.vcm_svg.specs.Legend.{bar_of}
use Rattle.vcm_picture.specs.declared.view.View.{View}
use Rattle.vcm_picture.specs.declared.view.View.TheVariants.{Top, Front, Side}
use Rattle.vcm_picture.specs.Heading.{first_line}
use Rattle.vcm_picture.specs.Marks.{contact_of}
use Rattle.vcm_picture.specs.Picture.{window_round}
use Rattle.vcm_picture.specs.Sights.{Window}
use Rattle.vcm_picture.specs.View.{scope_of}
use Rattle.vcm_sheet.specs.declared.legend.Used.{Used}
use Rattle.vcm_sheet.specs.declared.lines.Lines.{Lines}
use Rattle.vcm_sheet.specs.declared.paper.Paper.{Paper}
use Rattle.vcm_sheet.specs.declared.paper.Room.{Room}
use Rattle.vcm_sheet.specs.declared.points.Pointed.{Pointed}
use Rattle.vcm_sheet.specs.declared.readings.Reading.{Reading}
use Rattle.vcm_sheet.specs.declared.subject.Sheet.{Sheet}
use Rattle.vcm_sheet.specs.declared.views.Drawing.{Drawing}
use Rattle.vcm_sheet.specs.Block.{block_said}
use Rattle.vcm_sheet.specs.Heading.{files_line, stop_line, position_line, lines_line, contact_line, left_out_line, untried_lines}
use Rattle.vcm_sheet.specs.Legend.{used_in}
use Rattle.vcm_sheet.specs.Lines.{draws_end, marks_on}
use Rattle.vcm_sheet.specs.Paper.{room_of, scale_on, window_on}
use Rattle.vcm_sheet.specs.Points.{points_on}
use Rattle.vcm_sheet.specs.Sayings.{Saying, Title, say}
use Rattle.vcm_sheet.specs.Tables.{legend, points_table, blocks_table}
use Rattle.vcm_sheet.specs.Ticks.{Ticking, ticks_in, has_origin}
use Rattle.vcm_sheet.specs.Views.{Drawn, drawn_at, view_said}
use Rattle.vcm_sheet.specs.Written.{written}

-- what is filed: a workpiece, with the names of its blocks; the state at the end of a run of so many steps; the marks of its way, before which so many
-- pieces are left out; what its steps measured; of these what comes from some source lines; the names of the files of the program and of the part; lines of what
-- wasn't tried; and perhaps a paper, with the title of the program for its title block
pub record Filing : Type 0 where
  pub part : Workpiece
  pub held : Held
  pub done : ℕ
  pub marks : List PlacedMark
  pub left_out : ℕ
  pub readings : List Reading
  pub is_close : Bool
  pub lines : Lines
  pub program_name : List ℕ
  pub part_name : List ℕ
  pub block_names : List (List ℕ)
  pub untried : List (List ℕ)
  pub paper : Option Paper
  pub title : List ℕ

-- what a sheet is of
abbrev pub filing : Sheet → Filing
filing s = record {
  part = s.part.now;
  held = s.world.now;
  done = s.done;
  marks = s.marks.now;
  left_out = s.left_out;
  readings = s.readings.now;
  is_close = s.is_close;
  lines = s.lines;
  program_name = s.program_name.now;
  part_name = s.part_name.now;
  block_names = map (λ n. n.items) s.block_names.now;
  untried = map (λ n. n.items) s.untried.now;
  paper = s.paper;
  title = s.title.now;
}

-- what a drawing shows
abbrev pub shown_in : Drawing → Drawn
shown_in d = record { shapes = d.shapes.items; numbers = d.numbers.items }

-- the marks that come from the chosen lines
abbrev pub marks_shown : Filing → List PlacedMark
marks_shown f = marks_on f.lines f.marks

-- the touched points that do, each with its number among all
abbrev pub points_shown : Filing → List Pointed
points_shown f = points_on f.lines f.marks

-- whether the end of the way is drawn
abbrev pub has_end : Filing → Bool
has_end f = draws_end f.lines f.marks

-- why the run stopped, or how many steps were done without a stop
abbrev pub stop_words : Filing → List ℕ
stop_words f = first_line f.held.tables f.held.state.stop f.done

-- the title, with this first line of the heading
abbrev pub title_said : Filing → List ℕ → Saying
title_said f stopped = Title (written f.program_name ++ (codes ": " ++ stopped))

-- the heading of a run that stopped so, whose end is drawn or isn't, and of a way with this contact
abbrev pub heading : Filing → List ℕ → Bool → Option Contact → List Saying
heading f stopped is_drawn contact =
    stop_line is_drawn stopped
    ++ (files_line f.program_name f.part_name f.part.bounds.tip ++ (position_line is_drawn f.held.state.position f.done ++ (lines_line f.lines
    ++ (contact_line f.block_names contact ++ (left_out_line f.left_out ++ untried_lines f.untried)))))

-- how many lines it has
abbrev pub heading_lines : Filing → List ℕ → Bool → Option Contact → ℕ
heading_lines f stopped is_drawn contact = length (heading f stopped is_drawn contact)

-- the window; on a paper with texts of the size that they have there
abbrev pub window_of : Filing → Window
window_of f =
    window_on f.paper (heading_lines f (stop_words f) (has_end f) (contact_of (marks_shown f))) (length (points_shown f))
    (window_round f.part f.held (marks_shown f) f.is_close)

-- what a view shows
abbrev pub drawn : Filing → View → Drawn
drawn f v = drawn_at (has_end f) (scope_of (window_of f) v) f.part f.held (marks_shown f) (points_shown f)

-- no mark of the legend
abbrev pub none : Used
none = record {
  moves = false;
  approach = false;
  search = false;
  retract = false;
  rest = false;
  elsewhere = false;
  touched = false;
  end = false;
  home = false;
  contact = false;
  limits = false;
  hidden = false;
}

-- the marks of the legend that are in sight in one of the three views
abbrev pub used_of : Window → Drawn → Drawn → Drawn → Used
used_of w top front side =
    used_in (scope_of w Side) (used_in (scope_of w Front) (used_in (scope_of w Top) none top.shapes) front.shapes) side.shapes

-- the tables: the legend, the points and the blocks that have room
abbrev pub tables : Filing → Used → Ticking → Room → List Pointed → List Saying
tables f used ticks room points =
    legend used (has_origin ticks) ++ (points_table f.held.tables.features f.readings room points ++ blocks_table room.names f.block_names)

-- the three views
abbrev pub views : Filing → List ℕ → Window → Drawn → Drawn → Drawn → ℕ → List Saying
views f stopped w top front side points =
    view_said f.held.tables.features stopped (scope_of w Top) (ticks_in w) top points
    ++ (view_said f.held.tables.features stopped (scope_of w Front) (ticks_in w) front points
    ++ view_said f.held.tables.features stopped (scope_of w Side) (ticks_in w) side points)

-- the bar that shows a length
abbrev pub bar_said : Window → List Saying
bar_said w =
    say (thousandths (bar_of (int_div_euclid (scope_of w Top).wide (pos 4)) *ℤ w.grain) ∷ codes " mm; third-angle projection" ∷ []) ∷ []

-- the title block, on a paper
abbrev pub block_if : Filing → Option Paper → (lines points : ℕ) → Window → List Saying
block_if f None lines points w = []
block_if f (Some p) lines points w = block_said p f.title f.part_name f.part.bounds.tip (scale_on p lines points w)

-- all that a sheet of a run whose end is drawn or isn't, with this window, these views and these points says, in the order in which it is written
unfoldable pub whole : Filing → List ℕ → Bool → Window → Drawn → Drawn → Drawn → Option Contact → List Pointed → List Saying
whole f stopped is_drawn w top front side contact points =
    title_said f stopped
    ∷ (heading f stopped is_drawn contact ++ (views f stopped w top front side (length points)
    ++ (tables f (used_of w top front side) (ticks_in w) (room_of f.paper (heading_lines f stopped is_drawn contact) (length points) w) points
    ++ (bar_said w ++ block_if f f.paper (heading_lines f stopped is_drawn contact) (length points) w))))

-- the same of what is filed
unfoldable pub content : Filing → List Saying
content f =
    whole f (stop_words f) (has_end f) (window_of f) (drawn f Top) (drawn f Front) (drawn f Side) (contact_of (marks_shown f)) (points_shown f)

-- Statements about views of one input. Each is a clause of a law in src/laws.rt.
use Rattle.std.specs.Prelude.{◌≡◌, ℕ, Bool, List}
use Rattle.vcm_spec.specs.Workpiece.{Workpiece, IsValid}
use Rattle.vcm_boxes.specs.declared.boxes.ProbeBox.{ProbeBox}
use Rattle.vcm_boxes.specs.Boxes.{AreBoxes}
use Rattle.vcm_job.specs.Laws.{ViewAnswersAreOne}
use Rattle.vcm_code.specs.declared.code.Code.{Code}
use Rattle.vcm_sheet.specs.Sayings.{Saying, Says}
use Rattle.vcm_views.specs.declared.sheets.Titles.{Titles}
use Rattle.vcm_views.specs.declared.untried.Untried.{Untried}
use Rattle.vcm_views.specs.Views.{IsSheet, trace_view, points_view, margin_view, clearance_view, first_view, picture_view, why_view, contacts_view, values_view}

-- two sheets of one code, in a run of at most as many steps, say the same, with one exit status
abbrev pub SheetsSayOne : Titles → Workpiece → Type 0
SheetsSayOne t part =
    (c : Code) (n : ℕ) (text other : List ℕ) (status more : ℕ) → IsSheet t part c n text status → IsSheet t part c n other more
    → (said : List Saying) × (Says said text × Says said other × (status ≡ more))

-- of two answers of a view to one input, each of which tells something, both tell the same and wrote the same. For a margin and a clearance the workpiece
-- and the boxes are valid, as all are that were read. Of sheets, that they say the same
pub record ViewsAreOne : Type 0 where
  pub traces : (part : Workpiece) → ViewAnswersAreOne trace_view part
  pub points : (part : Workpiece) (is_machine : Bool) → ViewAnswersAreOne (points_view is_machine) part
  pub margins : (part : Workpiece) → IsValid part → ViewAnswersAreOne margin_view part
  pub clearances : (part : Workpiece) (tells_calls : Bool) (names : List (List ℕ)) (untried : List ℕ) (boxes : List ProbeBox) → IsValid part → AreBoxes boxes
      → ViewAnswersAreOne (clearance_view tells_calls names untried boxes) part
  pub firsts : (part : Workpiece) (names : List (List ℕ)) (boxes : List ProbeBox) → ViewAnswersAreOne (first_view names boxes) part
  pub pictures : (part : Workpiece) (is_close : Bool) (untried : Untried) → ViewAnswersAreOne (picture_view is_close untried) part
  pub reasons : (part : Workpiece) (names : List (List ℕ)) → ViewAnswersAreOne (why_view names) part
  pub contacts : (part : Workpiece) (names : List (List ℕ)) → ViewAnswersAreOne (contacts_view names) part
  pub values : (part : Workpiece) (places : List ℕ) → ViewAnswersAreOne (values_view places) part
  pub sheets : (part : Workpiece) (t : Titles) → SheetsSayOne t part

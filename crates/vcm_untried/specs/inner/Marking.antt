-- What is marked while a run is followed.
use Rattle.std.specs.Prelude.{◌≡◌, ◌<◌, List, length, Option}
use Rattle.vcm_remarks.specs.declared.remark.NumberedRemark.{NumberedRemark}
use Rattle.vcm_steps.specs.Passages.{Passage}
use Rattle.vcm_untried.specs.declared.marking.Marking.{Marking}
use Rattle.vcm_untried.specs.Marking.{marks_in, marked_behind}
use Rattle.vcm_untried.specs.inner.Following.{AreWithin, tabled}

-- what a follower marks by, and what it is handed
pub record IsMarking (remarks : List NumberedRemark) (table : List (Option NumberedRemark)) (ps : List Passage) : Type 0 where
  pub table_is : table ≡ tabled remarks (length table)
  pub within : AreWithin (length table) ps

-- these steps were marked, if they may be
abbrev pub HasMarked : List NumberedRemark → List (Option NumberedRemark) → Marking → Marking → List Passage → Type 0
HasMarked remarks table from to ps = IsMarking remarks table ps → marks_in to ≡ marked_behind remarks (marks_in from) ps

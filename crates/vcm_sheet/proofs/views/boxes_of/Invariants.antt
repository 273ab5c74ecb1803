use Rattle.std.proofs.Common.{◌≡◌, ◌++◌, drop}
use Rattle.vcm_sheet.specs.Views.{boxes_of}
use Rattle.vcm_sheet.proofs.views.boxes_of.Given as goal

abbrev pub invariant-loop-shape : goal.invariant-loop-shape
invariant-loop-shape l = record { boxes : l.boxes.items ++ boxes_of (drop l.shape-index l.shapes) ≡ boxes_of l.shapes }

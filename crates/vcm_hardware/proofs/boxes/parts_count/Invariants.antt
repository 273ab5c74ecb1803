use Rattle.std.proofs.Common.{◌≡◌, ◌≤◌, ◌+◌, ◌*◌, drop}
use Rattle.vcm_hardware.specs.Boxes.{parts_count}
use Rattle.vcm_hardware.proofs.boxes.parts_count.Given as goal

abbrev pub invariant-loop-part : goal.invariant-loop-part
invariant-loop-part l = record {
  few : l.count ≤ l.part-index * 12000000000000000000001;
  so_far : l.count + parts_count l.turning l.tip (drop l.part-index l.parts) ≡ parts_count l.turning l.tip l.parts;
}

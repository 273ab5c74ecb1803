use Rattle.std.proofs.Common.{◌≡◌, drop}
use Rattle.vcm_picture.specs.Marks.{contact_of}
use Rattle.vcm_picture.proofs.marks.contact_of.Given as goal

abbrev pub invariant-loop-placed : goal.invariant-loop-placed
invariant-loop-placed l = record {
  contact : contact_of (drop l.placed-index l.marks) ≡ contact_of l.marks;
}

use Rattle.std.proofs.Common.{◌≡◌, ◌++◌, drop}
use Rattle.std.specs.List.{flat_map}
use Rattle.vcm_fields.specs.Spelling.{name}
use Rattle.vcm_image.proofs.writing.names.Given as goal

abbrev pub invariant-loop-it : goal.invariant-loop-it
invariant-loop-it l = record {
  bytes : l.out.items ++ flat_map name (drop l.it-index l.names) ≡ l.fn.out.items ++ flat_map name l.names;
}

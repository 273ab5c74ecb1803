use Rattle.std.proofs.Common.{◌≡◌, [], drop}
use Rattle.vcm_short_names.specs.Short.{names_from}
use Rattle.vcm_short_names.proofs.short.names_from.Given as goal

abbrev pub invariant-loop-long : goal.invariant-loop-long
invariant-loop-long l = record {
  left : names_from l.pieces l.names (drop l.long-index l.longs) ≡ names_from l.pieces [] l.longs;
}

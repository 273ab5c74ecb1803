use Rattle.std.proofs.Common.{◌≡◌, drop}
use Rattle.vcm_short_names.specs.Lengthened.{long_out}
use Rattle.vcm_short_names.proofs.lengthened.long_out.Given as goal

abbrev pub invariant-loop-name : goal.invariant-loop-name
invariant-loop-name l = record { left : long_out l.names l.word ≡ long_out (drop l.name-index l.names) l.word }

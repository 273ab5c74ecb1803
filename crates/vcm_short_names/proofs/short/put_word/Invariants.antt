use Rattle.std.proofs.Common.{◌≡◌, drop}
use Rattle.vcm_short_names.specs.Short.{word_out}
use Rattle.vcm_short_names.proofs.short.put_word.Given as goal

abbrev pub invariant-loop-name : goal.invariant-loop-name
invariant-loop-name l = record {
  left : word_out l.names l.word ≡ word_out (drop l.name-index l.names) l.word;
  kept : l.out ≡ l.initial.out;
}

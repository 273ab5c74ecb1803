use Rattle.std.proofs.Common.{◌≡◌, drop, map}
use Rattle.std.specs.List.{list_any}
use Rattle.std.specs.Str.{bytes_eq}
use Rattle.vcm_probe_set.proofs.tables.is_one_of.Given as goal

abbrev pub invariant-loop-word : goal.invariant-loop-word
invariant-loop-word l = list_any (λ k. bytes_eq k l.key) (map (λ k. k.now) (drop l.word-index l.known)) ≡ list_any (λ k. bytes_eq k l.key) (map (λ k. k.now) l.known)

use Rattle.std.proofs.Common.{◌≡◌, ◌++◌, drop}
use Rattle.std.specs.List.{filter}
use Rattle.vcm_compared.specs.Puts.{is_held, names_of}
use Rattle.vcm_compared.proofs.puts.held_names.Given as goal

abbrev pub invariant-loop-held : goal.invariant-loop-held
invariant-loop-held l = record {
  left : names_of (filter (is_held l.texts) l.all) ≡ l.out ++ names_of (filter (is_held l.texts) (drop l.held-index l.all));
}

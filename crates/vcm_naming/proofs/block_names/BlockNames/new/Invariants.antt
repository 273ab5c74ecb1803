use Rattle.std.proofs.Common.{◌≡◌, ◌++◌, map, drop}
use Rattle.vcm_naming.proofs.block_names.BlockNames.new.Given as goal

abbrev pub invariant-loop-name : goal.invariant-loop-name
invariant-loop-name l = map (λ v. v.items) l.left.items ++ map (λ v. v.items) (drop l.name-index l.names) ≡ map (λ v. v.items) l.names

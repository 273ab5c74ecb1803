use Rattle.std.proofs.Common.{◌≡◌, ◌++◌, map, drop, List, ℕ}
use Rattle.vcm_forms.specs.declared.statement.Target.{Target}
use Rattle.vcm_kept.proofs.late.add_names.Given as goal

-- a name in an expansion
abbrev in_expansion : ℕ → List ℕ → Target
in_expansion e name = record { name = name; expansion = e }

abbrev pub invariant-loop-name : goal.invariant-loop-name
invariant-loop-name l = record {
  left : l.out.items ++ map (in_expansion l.expansion) (drop l.name-index l.names) ≡ l.initial.out.items ++ map (in_expansion l.expansion) l.names;
}

use Rattle.std.proofs.Common.{◌≡◌, ◌++◌}
use Rattle.toml.specs.View.{members_view}
use Rattle.vcm_keys.specs.Unused.{unused_in}
use Rattle.vcm_keys.proofs.unused.put_unused.Given as goal

abbrev pub invariant-loop-key : goal.invariant-loop-key
invariant-loop-key l =
    (goal.iterator-loop-key).can_next l.key-iterator × (goal.iterator-loop-key).is_finite l.key-iterator
    × (l.unused.items ++ unused_in l.block (members_view l.key-iterator) ≡ l.initial.unused.items ++ unused_in l.block (members_view l.table.entries))

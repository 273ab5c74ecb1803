use Rattle.std.proofs.Common.{◌≡◌, map}
use Rattle.toml.specs.View.{members_view}
use Rattle.vcm_boxes.specs.BoxFile.{unknown_key}
use Rattle.vcm_probe_set.proofs.tables.unknown_key.Given as goal

abbrev pub invariant-loop-key : goal.invariant-loop-key
invariant-loop-key l =
    (goal.iterator-loop-key).can_next l.key-iterator × (goal.iterator-loop-key).is_finite l.key-iterator
    × (unknown_key (map (λ k. k.now) l.known) (members_view l.key-iterator) ≡ unknown_key (map (λ k. k.now) l.known) (members_view l.table.entries))

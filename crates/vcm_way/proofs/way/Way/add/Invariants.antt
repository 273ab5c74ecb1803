use Rattle.std.proofs.Common.{◌≡◌, ◌++◌, drop}
use Rattle.vcm_way.specs.Ways.{placed}
use Rattle.vcm_way.proofs.way.Way.add.Given as goal

abbrev pub invariant-loop-mark : goal.invariant-loop-mark
invariant-loop-mark l =
    (l.self-inside.marks.items ++ placed l.place.step l.place.number l.place.line (drop l.mark-index l.marks)
    ≡ l.initial.self-inside.marks.items ++ placed l.place.step l.place.number l.place.line l.marks) × (l.self-inside.left_out ≡ l.initial.self-inside.left_out)

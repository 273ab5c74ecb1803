use Rattle.std.proofs.Common.{drop}
use Rattle.std.specs.Prelude.{ℕ, List, Option, ◌++◌}
use Rattle.json.specs.Value.{items_view}
use Rattle.vcm_dap.specs.Asked.{AskLines}
use Rattle.vcm_dap.proofs.breakpoints.asked_lines.Given as goal

abbrev pub invariant-loop-item : goal.invariant-loop-item
invariant-loop-item g l =
    (rest : List (Option ℕ)) → AskLines l.fn.talk.is_from_0 (items_view (drop l.item-index l.items)) rest
    → AskLines l.fn.talk.is_from_0 (items_view l.items) (l.lines.items ++ rest)

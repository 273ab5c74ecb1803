use Rattle.std.proofs.Common.{◌≡◌, ◌++◌, drop}
use Rattle.json.specs.Value.{items_view}
use Rattle.vcm_dap.specs.Asked.{asked_variables}
use Rattle.vcm_dap.proofs.watching.asked_variables.Given as goal

abbrev pub invariant-loop-item : goal.invariant-loop-item
invariant-loop-item g l = record {
  same : l.session ≡ l.fn.session;
  asked : l.wanted.items ++ asked_variables l.fn.session (items_view (drop l.item-index l.items)) ≡ asked_variables l.fn.session (items_view l.items);
}

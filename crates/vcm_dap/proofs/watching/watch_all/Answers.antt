use Rattle.std.proofs.Common.{refl, ap, ◌∙◌}
use Rattle.vcm_debug.specs.Debugging.{Debugging}
use Rattle.vcm_dap.proofs.Watches.{without_count}
use Rattle.vcm_dap.proofs.watching.watch_all.Goals as goal

pub loop-variable-init : goal.loop-variable-init
loop-variable-init g c = record {
  count = ap (λ (x : Debugging). x.count) c.unwatch_all.ensures ∙ without_count c.args.session.now c.args.session.now.code.tables.variables;
  left = refl;
}

use Rattle.std.proofs.Common.{ap, ◌∙◌}
use Rattle.vcm_debug.specs.Debugging.{Debugging}
use Rattle.vcm_dap.specs.Lines.{cleared, with_place, with_places}
use Rattle.vcm_dap.proofs.Clearing.{place_count}
use Rattle.vcm_dap.proofs.Thinning.{by_lines_count}
use Rattle.vcm_dap.proofs.Folds.{fold_count}
use Rattle.vcm_dap.proofs.breakpoints.replace.Goals as goal

pub returns-clause-same : goal.returns-clause-same
returns-clause-same g c =
    ap (λ (x : Debugging). x.count) c.break_on.ensures ∙ by_lines_count c.is_by_lines-by_lines.result (with_places (cleared c.args.session.now) c.deref-2.result.now)
    ∙ fold_count with_place place_count (cleared c.args.session.now) c.deref-2.result.now

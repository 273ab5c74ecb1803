use Rattle.std.proofs.Common.{◌≡◌, subst, ap, ◌∙◌}
use Rattle.std.specs.Prelude.{option_map, slice_get, Some}
use Rattle.vcm_code.specs.declared.code.Code.{Code}
use Rattle.vcm_debug.specs.Debugging.{Debugging}
use Rattle.vcm_dap.specs.Lines.{named, letting_go}
use Rattle.vcm_dap.proofs.Folds.{fold_next}
use Rattle.vcm_dap.proofs.Watches.{let_go_same}
use Rattle.vcm_dap.proofs.watching.unwatch_all.Goals as goal

pub loop-i-preserved : goal.loop-i-preserved
loop-i-preserved g c =
    let same = let_go_same c.loop-i.session c.named_at-variable.result in
    let e = subst (λ (x : Code). option_map named (slice_get x.tables.variables c.loop-i.i) ≡ Some c.named_at-variable.result) c.loop-i.invariant.code
    c.named_at-variable.ensures in
    record {
      code = ap (λ (x : Debugging). x.code) c.unwatch.ensures ∙ same.0 ∙ c.loop-i.invariant.code;
      count = ap (λ (x : Debugging). x.count) c.unwatch.ensures ∙ same.1 ∙ c.loop-i.invariant.count;
      left = fold_next letting_go named c.loop-i.session c.unwatch.new.session _ c.args.session.now.code.tables.variables c.loop-i.i c.named_at-variable.result e
          c.unwatch.ensures c.loop-i.invariant.left;
    }

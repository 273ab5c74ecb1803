use Rattle.std.proofs.Common.{◌≡◌, ap, sym, ◌∙◌}
use Rattle.std.specs.Prelude.{slice_get, Some}
use Rattle.vcm_code.specs.declared.code.Code.{Code}
use Rattle.vcm_debug.specs.Debugging.{Debugging}
use Rattle.vcm_dap.proofs.Thinning.{thins_more, line_more}
use Rattle.vcm_dap.proofs.breaking.keep_heads.Goals as goal

pub loop-n-preserved : goal.loop-n-preserved
loop-n-preserved g c =
    let d = c.args.session.now in
    let st = c.line-line.ensures.0 in
    let code : c.loaded-in-loop-n.result.now ≡ d.code = c.loaded-in-loop-n.ensures ∙ ap (λ (x : Debugging). x.code) c.loop-n.invariant.thinned in
    let found : slice_get d.code.statements c.loop-n.n ≡ Some st = ap (λ (x : Code). slice_get x.statements c.loop-n.n) (sym code) ∙ c.line-line.ensures.1 in
    record {
      thinned = thins_more d c.loop-n.session c.clear_if.new.session c.loop-n.n c.line-line.result c.loop-n.before st found c.line-line.ensures.2
          c.loop-n.invariant.before c.loop-n.invariant.thinned c.clear_if.ensures;
      before = line_more d c.loop-n.n c.line-line.result st found c.line-line.ensures.2;
    }

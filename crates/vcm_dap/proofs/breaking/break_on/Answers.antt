use Rattle.std.proofs.Common.{ap, ◌∙◌, arith}
use Rattle.vcm_debug.specs.Debugging.{Debugging}
use Rattle.vcm_dap.specs.Lines.{cleared, with_place}
use Rattle.vcm_dap.proofs.Clearing.{place_count}
use Rattle.vcm_dap.proofs.Folds.{fold_count}
use Rattle.vcm_dap.proofs.breaking.break_on.Goals as goal

pub keep_heads-requires : goal.keep_heads-requires
keep_heads-requires g c =
    let same = ap (λ (x : Debugging). x.count) c.break_on_all.ensures ∙ fold_count with_place place_count (cleared c.args.session.now) c.args.places.now in
    omega (arith, same, c.requires)

use Rattle.std.proofs.Common.{◌≡◌, sym, ◌∙◌}
use Rattle.vcm_blocks.proofs.Same.{bounds_eq, workpiece_eq}
use Rattle.vcm_blocks.proofs.adding.is_workpiece.Goals as goal

pub returns-then-eq : goal.returns-then-eq
returns-then-eq c = λ t.
    let bounds : c.bounds.result ≡ c.args.bounds.now = bounds_eq c.bounds.result c.args.bounds.now (sym c.eq.ensures ∙ c.if-eq.true) in
    workpiece_eq c.args.read.now _ _ (sym c.bounds.ensures.bounds ∙ bounds) (sym c.blocks-then-eq.ensures.blocks ∙ c.are_joined.ensures t)

use Rattle.vcm_cover.specs.inner.Regions.{IsWayOut}
use Rattle.vcm_cover.proofs.Ways.{out_aside, through, earlier, whatever}
use Rattle.vcm_cover.proofs.region.leads_out.Goals as goal

pub returns-then-are_aside : goal.returns-then-are_aside
returns-then-are_aside c = λ _ d.
    whatever (IsWayOut c.args.blocks.now) c.args.regions.now c.args.index c.requires.within _ (out_aside c.args.blocks.now _ (c.are_aside.ensures c.if-are_aside.true)) d

pub returns : goal.returns
returns c = λ e d.
    whatever (IsWayOut c.args.blocks.now) c.args.regions.now c.args.index c.requires.within _
    (through c.args.blocks.now _ _ (c.is_clear.ensures e) (c.overlaps.ensures c.if-not-overlaps.false)
    (earlier (IsWayOut c.args.blocks.now) c.args.regions.now _ c.args.index _ c.if-from-index.false c.requires.within c.requires.before)) d

use Rattle.vcm_hardware.proofs.Spans.{slabs_is}
use Rattle.vcm_hardware.proofs.cylinder.slabs_of.Goals as goal

pub returns-clause-value : goal.returns-clause-value
returns-clause-value c =
    slabs_is c.args.seen.now c.main_axis-main.result c.range_on.result c.outward-range.result c.slab_count.result c.side_on.result c.side_on-2.result
    c.side_on-3.result c.main_axis-main.ensures c.range_on.ensures.value c.outward-range.ensures.value c.slab_count.ensures.value c.side_on.ensures.value
    c.side_on-2.ensures.value c.side_on-3.ensures.value

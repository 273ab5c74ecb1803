use Rattle.vcm_mesh.proofs.Facets.{goes_on, ends, is_done}
use Rattle.vcm_mesh.proofs.binary.facets.Goals as goal

pub returns-in-Err : goal.returns-in-Err
returns-in-Err c =
    ends c.args.placing.now c.args.bytes.now c.loop-index.triangles.items c.args.count c.loop-index.index _ c.loop-index.invariant c.loop-index-test.true
    c.of_triangle.result (rw (← c.facet_at.ensures) c.of_triangle.ensures) c.in-Err.refusal c.in-Err.is

pub loop-index-preserved : goal.loop-index-preserved
loop-index-preserved c =
    rw c.in_ok-push-in-Ok.ensures.items
    (goes_on c.args.placing.now c.args.bytes.now c.loop-index.triangles.items c.args.count c.loop-index.index _ c.loop-index.invariant c.loop-index-test.true
    c.of_triangle.result (rw (← c.facet_at.ensures) c.of_triangle.ensures) c.in-Ok.triangle c.in-Ok.is)

pub returns : goal.returns
returns c = is_done c.args.placing.now c.args.bytes.now c.loop-index.triangles.items c.args.count c.loop-index.index _ c.loop-index.invariant c.loop-index-test.false

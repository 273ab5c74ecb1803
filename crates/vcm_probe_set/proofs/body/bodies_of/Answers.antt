use Rattle.std.proofs.Common.{sym, arith}
use Rattle.std.proofs.lemmas.List.{take_rest}
use Rattle.vcm_probe_set.proofs.Bodies.{one_body, is_done, left_are}
use Rattle.vcm_probe_set.proofs.body.bodies_of.Goals as goal

pub add_body-requires-clause-valid : goal.add_body-requires-clause-valid
add_body-requires-clause-valid c =
    rw take_rest (left_are c.args.boxes.now c.loop-place.place c.index-boxes-place.result c.loop-place-test.true (sym c.index-boxes-place.is) c.requires.valid)

pub loop-place-preserved : goal.loop-place-preserved
loop-place-preserved c = record {
  few = omega (arith, c.in_ok-add_body.ensures.few);
  read = one_body c.loop-place.bodies.items c.args.boxes.now c.loop-place.place _ c.loop-place.invariant.read c.index-boxes-place.result c.loop-place-test.true
      (sym c.index-boxes-place.is) c.add_body.new.bodies.items (λ rest. rw take_rest at (c.in_ok-add_body.ensures.body rest));
}

pub returns-clause-bodies : goal.returns-clause-bodies
returns-clause-bodies c = is_done c.loop-place.bodies.items c.args.boxes.now c.loop-place.place _ c.loop-place.invariant.read c.loop-place-test.false

use Rattle.std.proofs.Common.{◌≡◌, ◌+◌, sym, ◌∙◌, ap, arith}
use Rattle.vcm_machine.specs.Running.{started, later}
use Rattle.vcm_debug.specs.inner.Going.{begun}
use Rattle.vcm_debug.proofs.Stepping.{one_more}
use Rattle.vcm_debug.proofs.Backwards.{one_on, found_there}
use Rattle.vcm_debug.proofs.reversing.last_ending.Goals as goal

pub loop-done-preserved : goal.loop-done-preserved
loop-done-preserved g c =
    let m = c.args.machine.now in
    let start = started m.part m.code in
    let n = c.args.low + c.loop-done.done in
    let more : n + 1 ≡ c.args.low + (c.loop-done.done + 1) = omega arith in
    let why =
    found_there c.args.breakpoints.now c.args.watches.now start c.loop-done.machine c.step.new.self n c.reason-why.result c.loop-done.invariant.at c.in-Ok.ensures.ok
    (c.reason-why.ensures c.loop-done.machine (λ t. c.deref.ensures.value ∙ c.note.ensures.noted t ∙ c.values.ensures.are)) in
    record {
      at = c.in-Ok.ensures.ok ∙ ap (λ x. later 1 x) c.loop-done.invariant.at ∙ sym (one_more n start) ∙ ap (begun m) more;
      within = omega (arith, c.loop-done-test.true);
      found =
          c.latest-found.ensures
          ∙ one_on c.args.breakpoints.now c.args.watches.now start c.args.low c.loop-done.done _ c.reason-why.result _ why c.loop-done.invariant.found (omega arith);
      room = c.note.ensures.room ∙ c.loop-done.invariant.room;
    }

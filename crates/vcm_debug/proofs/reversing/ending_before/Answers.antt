use Rattle.std.proofs.Common.{◌≡◌, ◌+◌, ◌<◌, ◌^◌, sym, ap, ◌∙◌, rules, arith}
use Rattle.vcm_debug.specs.Debugging.{after}
use Rattle.vcm_debug.specs.Halting.{ends_after}
use Rattle.vcm_debug.specs.inner.Backwards.{ended}
use Rattle.vcm_debug.proofs.Backwards.{found_in, none_in}
use Rattle.vcm_debug.proofs.reversing.ending_before.Goals as goal

pub returns-in-Some-clause-found : goal.returns-in-Some-clause-found
returns-in-Some-clause-found g c =
    let s = c.in-Ok.stretch in
    let e = c.in-Some.found in
    found_in c.args.breakpoints.now c.args.watches.now (after (g.P.Part.part c.args.part.now) c.args.loaded.now 0) s.low c.loop-high.high (ends_after e.steps e.why)
    c.in-Ok.ensures.low (sym (ap ended c.in-Some.is) ∙ c.in-Ok.ensures.found)
    ∙ sym c.loop-high.invariant.left

pub overflow_add-high : goal.overflow_add-high
overflow_add-high g c =
    let l = c.in-Ok.ensures.low in
    let few = c.loop-high.invariant.few in
    let small : c.in-Ok.stretch.low + 1 < 2 ^ 64 = omega (arith, l, few, c.ranges.count.fits) in
    search rules

pub loop-high-preserved : goal.loop-high-preserved
loop-high-preserved g c =
    let s = c.in-Ok.stretch in
    let l = c.in-Ok.ensures.low in
    let few = c.loop-high.invariant.few in
    record {
      left =
          c.loop-high.invariant.left
          ∙ none_in c.args.breakpoints.now c.args.watches.now (after (g.P.Part.part c.args.part.now) c.args.loaded.now 0) s.low c.loop-high.high l
          (sym (ap ended c.in-None.is) ∙ c.in-Ok.ensures.found);
      few = omega (arith, l, few);
      room = c.stretch_before.ensures.room;
    }

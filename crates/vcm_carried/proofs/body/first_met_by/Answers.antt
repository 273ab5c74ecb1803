use Rattle.std.proofs.Common.{refl, ap, rules}
use Rattle.std.specs.Prelude.{map}
use Rattle.vcm_num.specs.Point.{coordinate}
use Rattle.vcm_spec.specs.Workpiece.{grown}
use Rattle.vcm_spec.specs.FirstContact.{fraction}
use Rattle.vcm_carried.specs.Bodies.{BodyCounts}
use Rattle.vcm_carried.proofs.Bodies.{body_positive, untouched_by, body_within, told_by, none_clear}
use Rattle.vcm_carried.proofs.Searching.{skip_next, add_next, clear_of_all}
use Rattle.vcm_motion.proofs.InOrder.{read_at}
use Rattle.vcm_carried.proofs.body.first_met_by.Goals as goal
use Rattle.vcm_carried.proofs.body.first_met_by.Goals.{in-Some, in_default}

pub returns-in_err-area : goal.returns-in_err-area
returns-in_err-area c =
    let w = c.args.way.now in
    rw c.from_residual.ensures
    (none_clear c.args.blocks.now (fraction w.gone.num w.gone.den) (map (grown c.args.by) c.args.body.now) (coordinate w.from) (coordinate w.to) c.args.with_start
    (ap (map (grown c.args.by)) c.in_err-area.ensures.none))

pub loop-index-preserved-then-not-is_touching : goal.loop-index-preserved-then-not-is_touching
loop-index-preserved-then-not-is_touching c =
    let w = c.args.way.now in
    let gone = fraction w.gone.num w.gone.den in
    let body = map (grown c.args.by) c.args.body.now in
    skip_next c.args.blocks.now (BodyCounts c.args.with_start gone body (coordinate w.from) (coordinate w.to)) c.loop-index.index c.loop-index-test.true
    (untouched_by gone body (read_at c.args.blocks.now c.loop-index.index) c.in_ok-area.area w.from w.to c.is_touching.result c.in_ok-area.ensures.swept
    c.is_touching.ensures (search rules) c.args.with_start)
    c.loop-index.first c.loop-index.invariant

pub loop-index-preserved : goal.loop-index-preserved
loop-index-preserved c =
    let w = c.args.way.now in
    let gone = fraction w.gone.num w.gone.den in
    let body = map (grown c.args.by) c.args.body.now in
    elim c.match-counted_by.branch [
      | in-Some v ↦ rw v.first-is (add_next c.args.blocks.now (BodyCounts c.args.with_start gone body (coordinate w.from) (coordinate w.to)) c.loop-index.index c.loop-index-test.true
          (body_positive gone body (coordinate w.from) (coordinate w.to) c.args.with_start) _ refl v.in-Some.ensures.met c.loop-index.first
          c.loop-index.invariant v.sooner.result v.sooner.ensures)
      | in_default v ↦ rw v.first-is (skip_next c.args.blocks.now (BodyCounts c.args.with_start gone body (coordinate w.from) (coordinate w.to)) c.loop-index.index c.loop-index-test.true
          v.in_default.ensures.missed c.loop-index.first c.loop-index.invariant)
    ]

pub returns-in_err-first : goal.returns-in_err-first
returns-in_err-first c =
    let w = c.args.way.now in
    rw c.from_residual-in_err-first.ensures (clear_of_all c.args.blocks.now
    (BodyCounts c.args.with_start (fraction w.gone.num w.gone.den) (map (grown c.args.by) c.args.body.now) (coordinate w.from) (coordinate w.to))
    c.loop-index.index c.loop-index-test.false (rw c.in_err-first.was at c.loop-index.invariant))

pub contact-requires-clause-within : goal.contact-requires-clause-within
contact-requires-clause-within c =
    let w = c.args.way.now in
    body_within c.args.blocks.now (fraction w.gone.num w.gone.den) (map (grown c.args.by) c.args.body.now) (coordinate w.from) (coordinate w.to) c.args.with_start
    c.loop-index.index c.in_ok-first.field-0 (rw c.in_ok-first.was at c.loop-index.invariant)

pub returns : goal.returns
returns c =
    let w = c.args.way.now in
    told_by c.args.blocks.now (fraction w.gone.num w.gone.den) (map (grown c.args.by) c.args.body.now) (coordinate w.from) (coordinate w.to) c.args.with_start
    c.loop-index.index c.in_ok-first.field-0
    (rw c.in_ok-first.was at c.loop-index.invariant) c.loop-index-test.false c.contact.result c.contact.ensures.block c.contact.ensures.permille c.contact.ensures.at

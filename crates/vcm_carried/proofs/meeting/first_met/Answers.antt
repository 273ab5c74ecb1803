use Rattle.std.proofs.Common.{refl, rules}
use Rattle.vcm_num.specs.Point.{coordinate}
use Rattle.vcm_spec.specs.FirstContact.{fraction}
use Rattle.vcm_carried.specs.Carried.{Counts}
use Rattle.vcm_carried.proofs.Contacts.{positive}
use Rattle.vcm_carried.proofs.Counting.{untouched, counts_within, told_of}
use Rattle.vcm_carried.proofs.Searching.{skip_next, add_next, clear_of_all}
use Rattle.vcm_motion.proofs.InOrder.{read_at}
use Rattle.vcm_carried.proofs.meeting.first_met.Goals as goal
use Rattle.vcm_carried.proofs.meeting.first_met.Goals.{in-Some, in_default}

pub loop-index-preserved-then-not-is_touching : goal.loop-index-preserved-then-not-is_touching
loop-index-preserved-then-not-is_touching c =
    let w = c.args.way.now in
    let gone = fraction w.gone.num w.gone.den in
    skip_next c.args.blocks.now (Counts c.args.with_start gone c.args.carried.now (coordinate w.from) (coordinate w.to)) c.loop-index.index c.loop-index-test.true
    (untouched gone c.args.carried.now (read_at c.args.blocks.now c.loop-index.index) c.swept-area.result w.from w.to c.is_touching.result c.swept-area.ensures
    c.is_touching.ensures (search rules) c.args.with_start)
    c.loop-index.first c.loop-index.invariant

pub loop-index-preserved : goal.loop-index-preserved
loop-index-preserved c =
    let w = c.args.way.now in
    let gone = fraction w.gone.num w.gone.den in
    elim c.match-counted.branch [
      | in-Some v ↦ rw v.first-is (add_next c.args.blocks.now (Counts c.args.with_start gone c.args.carried.now (coordinate w.from) (coordinate w.to)) c.loop-index.index c.loop-index-test.true
          (positive c.args.with_start gone c.args.carried.now (coordinate w.from) (coordinate w.to)) _ refl v.in-Some.ensures.met c.loop-index.first
          c.loop-index.invariant v.sooner.result v.sooner.ensures)
      | in_default v ↦ rw v.first-is (skip_next c.args.blocks.now (Counts c.args.with_start gone c.args.carried.now (coordinate w.from) (coordinate w.to)) c.loop-index.index c.loop-index-test.true
          v.in_default.ensures.missed c.loop-index.first c.loop-index.invariant)
    ]

pub returns-in_err-first : goal.returns-in_err-first
returns-in_err-first c =
    let w = c.args.way.now in
    rw c.from_residual.ensures (clear_of_all c.args.blocks.now (Counts c.args.with_start (fraction w.gone.num w.gone.den) c.args.carried.now (coordinate w.from) (coordinate w.to))
    c.loop-index.index c.loop-index-test.false (rw c.in_err-first.was at c.loop-index.invariant))

pub contact-requires-clause-within : goal.contact-requires-clause-within
contact-requires-clause-within c =
    let w = c.args.way.now in
    counts_within c.args.blocks.now (fraction w.gone.num w.gone.den) c.args.carried.now (coordinate w.from) (coordinate w.to) c.args.with_start c.loop-index.index c.in_ok-first.field-0
    (rw c.in_ok-first.was at c.loop-index.invariant)

pub returns : goal.returns
returns c =
    let w = c.args.way.now in
    told_of c.args.blocks.now (fraction w.gone.num w.gone.den) c.args.carried.now (coordinate w.from) (coordinate w.to) c.args.with_start c.loop-index.index c.in_ok-first.field-0
    (rw c.in_ok-first.was at c.loop-index.invariant) c.loop-index-test.false c.contact.result c.contact.ensures.block c.contact.ensures.permille c.contact.ensures.at

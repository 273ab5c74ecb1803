use Rattle.std.proofs.Common.{◌≡◌, ◌+◌, true, false, None}
use Rattle.std.proofs.lemmas.Result.{err_from_is_err_and}
use Rattle.vcm_num.specs.Axis.{opposite}
use Rattle.vcm_num.specs.Point.{coordinate}
use Rattle.vcm_spec.specs.Workpiece.{is_within}
use Rattle.vcm_spec.specs.Touch.{centre_of, past}
use Rattle.vcm_motion.specs.Faces.{IsFace, IsFirstFace}
use Rattle.vcm_spec.specs.declared.words.MovePhase.TheVariants.{Approach}
use Rattle.vcm_spec.proofs.Resting.{free_rests}
use Rattle.vcm_probe.specs.inner.Retreats.{retreat}
use Rattle.vcm_probe.proofs.Descent.{stopped, too_deep, missed, touched, touch_is_near, end_back, off, not_in_some, answers_too}
use Rattle.vcm_probe.proofs.Nearness.{within_is_near}
use Rattle.vcm_probe.proofs.touching.touch.Goals as goal

pub returns-in_err-approach_freely-clause-answer : goal.returns-in_err-approach_freely-clause-answer
returns-in_err-approach_freely-clause-answer g c =
    let p = err_from_is_err_and c.from_residual.result c.from_residual.ensures.1 in
    rw (p.1, p.2) (stopped (g.P.Part.part c.args.part.now) c.args.settings (coordinate c.args.from) (coordinate c.args.nominal) c.args.toward c.in-Some.aims.approach c.in-Some.aims.end
    c.in-Some.ensures.some _ c.in_err-approach_freely.ensures.answer)

pub returns-then-not-is_within-clause-answer : goal.returns-then-not-is_within-clause-answer
returns-then-not-is_within-clause-answer g c =
    let beyond : is_within (g.P.Part.part c.args.part.now).bounds (coordinate c.in-Some.aims.end) ≡ false = cc (c.bounds-bounds.ensures, c.is_within.ensures, c.if-not-is_within.true) in
    too_deep (g.P.Part.part c.args.part.now) c.args.settings (coordinate c.args.from) (coordinate c.args.nominal) c.args.toward c.in-Some.aims.approach c.in-Some.aims.end c.in-Some.ensures.some _
    c.in_ok-approach_freely.ensures.answer beyond

pub returns-in_default-first_face-clause-answer : goal.returns-in_default-first_face-clause-answer
returns-in_default-first_face-clause-answer g c =
    let within : is_within (g.P.Part.part c.args.part.now).bounds (coordinate c.in-Some.aims.end) ≡ true = cc (c.bounds-bounds.ensures, c.is_within.ensures, c.if-not-is_within.false) in
    let none : IsFirstFace (g.P.Part.part c.args.part.now).bounds.tip (g.P.Part.part c.args.part.now).blocks (coordinate c.in-Some.aims.approach)
    (opposite c.args.toward) (c.args.settings.approach + past c.args.settings) None =
    rw (c.opposite-back.ensures, c.descent-length.ensures) at c.in_default-first_face.ensures in
    missed (g.P.Part.part c.args.part.now) c.args.settings (coordinate c.args.from) (coordinate c.args.nominal) c.args.toward c.in-Some.aims.approach c.in-Some.aims.end c.in-Some.ensures.some _
    c.in_ok-approach_freely.ensures.answer within none

pub retreat-requires-clause-start : goal.retreat-requires-clause-start
retreat-requires-clause-start g c =
    let within : is_within (g.P.Part.part c.args.part.now).bounds (coordinate c.in-Some.aims.end) ≡ true = cc (c.bounds-bounds.ensures, c.is_within.ensures, c.if-not-is_within.false) in
    let is : IsFace (g.P.Part.part c.args.part.now).bounds.tip (g.P.Part.part c.args.part.now).blocks (coordinate c.in-Some.aims.approach)
    (opposite c.args.toward) (c.args.settings.approach + past c.args.settings) c.in-Some-first_face.face =
    rw (c.opposite-back.ensures, c.descent-length.ensures) at c.in-Some-first_face.ensures in
    touch_is_near c.in-Some.aims.approach c.in-Some.aims.end c.moved-centre.result (opposite c.args.toward) _ (c.args.settings.approach + past c.args.settings) is.within
    c.in_ok-approach_freely.ensures.near (within_is_near (g.P.Part.part c.args.part.now) (g.met.P.Part.valid c.args.part.now) c.in-Some.aims.end within)
    (end_back c.args.settings (centre_of (g.P.Part.part c.args.part.now) (coordinate c.args.nominal) c.args.toward) c.args.toward c.in-Some.aims.approach c.in-Some.aims.end c.in-Some.ensures.some)
    (rw c.opposite-back.ensures at c.moved-centre.ensures)

pub retreat-requires-clause-free : goal.retreat-requires-clause-free
retreat-requires-clause-free g c =
    let is : IsFace (g.P.Part.part c.args.part.now).bounds.tip (g.P.Part.part c.args.part.now).blocks (coordinate c.in-Some.aims.approach)
    (opposite c.args.toward) (c.args.settings.approach + past c.args.settings) c.in-Some-first_face.face =
    rw (c.opposite-back.ensures, c.descent-length.ensures) at c.in-Some-first_face.ensures in
    off (g.P.Part.part c.args.part.now) (coordinate c.in-Some.aims.approach) c.args.toward (c.args.settings.approach + past c.args.settings) c.in-Some-first_face.face is c.moved-centre.result
    (rw c.opposite-back.ensures at c.moved-centre.ensures)
    (not_in_some _ (free_rests Approach (g.P.Part.part c.args.part.now) (g.met.P.Part.valid c.args.part.now) (coordinate c.args.from)
    (coordinate c.in-Some.aims.approach) _ c.in_ok-approach_freely.ensures.answer).clear)

pub returns-clause-answer : goal.returns-clause-answer
returns-clause-answer g c =
    let within : is_within (g.P.Part.part c.args.part.now).bounds (coordinate c.in-Some.aims.end) ≡ true = cc (c.bounds-bounds.ensures, c.is_within.ensures, c.if-not-is_within.false) in
    let is : IsFace (g.P.Part.part c.args.part.now).bounds.tip (g.P.Part.part c.args.part.now).blocks (coordinate c.in-Some.aims.approach)
    (opposite c.args.toward) (c.args.settings.approach + past c.args.settings) c.in-Some-first_face.face =
    rw (c.opposite-back.ensures, c.descent-length.ensures) at c.in-Some-first_face.ensures in
    let e = touched (g.P.Part.part c.args.part.now) c.args.settings (coordinate c.args.from) (coordinate c.args.nominal) c.args.toward c.in-Some.aims.approach
    c.in-Some.aims.end c.in-Some.ensures.some _
    c.in_ok-approach_freely.ensures.answer within c.in-Some-first_face.face is c.moved-centre.result (rw c.opposite-back.ensures at c.moved-centre.ensures) in
    answers_too _ (retreat (g.P.Part.part c.args.part.now) c.moved-centre.result c.args.toward c.args.settings.retract) c.retreat.result e (rw c.retract.ensures.value at c.retreat.ensures.answer)

use Rattle.std.proofs.Common.{refl, ◌+◌, ◌-◌, None}
use Rattle.vcm_num.specs.Axis.{along}
use Rattle.vcm_num.specs.Point.{coordinate}
use Rattle.vcm_spec.specs.Outcome.{point_of}
use Rattle.vcm_motion.specs.Faces.{IsFace, IsFirstFace}
use Rattle.vcm_probe.proofs.Nearness.{next_is_near}
use Rattle.vcm_probe.proofs.WayBack.{later_is, back_clear, back_hit, face_at, permille_of}
use Rattle.vcm_probe.proofs.retreat.retract_hit.Goals as goal

pub first_face-requires : goal.first_face-requires
first_face-requires g c = rw c.moved-next.ensures (next_is_near c.args.at c.args.toward c.args.length c.requires.least c.requires.start c.requires.end)

pub returns-in_err-face : goal.returns-in_err-face
returns-in_err-face g c =
    let none : IsFirstFace (g.P.Part.part c.args.part.now).bounds.tip (g.P.Part.part c.args.part.now).blocks
    (coordinate (point_of (along (coordinate c.args.at) c.args.toward 1))) c.args.toward (c.args.length - 1) None =
    rw c.moved-next.ensures at c.in_err-face.ensures in
    rw c.from_residual.ensures (later_is (g.P.Part.part c.args.part.now) (g.met.P.Part.valid c.args.part.now) (coordinate c.args.at) c.args.toward c.args.length c.requires.least c.requires.free None
    (back_clear (g.P.Part.part c.args.part.now) (g.met.P.Part.valid c.args.part.now) (coordinate c.args.at) c.args.toward c.args.length c.requires.least c.requires.free none))

pub returns : goal.returns
returns g c =
    let is : IsFace (g.P.Part.part c.args.part.now).bounds.tip (g.P.Part.part c.args.part.now).blocks
    (coordinate (point_of (along (coordinate c.args.at) c.args.toward 1))) c.args.toward (c.args.length - 1) c.in_ok-face.face =
    rw c.moved-next.ensures at c.in_ok-face.ensures in
    later_is (g.P.Part.part c.args.part.now) (g.met.P.Part.valid c.args.part.now) (coordinate c.args.at) c.args.toward c.args.length c.requires.least c.requires.free _
    (back_hit (g.P.Part.part c.args.part.now) (g.met.P.Part.valid c.args.part.now) (coordinate c.args.at) c.args.toward c.args.length c.requires.least c.requires.free c.in_ok-face.face
    (face_at (g.P.Part.part c.args.part.now).bounds.tip (g.P.Part.part c.args.part.now).blocks (along (coordinate c.args.at) c.args.toward 1) c.args.toward
    (c.args.length - 1) c.in_ok-face.face is) _ refl
    (permille_of (c.in_ok-face.face.distance + 1) c.args.length c.requires.least))

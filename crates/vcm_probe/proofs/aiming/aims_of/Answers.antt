use Rattle.std.proofs.Common.{refl}
use Rattle.vcm_num.specs.Point.{coordinate}
use Rattle.vcm_spec.specs.Touch.{centre_of}
use Rattle.vcm_probe.proofs.Descent.{up_to, down_to, aimed, too_high, too_low}
use Rattle.vcm_probe.proofs.aiming.aims_of.Goals as goal

pub returns-in_err-approach-clause-none : goal.returns-in_err-approach-clause-none
returns-in_err-approach-clause-none g c =
    rw c.from_residual.ensures (λ from. too_high (g.P.Part.part c.args.part.now) c.args.settings from (coordinate c.args.nominal) c.args.toward
    (up_to (g.P.Part.part c.args.part.now) c.args.settings (coordinate c.args.nominal) c.args.toward _ _ (rw (c.bounds.ensures, c.approach.ensures.value) refl) c.in_err-approach.ensures))

pub returns-in_err-end-clause-none : goal.returns-in_err-end-clause-none
returns-in_err-end-clause-none g c =
    let up = up_to (g.P.Part.part c.args.part.now) c.args.settings (coordinate c.args.nominal) c.args.toward _ _ (rw (c.bounds.ensures, c.approach.ensures.value) refl) c.in_ok-approach.ensures in
    rw c.from_residual-in_err-end.ensures (λ from. too_low (g.P.Part.part c.args.part.now) c.args.settings from (coordinate c.args.nominal) c.args.toward c.in_ok-approach.approach up
    (down_to c.args.settings (centre_of (g.P.Part.part c.args.part.now) (coordinate c.args.nominal) c.args.toward) c.args.toward _ _ c.in_ok-approach.approach _
    up c.opposite.ensures c.descent.ensures c.in_err-end.ensures))

pub returns-clause-some : goal.returns-clause-some
returns-clause-some g c =
    let up = up_to (g.P.Part.part c.args.part.now) c.args.settings (coordinate c.args.nominal) c.args.toward _ _ (rw (c.bounds.ensures, c.approach.ensures.value) refl) c.in_ok-approach.ensures in
    aimed c.args.settings (centre_of (g.P.Part.part c.args.part.now) (coordinate c.args.nominal) c.args.toward) c.args.toward c.in_ok-approach.approach c.in_ok-end.end up
    (down_to c.args.settings (centre_of (g.P.Part.part c.args.part.now) (coordinate c.args.nominal) c.args.toward) c.args.toward _ _ c.in_ok-approach.approach _
    up c.opposite.ensures c.descent.ensures c.in_ok-end.ensures)

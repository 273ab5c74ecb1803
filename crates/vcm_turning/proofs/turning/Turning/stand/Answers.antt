use Rattle.std.proofs.Common.{◌≡◌, true, ap, ◌∙◌, sym, subst}
use Rattle.vcm_num.specs.Point.{coordinate}
use Rattle.vcm_spec.specs.Workpiece.{is_within}
use Rattle.vcm_turning.specs.Choosing.{probe_on}
use Rattle.vcm_turning.specs.Machine.{HangsNear}
use Rattle.vcm_turning.proofs.Hanging.{near_within, hangs_placed}
use Rattle.vcm_turning.proofs.turning.Turning.stand.Goals as goal

pub put-requires : goal.put-requires
put-requires g c =
    let m = c.self.inside in
    let i = c.self.invariant in
    near_within m.blocks.now i.3 c.args.at (rw (← c.self.view_is) at c.requires)

pub invariant_of-self : goal.invariant_of-self
invariant_of-self g c =
    let m = c.self.inside in
    let i = c.self.invariant in
    let within : is_within m.blocks.now.bounds (coordinate c.args.at) ≡ true = rw (← c.self.view_is) at c.requires in (
      i.0,
      i.1,
      i.2,
      i.3,
      ap (λ x. x.tables) c.put.ensures ∙ i.4,
      i.5,
      i.6,
      i.7,
      i.8,
      i.9,
      subst (λ p. HangsNear (probe_on m.set.now.probes m.on) p) (sym (ap (λ x. x.state.position) c.put.ensures)) (hangs_placed m.blocks.now m.set.now.probes m.on i.3 i.9 c.args.at within),
    )

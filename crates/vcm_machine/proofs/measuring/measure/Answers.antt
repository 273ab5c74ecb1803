use Rattle.std.proofs.Common.{ℕ, List, ap, refl, sym, ◌∙◌, subst, rules, FitsSigned, w64, to_z-of_z}
use Rattle.std.proofs.lemmas.Result.{err_from_is_err_and}
use Rattle.std.specs.Int.{w16}
use Rattle.vcm_spec.specs.Setup.{setup_of}
use Rattle.vcm_state.specs.Carried.{Carried}
use Rattle.vcm_fields.specs.Readers.{both, variable_at, three_at, direction_at}
use Rattle.vcm_fields.proofs.Taking.{never_fails, gives_it, number_there, both_are}
use Rattle.vcm_machine.proofs.Effects.{ptmeas_stops, ptmeas_goes}
use Rattle.vcm_machine.proofs.Reading.{known_first}
use Rattle.vcm_machine.proofs.measuring.measure.Goals as goal

pub known_short-feature-requires : goal.known_short-feature-requires
known_short-feature-requires g c = number_there w16 _ _ (both_are variable_at (both three_at direction_at) _ _ _ c.requires.2).1

pub three_lengths-requires : goal.three_lengths-requires
three_lengths-requires g c =
    let r = (known_first variable_at (both three_at direction_at) _ _ _ _ c.known_short-feature.ensures c.requires.2).1 in
    let t = both_are three_at direction_at _ _ _ r in
    (c.requires.0.1.0, t.0, t.1, c.requires.3.1)

pub known-toward-requires : goal.known-toward-requires
known-toward-requires g c =
    let r = (known_first variable_at (both three_at direction_at) _ _ _ _ c.known_short-feature.ensures c.requires.2).1 in
    let t = both_are three_at direction_at _ _ _ r in
    never_fails _ _ _ _ c.direction.ensures (ap direction_at (c.in_ok-nominal.ensures.lengths _ _ t.1).1 ∙ t.2)

pub returns-in_err-nominal-clause-carried : goal.returns-in_err-nominal-clause-carried
returns-in_err-nominal-clause-carried g c =
    let p = err_from_is_err_and c.from_residual.result c.from_residual.ensures.1 in
    rw (p.1, p.2) (λ o rest h.
    let r = known_first variable_at (both three_at direction_at) _ o rest _ c.known_short-feature.ensures h in
    let t = both_are three_at direction_at _ o.1 rest r.1 in (
      ptmeas_stops (setup_of (g.P.Part.part c.args.part.now) c.args.world.now.tables) c.args.world.now.state o.1.0.0 o.1.0.1.0 o.1.0.1.1 o.0 o.1.1 _
          (c.in_err-nominal.ensures.fault o.1.0 t.0 t.1),
      refl,
    ))

pub returns-clause-carried : goal.returns-clause-carried
returns-clause-carried g c o rest h =
    let r = known_first variable_at (both three_at direction_at) _ o rest _ c.known_short-feature.ensures h in
    let t = both_are three_at direction_at _ o.1 rest r.1 in
    let lengths = c.in_ok-nominal.ensures.lengths o.1.0 t.0 t.1 in
    let toward = ap (λ (q : _ × List ℕ). q.0) (gives_it _ _ _ _ _ c.direction.ensures (ap direction_at lengths.1 ∙ t.2) c.known-toward.ensures) in
    let all = ptmeas_goes (setup_of (g.P.Part.part c.args.part.now) c.args.world.now.tables) c.args.world.now.state o.1.0.0 o.1.0.1.0 o.1.0.1.1 o.0 o.1.1 _ lengths.0 in
    let fx : FitsSigned w64 c.in_ok-nominal.nominal.x = search rules in
    let fy : FitsSigned w64 c.in_ok-nominal.nominal.y = search rules in
    let fz : FitsSigned w64 c.in_ok-nominal.nominal.z = search rules in
    subst (λ o. Carried o c.args.world.now.state c.ptmeas.new.self.state c.ptmeas.result) (sym all)
    (rw (to_z-of_z fx, to_z-of_z fy, to_z-of_z fz, r.0, toward) at c.ptmeas.ensures.0)

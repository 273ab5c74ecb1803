use Rattle.std.proofs.Common.{◌≡◌, ◌∙◌, ap, sym, subst, refl, Some}
use Rattle.std.specs.Prelude.{slice_get, option_map, length, IfSome}
use Rattle.std.proofs.lemmas.Option.{slice_get_read}
use Rattle.vcm_code.specs.CodeTable.{code_state}
use Rattle.vcm_probe_set.specs.Probes.{IsProbe}
use Rattle.vcm_turning.specs.Machine.{HangsNear}
use Rattle.vcm_turning.proofs.Taken.{put_there}
use Rattle.vcm_turning.proofs.turning.Turning.turn.Goals as goal

pub invariant_of-self : goal.invariant_of-self
invariant_of-self g c =
    let m = c.self.inside in
    let i = c.self.invariant in
    let is = c.probes-probes.ensures.probes in
    let ps = c.probes-probes.result.now in
    let place = c.in-Some.place in
    let new = c.index-probes-place.result in
    let here : slice_get m.set.now.probes place ≡ Some new =
    subst (λ l. slice_get l place ≡ Some new) is (slice_get_read ps (length ps) place new refl c.in-Some.ensures.there c.index-probes-place.is) in (
      i.0,
      i.1,
      i.2,
      i.3,
      ap (λ x. x.tables) c.put.ensures ∙ i.4,
      i.5,
      i.6,
      i.7,
      rw is at c.in-Some.ensures.there,
      subst (λ o. IfSome o IsProbe) (sym here) c.place_with-at.ensures.valid,
      subst (λ p. HangsNear (slice_get m.set.now.probes place) p) (sym (ap (λ x. x.state.position) c.put.ensures))
          (subst (λ o. HangsNear o c.place_with-at.result) (sym here) c.place_with-at.ensures.hangs),
    )

pub returns-in-Some-clause-behind : goal.returns-in-Some-clause-behind
returns-in-Some-clause-behind g c =
    let m = c.self.inside in
    let ps = c.probes-probes.result.now in
    let new = c.index-probes-place.result in
    rw (← c.self.view_is)
    (put_there
    (record { part = m.blocks.now; probes = m.set.now.probes; variable = m.variable; code = m.loaded.now; state = code_state m.world.state m.next m.pairs; on = m.on })
    c.in-Some.place new c.put.new.self.state c.place_with-at.result c.near_position-stood.result (option_map (λ p. p.now) c.probe_on.result) ps
    (ap (λ x. x.state) c.put.ensures) c.place_with-at.ensures.place c.near_position-stood.ensures.is c.probe_on.ensures c.probes-probes.ensures.probes
    (slice_get_read ps (length ps) c.in-Some.place new refl c.in-Some.ensures.there c.index-probes-place.is))

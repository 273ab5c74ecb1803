use Rattle.std.proofs.Common.{[], refl, sym, ap, subst, ◌∙◌}
use Rattle.vcm_turning.specs.Turning.{Turned}
use Rattle.vcm_set_clearance.specs.Events.{AreEvents}
use Rattle.vcm_set_clearance.proofs.gathering.run_with_probes.Goals as goal

pub follow_turns-requires-clause-fits : goal.follow_turns-requires-clause-fits
follow_turns-requires-clause-fits g c =
    rw (c.probes.ensures.probes, c.in_ok-machine.ensures) (c.requires.each, c.requires.ties, refl, refl, c.known_valid.ensures.valid)

pub returns : goal.returns
returns g c = record {
  events = rw (c.probes.ensures.probes, c.in_ok-machine.ensures, c.new-2.ensures) at c.in_ok-ran.ensures.has.1 [] (subst (λ es. AreEvents es []) (sym c.new-2.ensures.items) tt);
  ended = rw c.in_ok-machine.ensures at c.in_ok-ran.ensures.run.ended;
  stop = c.stop.ensures ∙ ap (λ w. w.stop) c.world.ensures.state ∙ ap (λ (t : Turned). t.state.world.stop) (rw c.in_ok-machine.ensures at c.in_ok-ran.ensures.run.reached);
}

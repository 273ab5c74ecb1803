use Rattle.std.proofs.Common.{sym, ap, ◌∙◌}
use Rattle.vcm_state.proofs.Places.{within_is_near}
use Rattle.vcm_code.proofs.CodeNeverStuck.{some_first}
use Rattle.vcm_machine.proofs.Codes.{runnable}
use Rattle.vcm_machine.proofs.RestsAlong.{opened_rests}
use Rattle.vcm_machine.proofs.StepLemmas.{at_start}
use Rattle.vcm_machine.proofs.machine.Machine.new.Goals as goal

pub opening-requires : goal.opening-requires
opening-requires g c =
    let valid = g.met.P.Part.valid c.args.part.now in
    rw c.bounds.ensures (within_is_near (g.P.Part.part c.args.part.now) valid (g.P.Part.part c.args.part.now).bounds.home valid.home)

pub invariant_of-result : goal.invariant_of-result
invariant_of-result g c =
    let part = g.P.Part.part c.args.part.now in
    let valid = g.met.P.Part.valid c.args.part.now in
    let known = c.known_valid.ensures in (
      c.in_ok-world.ensures.tables ∙ c.in_ok-tables.ensures,
      runnable c.args.loaded.now known.fits known.valid,
      some_first c.args.loaded.now.statements (known.valid).ends,
      opened_rests part c.in_ok-tables.tables c.in_ok-world.world.state valid (c.in_ok-world.ensures.state part (ap (λ b. b.home) (sym c.bounds.ensures))),
    )

pub returns : goal.returns
returns g c =
    let part = g.P.Part.part c.args.part.now in
    at_start part c.args.loaded.now c.in_ok-world.world c.in_ok-tables.tables c.in_ok-tables.ensures (c.in_ok-world.ensures.state part (ap (λ b. b.home) (sym c.bounds.ensures)))

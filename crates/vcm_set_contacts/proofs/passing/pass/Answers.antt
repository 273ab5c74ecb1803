use Rattle.std.proofs.Common.{◌≡◌, subst}
use Rattle.vcm_code.specs.Code.{CodeStatement}
use Rattle.vcm_spec.specs.declared.stop.Stop.TheVariants.{Collision}
use Rattle.vcm_machine.proofs.Codes.{same_at}
use Rattle.vcm_turning.specs.Machine.{StandsAt}
use Rattle.vcm_set_contacts.specs.inner.Standing.{IsStopping}
use Rattle.vcm_set_contacts.proofs.Stopping.{stands_there, fits_there, ends_there}
use Rattle.vcm_set_contacts.proofs.passing.pass.Goals as goal

pub lead-way-requires-clause-fits : goal.lead-way-requires-clause-fits
lead-way-requires-clause-fits g c =
    let m = c.args.machine.now in
    let s = c.statement-statement.result in
    fits_there m c.args.loaded.now c.world-2.result.now.tables s c.known_valid.ensures.valid c.requires.code c.world-2.ensures.tables
    (stands_there m c.args.loaded.now c.next-number.result s c.requires.code c.next-number.ensures.is c.statement-statement.ensures)

pub lead-way-requires-clause-ends : goal.lead-way-requires-clause-ends
lead-way-requires-clause-ends g c =
    let m = c.args.machine.now in
    let s = c.statement-statement.result in
    let stands : StandsAt m s = stands_there m c.args.loaded.now c.next-number.result s c.requires.code c.next-number.ensures.is c.statement-statement.ensures in
    let there = c.requires.stops in
    let same : there.0 ≡ s = same_at m.code.statements m.state.next there.0 s there.1.stands stands in
    let why = Collision c.args.phase c.args.hit in
    ends_there m s c.requires.running stands why (subst (λ (x : CodeStatement). IsStopping m why x) same there.1) c.blocks-2.result.now c.world-2.result.now.state
    c.blocks-2.ensures c.world-2.ensures.state

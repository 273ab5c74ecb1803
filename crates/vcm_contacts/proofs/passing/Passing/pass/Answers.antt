use Rattle.std.proofs.Common.{ap, ◌∙◌}
use Rattle.vcm_code.proofs.CodeNeverStuck.{one_behind}
use Rattle.vcm_machine.proofs.StepLemmas.{fits}
use Rattle.vcm_contacts.proofs.passing.Passing.pass.Goals as goal

pub lead-requires-clause-fits : goal.lead-requires-clause-fits
lead-requires-clause-fits g c =
    let m = c.self.inside in
    let i = c.self.invariant in
    fits m.blocks.now m.loaded.now m.world m.next m.pairs i.1 i.2 c.statement-statement.result c.statement-statement.ensures

pub invariant_of-self : goal.invariant_of-self
invariant_of-self g c =
    let m = c.self.inside in
    let i = c.self.invariant in
    let s = c.statement-statement in
    (i.0, ap (λ h. h.tables) c.put.ensures ∙ i.1, i.2, one_behind m.loaded.now.statements m.next s.result (i.2.valid).ends s.ensures c.in-On.ensures.sound.1)

pub invariant_of-self-in-Back : goal.invariant_of-self-in-Back
invariant_of-self-in-Back g c =
    let m = c.self.inside in
    let i = c.self.invariant in
    let s = c.statement-statement in (
      i.0,
      ap (λ h. h.tables) c.set_actual.ensures ∙ ap (λ h. h.tables) c.put-in-Back.ensures ∙ i.1,
      i.2,
      one_behind m.loaded.now.statements m.next s.result (i.2.valid).ends s.ensures c.in-Back.ensures.sound.1.1,
    )

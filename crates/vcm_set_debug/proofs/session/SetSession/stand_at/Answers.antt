use Rattle.std.proofs.Common.{sym, ap, ◌∙◌}
use Rattle.vcm_set_debug.specs.Session.{TurnedDebugging}
use Rattle.vcm_set_debug.proofs.Rooms.{kept_room}
use Rattle.vcm_set_debug.proofs.session.SetSession.stand_at.Goals as goal

pub invariant_of-self : goal.invariant_of-self
invariant_of-self g c =
    let i = c.self.inside in
    kept_room i.course c.args.course i.breakpoints.items i.watches.items i.before.items i.before.items c.self.invariant (c.requires ∙ sym (ap (λ d. d.run.code) c.self.view_is))
    c.self.invariant.room

pub returns : goal.returns
returns g c =
    let with_course : TurnedDebugging → TurnedDebugging = λ d. record d { run = c.args.course } in
    ap with_course c.self.view_is

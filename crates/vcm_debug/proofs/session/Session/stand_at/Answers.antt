use Rattle.std.proofs.Common.{◌≡◌, sym, ap, subst}
use Rattle.vcm_debug.specs.Debugging.{after}
use Rattle.vcm_debug.specs.Session.{at_count}
use Rattle.vcm_debug.proofs.Sessions.{moved_to}
use Rattle.vcm_debug.proofs.session.Session.stand_at.Goals as goal

pub invariant_of-self : goal.invariant_of-self
invariant_of-self g c =
    let i = c.self.inside in (
      moved_to (g.P.Part.part i.part.now) i.loaded.now i.machine c.args.machine i.count c.args.count i.breakpoints.items i.watches.items i.before.items c.self.invariant.0
          (subst (λ d. c.args.machine ≡ after d.part d.code c.args.count) (sym c.self.view_is) c.requires),
      c.self.invariant.1,
    )

pub returns : goal.returns
returns g c = ap (λ d. at_count d c.args.count) c.self.view_is

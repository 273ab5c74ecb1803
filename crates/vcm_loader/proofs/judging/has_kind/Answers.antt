use Rattle.vcm_loader.proofs.Kinded.{same_kind, no_kind}
use Rattle.vcm_loader.proofs.judging.has_kind.Goals as goal

pub returns-in-Some : goal.returns-in-Some
returns-in-Some g c = same_kind c.args.kinds.now (g.E.Typed.items c.args.items.now) c.in-Some.kind c.args.want c.is_same_kind.result c.in-Some.ensures.some c.is_same_kind.ensures

pub returns-in-None : goal.returns-in-None
returns-in-None g c = no_kind c.args.kinds.now (g.E.Typed.items c.args.items.now) c.args.want c.in-None.ensures.none

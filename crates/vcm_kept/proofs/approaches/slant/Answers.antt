use Rattle.std.proofs.Common.{sym}
use Rattle.vcm_kept.proofs.Slanted.{six_legs}
use Rattle.vcm_kept.proofs.approaches.slant.Goals as goal

pub returns-in_ok-directed-in-len6 : goal.returns-in_ok-directed-in-len6
returns-in_ok-directed-in-len6 c = rw (sym (six_legs c.args.slanted c.args.steps c.args.line c.args.names.now c.args.legs.now c.x-item.result c.y-item.result c.z-item.result
    c.i-item.result c.j-item.result c.k-item.result c.if-not-slanted.false c.in-len6.len_at_least c.in-len6.len_below c.x-item.is c.y-item.is c.z-item.is c.i-item.is c.j-item.is
    c.k-item.is)) at (rw c.in_ok-directed-in-len6.ensures at c.approach.ensures)

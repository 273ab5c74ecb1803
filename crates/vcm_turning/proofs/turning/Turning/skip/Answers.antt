use Rattle.vcm_code.proofs.CodeNeverStuck.{one_behind}
use Rattle.vcm_turning.proofs.turning.Turning.skip.Goals as goal

pub invariant_of-self : goal.invariant_of-self
invariant_of-self g c =
    let m = c.self.inside in
    let i = c.self.invariant in
    let s = rw (← c.self.view_is) at c.requires in
    (i.0, i.1, i.2, i.3, i.4, i.5, one_behind m.loaded.now.statements m.next s.0 (i.5.valid).ends s.1 s.2, i.7, i.8, i.9, i.10)

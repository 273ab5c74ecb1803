use Rattle.std.proofs.Common.{sym, ap, ◌∙◌}
use Rattle.vcm_way.specs.Tasks.{marks_of}
use Rattle.vcm_set_clearance.proofs.Stepping.{own_at}
use Rattle.vcm_set_views.proofs.beside.Beside.marks.Goals as goal

pub returns-in-Some : goal.returns-in-Some
returns-in-Some g c =
    let s = c.args.self.now in
    let b = c.args.before.now in
    let within = rw c.in-Some.is at c.requires.there in
    let own = rw (sym c.requires.each) at (own_at s.blocks.now s.probes.now c.in-Some.on c.index-self-on-in-Some.result within) in
    rw c.in-Some.is (c.marks_of_step-in-Some.ensures ∙ ap (λ p. marks_of p b.position b.settings b.task c.args.stop) own)

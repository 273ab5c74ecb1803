use Rattle.std.proofs.Common.{sym, ap, ◌∙◌, subst}
use Rattle.std.specs.Prelude.{OnOk, slice_index_or}
use Rattle.std.specs.List.{AllByRecursion}
use Rattle.vcm_way.specs.Gone.{placed_at, ways_in}
use Rattle.vcm_way.specs.Seen.{IsNearWay}
use Rattle.vcm_way.specs.Steps.{TaskEnds}
use Rattle.vcm_way.specs.Tasks.{marks_of}
use Rattle.vcm_way.proofs.Near.{ways_near}
use Rattle.vcm_set_clearance.specs.Events.{ways_with}
use Rattle.vcm_set_clearance.specs.inner.Gathering.{HasAdded}
use Rattle.vcm_set_clearance.proofs.Stepping.{own_at}
use Rattle.vcm_set_clearance.proofs.gathering.Gatherer.add_step.Goals as goal

pub marks_of_step-marks-requires-clause-ends : goal.marks_of_step-marks-requires-clause-ends
marks_of_step-marks-requires-clause-ends g c =
    let s = c.args.self.now in
    let b = c.args.before.now in
    let within = rw c.in-Some.is at c.requires.there in
    let own = rw (sym c.requires.each) at (own_at s.blocks.now s.probes.now c.in-Some.on c.index-self-on.result within) in
    subst (λ p. TaskEnds p b.position b.settings b.task c.args.stop) (sym own) (rw c.in-Some.is at c.requires.ends)

pub add_ways-requires : goal.add_ways-requires
add_ways-requires g c =
    let s = c.args.self.now in
    let b = c.args.before.now in
    let within = rw c.in-Some.is at c.requires.there in
    let own = rw (sym c.requires.each) at (own_at s.blocks.now s.probes.now c.in-Some.on c.index-self-on.result within) in
    let ends = subst (λ p. TaskEnds p b.position b.settings b.task c.args.stop) (sym own) (rw c.in-Some.is at c.requires.ends) in
    subst (λ ms. AllByRecursion IsNearWay (ways_in (slice_index_or s.each.now c.in-Some.on c.index-self-on.result) ms)) (sym (c.as_slice.ensures ∙ c.marks_of_step-marks.ensures))
    (ways_near (slice_index_or s.each.now c.in-Some.on c.index-self-on.result) c.bounds-bounds.ensures.valid b.position c.requires.near b.settings b.task c.args.stop ends)

pub returns-in-Some : goal.returns-in-Some
returns-in-Some g c =
    let s = c.args.self.now in
    let b = c.args.before.now in
    let first = c.args.to.now.is_first in
    let new = c.add_ways.new.to in
    let within = rw c.in-Some.is at c.requires.there in
    let own = rw (sym c.requires.each) at (own_at s.blocks.now s.probes.now c.in-Some.on c.index-self-on.result within) in
    let marks = c.as_slice.ensures ∙ c.marks_of_step-marks.ensures in
    rw c.in-Some.is
    (subst (λ gs. OnOk c.add_ways.result (HasAdded first c.args.to.now.events.items new.events.items new.is_first (ways_with c.in-Some.on first (placed_at c.args.place gs))))
    (ap (ways_in (slice_index_or s.each.now c.in-Some.on c.index-self-on.result)) marks ∙ ap (λ p. ways_in p (marks_of p b.position b.settings b.task c.args.stop)) own) c.add_ways.ensures)

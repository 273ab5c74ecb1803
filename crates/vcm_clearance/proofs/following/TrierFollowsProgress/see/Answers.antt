use Rattle.std.proofs.Common.{refl, sym, ap, ◌∙◌, subst}
use Rattle.std.specs.List.{AllByRecursion}
use Rattle.vcm_steps.specs.Passages.{passage}
use Rattle.vcm_backtrace.specs.Backtrace.{round_on}
use Rattle.vcm_way.specs.Gone.{ways_in}
use Rattle.vcm_way.specs.Seen.{IsNearWay}
use Rattle.vcm_way.specs.Steps.{TaskEnds}
use Rattle.vcm_way.specs.Tasks.{marks_of}
use Rattle.vcm_way.specs.Ways.{reason}
use Rattle.vcm_way.proofs.Near.{ways_near}
use Rattle.vcm_way.proofs.Stepped.{step_ends, marks_are}
use Rattle.vcm_clearance.specs.declared.here.Here.{Here}
use Rattle.vcm_clearance.proofs.Running.{IsHere, step_tried, step_broken}
use Rattle.vcm_clearance.proofs.following.TrierFollowsProgress.see.Goals as goal

pub marks_of_step-marks-requires-clause-ends : goal.marks_of_step-marks-requires-clause-ends
marks_of_step-marks-requires-clause-ends g c =
    let part = c.args.self.now.blocks.now in
    let b = c.args.before in
    subst (TaskEnds part b.position b.settings b.task) (sym (c.reason.ensures ∙ ap reason c.stop-stop.ensures))
    (step_ends part _ b c.args.statement.now c.args.world.now.state c.requires c.requires.is_next.fit.1)

pub try_ways-requires-clause-near : goal.try_ways-requires-clause-near
try_ways-requires-clause-near g c =
    let part = c.args.self.now.blocks.now in
    let b = c.args.before in
    let after = c.args.world.now.state in
    let stop = c.reason.ensures ∙ ap reason c.stop-stop.ensures in
    subst (λ ms. AllByRecursion IsNearWay (ways_in part ms)) (sym (c.as_slice-2.ensures ∙ c.marks_of_step-marks.ensures ∙ ap (marks_of part b.position b.settings b.task) stop))
    (ways_near part c.bounds-bounds.ensures.valid b.position c.requires.known_before.near b.settings b.task (reason after.stop)
    (step_ends part _ b c.args.statement.now after c.requires c.requires.is_next.fit.1))

pub returns-in-Ok-clause-ok : goal.returns-in-Ok-clause-ok
returns-in-Ok-clause-ok g c = λ w from ps looked has.
    let part = c.args.self.now.blocks.now in
    let b = c.args.before in
    let s = c.args.statement.now in
    let after = c.args.world.now.state in
    let p = passage c.args.count c.args.number s w after c.args.next in
    let marks =
    c.as_slice-2.ensures ∙ c.marks_of_step-marks.ensures ∙ ap (marks_of part b.position b.settings b.task) (c.reason.ensures ∙ ap reason c.stop-stop.ensures)
    ∙ marks_are part b s w after looked c.args.count c.args.number c.args.next in
    let rounds = ap (λ r. r) c.count_round.ensures in
    let h : Here = record {
      place = record { step = c.args.count; number = c.args.number; line = s.line };
      source = c.args.self.now.source;
      loaded = c.args.self.now.loaded;
      standing = record { tables = c.tables.result; variables = c.variables.result; rounds = record { ref_ptr = c.tables.result.ref_ptr; now = c.count_round.new.rounds } };
    } in
    let here : IsHere c.args.self.now.source.now c.args.self.now.loaded.now.statements c.args.world.now.tables p (round_on c.args.to.now.rounds p) h =
    record { place = refl; source = refl; code = refl; tables_are = c.tables.ensures; variables = c.variables.ensures.values; rounds_are = (rw c.stop-stop.ensures at rounds) } in (
      has.0,
      has.1,
      has.2,
      has.3,
      step_tried c.args.self.now.source.now c.args.self.now.loaded.now.statements c.args.world.now.tables part c.args.self.now.boxes.now from.rounds from.rooms.now.items from.kept.now.items
          from.count _ _ c.args.to.now.rounds c.args.to.now.rooms.now.items c.args.to.now.kept.now.items c.args.to.now.count ps has.4 p h here c.try_ways.new.rooms.items
          c.try_ways.new.kept.items c.in-Ok.sum _ (rw (c.as_slice.ensures.boxes, marks) at c.in-Ok.ensures.ok) c.count_round.new.rounds
          (rw c.stop-stop.ensures at rounds),
    )

pub returns-in-Err-clause-err : goal.returns-in-Err-clause-err
returns-in-Err-clause-err g c = λ w from ps looked has.
    let part = c.args.self.now.blocks.now in
    let b = c.args.before in
    let s = c.args.statement.now in
    let after = c.args.world.now.state in
    let p = passage c.args.count c.args.number s w after c.args.next in
    let marks =
    c.as_slice-2.ensures ∙ c.marks_of_step-marks.ensures ∙ ap (marks_of part b.position b.settings b.task) (c.reason.ensures ∙ ap reason c.stop-stop.ensures)
    ∙ marks_are part b s w after looked c.args.count c.args.number c.args.next in
    let rounds = ap (λ r. r) c.count_round.ensures in
    let h : Here = record {
      place = record { step = c.args.count; number = c.args.number; line = s.line };
      source = c.args.self.now.source;
      loaded = c.args.self.now.loaded;
      standing = record { tables = c.tables.result; variables = c.variables.result; rounds = record { ref_ptr = c.tables.result.ref_ptr; now = c.count_round.new.rounds } };
    } in
    let here : IsHere c.args.self.now.source.now c.args.self.now.loaded.now.statements c.args.world.now.tables p (round_on c.args.to.now.rounds p) h =
    record { place = refl; source = refl; code = refl; tables_are = c.tables.ensures; variables = c.variables.ensures.values; rounds_are = (rw c.stop-stop.ensures at rounds) } in (
      has.0,
      has.1,
      has.2,
      has.3,
      step_broken c.args.self.now.source.now c.args.self.now.loaded.now.statements c.args.world.now.tables part c.args.self.now.boxes.now from.rounds from.rooms.now.items from.kept.now.items
          from.count _ _ c.args.to.now.rounds c.args.to.now.rooms.now.items c.args.to.now.kept.now.items c.args.to.now.count ps has.4 p h here _
          (rw (c.as_slice.ensures.boxes, marks) at c.in-Err.ensures.err) c.args.count refl,
    )

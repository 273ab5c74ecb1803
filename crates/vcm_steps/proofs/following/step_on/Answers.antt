use Rattle.std.proofs.Common.{◌+◌, refl, sym, ◌∙◌}
use Rattle.vcm_steps.specs.Passages.{passage}
use Rattle.vcm_steps.proofs.PassageLemmas.{was_next, next_is, tables_are, carried, carried_off}
use Rattle.vcm_steps.proofs.following.step_on.Goals as goal

pub returns-in-Ok-see-clause-done : goal.returns-in-Ok-see-clause-done
returns-in-Ok-see-clause-done g c =
    let s = c.statement-statement.result in
    let tables = c.world-in-Ok.ensures.tables
    ∙ tables_are c.args.done c.args.machine.now c.step.new.self c.args.loaded.now c.next-number.result s c.in-Ok.ensures.ok c.next-number.ensures.is
    c.requires.code c.statement-statement.ensures in
    let is = next_is c.args.done c.args.machine.now c.step.new.self c.args.loaded.now c.next-number.result s c.in-Ok.ensures.ok c.next-number.ensures.is c.requires.code c.statement-statement.ensures
    c.world.result.now.state c.world-in-Ok.result.now.state c.next-next.result c.world.ensures.state c.world-in-Ok.ensures.state c.next-next.ensures.is in
    (λ e. (
      c.in-Ok.ensures.ok,
      λ from ps h.
          carried (λ t. g.F.Follows.Has c.args.by.now t from c.args.to.now ps) (λ t qs. g.F.Follows.Has c.args.by.now t from c.see.new.to qs) _ _ ps _ _ tables is
          (c.in-Ok-see.ensures.ok _ from ps c.look-before.ensures) h,
    ))

pub returns-in-Err-see-clause-err : goal.returns-in-Err-see-clause-err
returns-in-Err-see-clause-err g c =
    let s = c.statement-statement.result in
    let tables = c.world-in-Ok.ensures.tables
    ∙ tables_are c.args.done c.args.machine.now c.step.new.self c.args.loaded.now c.next-number.result s c.in-Ok.ensures.ok c.next-number.ensures.is
    c.requires.code c.statement-statement.ensures in
    let is = next_is c.args.done c.args.machine.now c.step.new.self c.args.loaded.now c.next-number.result s c.in-Ok.ensures.ok c.next-number.ensures.is c.requires.code c.statement-statement.ensures
    c.world.result.now.state c.world-in-Ok.result.now.state c.next-next.result c.world.ensures.state c.world-in-Ok.ensures.state c.next-next.ensures.is in
    let p = passage (c.args.done + 1) c.next-number.result s c.world.result.now.state c.world-in-Ok.result.now.state c.next-next.result in (
      p,
      refl,
      sym is,
      λ from ps h.
          carried_off (λ t. g.F.Follows.Has c.args.by.now t from c.args.to.now ps) (λ t. g.F.Follows.Broke c.args.by.now t from c.see.new.to ps p c.in-Err-see.fault) _ _ tables
          (c.in-Err-see.ensures.err _ from ps c.look-before.ensures) h,
    )

pub see-requires : goal.see-requires
see-requires g c =
    was_next c.args.done c.args.machine.now c.step.new.self c.args.loaded.now c.next-number.result c.statement-statement.result c.in-Ok.ensures.ok c.next-number.ensures.is
    c.requires.code c.statement-statement.ensures (g.F.Follows.Fits c.args.by.now) _ c.world.result.now.state c.world-in-Ok.result.now.state c.requires.fits c.requires.running
    c.world.ensures.rests c.world.ensures.state c.world-in-Ok.ensures.state c.look-before.ensures

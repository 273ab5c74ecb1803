use Rattle.std.proofs.Common.{sym, ap, ◌∙◌}
use Rattle.vcm_steps.proofs.PassageLemmas.{still_fits, goes_on, breaks, stopped}
use Rattle.vcm_steps.proofs.following.follow_run.Goals as goal

pub returns-in-Some-clause-run : goal.returns-in-Some-clause-run
returns-in-Some-clause-run g c =
    let stop = sym (c.in-Some.ensures ∙ ap (λ s. s.stop) c.world.ensures.state) in
    stopped c.args.machine.now.part c.args.loaded.now c.args.steps c.loop-done.machine c.loop-done.done _ c.loop-done.invariant c.args.machine.now c.requires.start _ stop

pub loop-done-preserved : goal.loop-done-preserved
loop-done-preserved g c =
    let none = sym (c.in-None.ensures ∙ ap (λ s. s.stop) c.world.ensures.state) in
    let d = c.in-Ok-true.ensures.done c.in-Ok-true.field-0-test in
    goes_on c.args.machine.now.part c.args.loaded.now c.args.steps c.loop-done.machine c.loop-done.done _ c.loop-done.invariant c.step_on.new.machine _
    c.loop-done-test.true none d.0 (λ ps h. d.1 _ ps h)

pub returns-in-Err-clause-err : goal.returns-in-Err-clause-err
returns-in-Err-clause-err g c =
    let none = sym (c.in-None.ensures ∙ ap (λ s. s.stop) c.world.ensures.state) in
    let f = c.in-Err.ensures.err in
    breaks c.args.machine.now.part c.args.loaded.now c.args.steps c.loop-done.machine c.loop-done.done _ c.loop-done.invariant f.0 _
    c.loop-done-test.true none f.1 f.2 (λ ps h. f.3 _ ps h)

pub step_on-requires-clause-fits : goal.step_on-requires-clause-fits
step_on-requires-clause-fits g c =
    still_fits c.args.machine.now.part c.args.loaded.now c.args.steps c.loop-done.machine c.loop-done.done _ c.loop-done.invariant (g.F.Follows.Fits c.args.by.now) c.requires.fits

use Rattle.vcm_steps.specs.Passages.{passage}
use Rattle.vcm_views.proofs.Read.{one_kept, one_read}
use Rattle.vcm_views.proofs.readings.ReaderFollowsProgress.see.Goals as goal

pub returns-clause-ok : goal.returns-clause-ok
returns-clause-ok c = λ w from ps u has.
    let p = passage c.args.count c.args._number c.args.statement.now w c.args.world.now.state c.args._next in
    let old = c.args.to.now in
    let new = c.read_step.new.readings.items in
    let kept = c.keep_frame.new.frames in (
      one_kept c.args.self.now.from from.readings.items old.readings.items new from.frames old.frames kept ps p has.0 c.keep_frame.ensures,
      one_read c.args.self.now.from from.readings.items old.readings.items new from.frames old.frames kept ps p has.0 has.1 c.in_ok-read_step.ensures,
    )

use Rattle.vcm_steps.specs.Passages.{passage}
use Rattle.vcm_summary.proofs.Found.{one_kept, one_found}
use Rattle.vcm_summary.proofs.findings.FinderFollowsProgress.see.Goals as goal

pub returns-clause-ok : goal.returns-clause-ok
returns-clause-ok c = λ w from ps u has.
    let p = passage c.args.count c.args._number c.args.statement.now w c.args.world.now.state c.args._next in
    let old = c.args.to.now in
    let new = c.found_one-to.result in
    let kept = c.keep_frame.new.frames in (
      one_kept c.args.self.now.from from.found old.found new from.frames old.frames kept ps p has.0 c.keep_frame.ensures,
      one_found c.args.self.now.from from.found old.found new from.frames old.frames kept ps p has.0 has.1 c.found_one-to.ensures,
    )

use Rattle.vcm_num.specs.Written.{Wrote}
use Rattle.std.proofs.Common.{subst}
use Rattle.vcm_story.proofs.StoryLemmas.{open_is}
use Rattle.vcm_story.proofs.story.write_rest.Goals as goal

pub returns : goal.returns
returns g c =
    subst (λ l. Wrote (g.W.Write.contents c.args.writer.now) (g.W.Write.contents c.write_open.new.writer) l c.write_open.result)
    (open_is c.args.done c.args.machine.now.state c.args.loaded.now.statements c.line-line.ensures.0 c.next-next.result c.line-line.result c.next-next.ensures.is c.line-line.ensures.1 c.line-line.ensures.2)
    (rw c.world.ensures.state at c.write_open.ensures)

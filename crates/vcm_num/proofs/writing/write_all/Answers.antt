use Rattle.std.proofs.Common.{rules, arith}
use Rattle.std.proofs.lemmas.Grind.{common_steps}
use Rattle.vcm_num.proofs.KnownWrites.{appends_more, front_more}
use Rattle.vcm_num.proofs.writing.write_all.Goals as goal

pub loop-at-preserved : goal.loop-at-preserved
loop-at-preserved g c = record {
  within = search rules;
  written = appends_more (g.W.Write.contents c.args.writer.now) (g.W.Write.contents c.loop-at.writer) (g.W.Write.contents c.write.new.self) _ _ _
      (front_more c.args.bytes.now c.loop-at.at c.in-Ok.n) c.loop-at.invariant.written c.in-Ok.ensures.bytes;
}

pub returns-in-Ok-eq0 : goal.returns-in-Ok-eq0
returns-in-Ok-eq0 g c = search rules

pub returns-in-Err : goal.returns-in-Err
returns-in-Err g c = search rules

pub returns : goal.returns
returns g c = grind (arith, common_steps)

use Rattle.std.proofs.Common.{arith}
use Rattle.vcm_expr.specs.inner.Levels.{front_of}
use Rattle.vcm_expr.specs.Source.{is_small}
use Rattle.vcm_expr.proofs.Fronts.{take_step, next_shorter}
use Rattle.vcm_expr.proofs.signs.take_signs.Goals as goal

pub signs-preserved : goal.signs-preserved
signs-preserved c = record {
  reads = λ operand. rw c.in_ok-push.ensures.items
      (take_step is_small operand (front_of c.args.front) c.args.words.now c.signs.words c.signs.signs.items c.in-Some.sign c.take_front.new.words
      c.in-Some.ensures.some (c.signs.invariant.reads operand));
  shorter = omega (arith, next_shorter (front_of c.args.front) c.signs.words c.in-Some.sign c.take_front.new.words c.in-Some.ensures.some, c.signs.invariant.shorter);
}

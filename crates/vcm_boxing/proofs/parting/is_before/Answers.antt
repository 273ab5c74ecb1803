use Rattle.std.proofs.Common.{arith, sym, ◌∙◌}
use Rattle.std.proofs.lemmas.Int.{ints}
use Rattle.vcm_boxing.specs.Ranges.{numbers, facet_corners}
use Rattle.vcm_boxing.proofs.Missing.{before, up_to}
use Rattle.vcm_boxing.proofs.parting.is_before.Goals as goal

pub returns-then-far-c : goal.returns-then-far-c
returns-then-far-c c = λ _.
    before (numbers c.args.n.now) c.args.range.now (facet_corners c.args.facet.now) (record {
      a = omega (arith, ints, c.along-a.ensures, c.reach-far.ensures, c.if-far-a.true);
      b = omega (arith, ints, c.along-b.ensures, c.reach-far.ensures, c.if-far-b.true);
      c = omega (arith, ints, c.along-c.ensures, c.reach-far.ensures, c.if-far-c.true);
    })

pub returns : goal.returns
returns c = λ e.
    up_to (numbers c.args.n.now) c.args.range.now (facet_corners c.args.facet.now) (record {
      a = omega (arith, ints, c.along-a.ensures, c.reach-far.ensures, c.if-far-a-2.false);
      b = omega (arith, ints, c.along-b.ensures, c.reach-far.ensures, c.if-far-b-2.false);
      c = omega (arith, ints, c.along-c.ensures, c.reach-far.ensures, c.if-far-c-2.false);
    }) (sym c.points_to_open.ensures ∙ e)

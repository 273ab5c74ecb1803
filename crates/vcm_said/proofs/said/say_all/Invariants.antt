use Rattle.std.proofs.Common.{◌≡◌, ◌++◌, drop}
use Rattle.vcm_said.specs.All.{said_all, said_from}
use Rattle.vcm_said.proofs.said.say_all.Given as goal

abbrev pub invariant-loop-logical : goal.invariant-loop-logical
invariant-loop-logical l = record {
  left : said_all l.lines ≡ l.out.items ++ said_from l.planes l.own (drop l.logical-index l.lines);
}

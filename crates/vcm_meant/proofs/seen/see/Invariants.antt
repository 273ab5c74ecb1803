use Rattle.std.proofs.Common.{◌≡◌, ◌++◌, ◌-◌, length, take, drop}
use Rattle.vcm_meant.specs.Seen.{seen_with}
use Rattle.vcm_meant.proofs.seen.see.Given as goal

abbrev pub invariant-loop-at : goal.invariant-loop-at
invariant-loop-at l = record {
  same : l.all ≡ l.fn.all;
  cut : seen_with l.line l.feature l.is_met l.all.items ≡ take l.at l.all.items ++ seen_with l.line l.feature l.is_met (drop l.at l.all.items);
}

abbrev pub decreases-loop-at : goal.decreases-loop-at
decreases-loop-at l = length l.all.items - l.at

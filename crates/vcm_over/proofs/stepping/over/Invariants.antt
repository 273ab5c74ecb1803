use Rattle.std.proofs.Common.{◌≡◌, ℕ, ◌≤◌, ◌+◌, ◌-◌}
use Rattle.vcm_over.specs.Over.{over_from}
use Rattle.vcm_over.specs.declared.stepping.TheConstants.{MOST_STEPS}
use Rattle.vcm_over.proofs.stepping.over.Given as goal

abbrev pub invariant-each : goal.invariant-each
invariant-each g l = record {
  over : over_from MOST_STEPS l.lines l.fn.session ≡ over_from l.left l.wanted l.session;
  way : (n : ℕ) → over_from (n + (MOST_STEPS - l.left)) l.lines l.fn.session ≡ over_from n l.wanted l.session;
  within : l.left ≤ MOST_STEPS;
  few : l.session.count + l.left ≤ l.fn.session.count + MOST_STEPS;
}

abbrev pub decreases-each : goal.decreases-each
decreases-each g l = l.left

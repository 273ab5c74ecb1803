use Rattle.std.proofs.Common.{◌≡◌, ◌++◌, drop}
use Rattle.vcm_untried.specs.inner.Following.{readings}
use Rattle.vcm_untried.proofs.counting.readings.Given as goal

abbrev pub invariant-loop-remark : goal.invariant-loop-remark
invariant-loop-remark l = record { all : l.counts.items ++ readings l.taken (drop l.remark-index l.remarks) ≡ readings l.taken l.remarks }

use Rattle.std.proofs.Common.{arith, rules}
use Rattle.vcm_job.proofs.JobLemmas.{too_long, few, little, little_more, not_long}
use Rattle.std.proofs.KnownBytes.{Keeps-refl}
use Rattle.vcm_job.proofs.reading.read_all.Goals as goal

pub returns-clause-fault : goal.returns-clause-fault
returns-clause-fault g c = too_long _ _ c.loop-chunk.bytes.items c.loop-chunk.invariant.taken (omega (arith, c.len.ensures, c.loop-chunk-test.false))

pub returns-in_default-clause-fault : goal.returns-in_default-clause-fault
returns-in_default-clause-fault g c =
    few _ _ _ c.loop-chunk.bytes.items c.loop-chunk.invariant.taken c.in_default.ensures.bytes (omega (arith, c.loop-chunk-test.true))

pub returns-in_default-clause-little : goal.returns-in_default-clause-little
returns-in_default-clause-little g c =
    little _ _ _ c.loop-chunk.bytes.items c.loop-chunk.invariant.taken c.in_default.ensures.bytes c.loop-chunk.invariant.short

pub returns-then-n-eq0-clause-little : goal.returns-then-n-eq0-clause-little
returns-then-n-eq0-clause-little g c =
    little_more _ _ _ c.loop-chunk.bytes.items _ c.in-Ok.n c.loop-chunk.invariant.taken c.in-Ok.ensures.bytes.0 (omega (arith, c.if-n-eq0.true, c.loop-chunk.invariant.short))

pub returns-then-is_err-clause-little : goal.returns-then-is_err-clause-little
returns-then-is_err-clause-little g c =
    little_more _ _ _ c.loop-chunk.bytes.items _ c.in-Ok.n c.loop-chunk.invariant.taken c.in-Ok.ensures.bytes.0 (search rules)

pub returns-clause-little : goal.returns-clause-little
returns-clause-little g c = little _ _ _ c.loop-chunk.bytes.items c.loop-chunk.invariant.taken (Keeps-refl _) c.loop-chunk.invariant.short

pub returns-then-n-eq0-clause-short : goal.returns-then-n-eq0-clause-short
returns-then-n-eq0-clause-short g c = not_long c.loop-chunk.bytes.items (omega (arith, c.loop-chunk-test.true))

use Rattle.vcm_loader.proofs.Verdicts.{Judging}
use Rattle.vcm_loader.proofs.loading.judge_statements.Given as goal

abbrev pub invariant-loop : goal.invariant-loop
invariant-loop l = Judging (record { kinds = l.kinds; features = l.features; frames = l.frames; statements = l.statements }) l.fn.image l.image l.counter l.verdict l.ends

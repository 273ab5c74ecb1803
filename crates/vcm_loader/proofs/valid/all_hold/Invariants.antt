use Rattle.std.proofs.Common.{drop, length}
use Rattle.std.specs.List.{AllByRecursion}
use Rattle.vcm_loader.specs.inner.Holding.{LineHolds}
use Rattle.vcm_loader.proofs.valid.all_hold.Given as goal

abbrev pub invariant-loop-statement : goal.invariant-loop-statement
invariant-loop-statement l = record {
  on : AllByRecursion (LineHolds (record { kinds = l.kinds; features = l.features; frames = l.frames; statements = length l.statements }))
      (drop l.statement-index l.statements) → AllByRecursion
      (LineHolds (record { kinds = l.kinds; features = l.features; frames = l.frames; statements = length l.statements })) l.statements;
  back : AllByRecursion (LineHolds (record { kinds = l.kinds; features = l.features; frames = l.frames; statements = length l.statements })) l.statements
      → AllByRecursion (LineHolds (record { kinds = l.kinds; features = l.features; frames = l.frames; statements = length l.statements }))
      (drop l.statement-index l.statements);
}

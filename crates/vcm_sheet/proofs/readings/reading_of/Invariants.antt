use Rattle.std.proofs.Common.{◌≡◌, drop}
use Rattle.vcm_sheet.specs.Readings.{reading_of}
use Rattle.vcm_sheet.proofs.readings.reading_of.Given as goal

abbrev pub invariant-loop-reading : goal.invariant-loop-reading
invariant-loop-reading l = record { rest : reading_of (drop l.reading-index l.readings) l.step ≡ reading_of l.readings l.step }

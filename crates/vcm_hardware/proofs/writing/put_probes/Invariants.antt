use Rattle.std.proofs.Common.{◌≡◌, ◌++◌, drop}
use Rattle.vcm_hardware.specs.ProbeFile.{probes_text}
use Rattle.vcm_hardware.proofs.writing.put_probes.Given as goal

abbrev pub invariant-loop-choice : goal.invariant-loop-choice
invariant-loop-choice l = record { bytes : l.out.items ++ probes_text l.hardware (drop l.choice-index l.choices) ≡ l.fn.out.items ++ probes_text l.hardware l.choices }

use Rattle.std.proofs.Common.{◌≡◌, length}
use Rattle.std.specs.List.{fold}
use Rattle.vcm_num.specs.Lines.{whole_lines}
use Rattle.vcm_keys.specs.Places.{start, with_line}
use Rattle.vcm_keys.proofs.placing.read_text.Given as goal

abbrev pub invariant-loop-rest : goal.invariant-loop-rest
invariant-loop-rest l = fold with_line l.reader (whole_lines l.rest) ≡ fold with_line start (whole_lines l.text)

abbrev pub decreases-loop-rest : goal.decreases-loop-rest
decreases-loop-rest l = length l.rest

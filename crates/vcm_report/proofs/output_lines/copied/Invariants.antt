use Rattle.std.proofs.Common.{◌≡◌, take}
use Rattle.vcm_report.proofs.output_lines.copied.Given as goal

abbrev pub invariant-loop-line : goal.invariant-loop-line
invariant-loop-line l = record {
  copied : l.copies.items ≡ take l.line-index l.lines;
}

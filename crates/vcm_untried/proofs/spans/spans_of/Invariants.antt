use Rattle.std.proofs.Common.{◌≡◌, drop}
use Rattle.vcm_untried.specs.Spans.{spans_from, spans_of}
use Rattle.vcm_untried.proofs.spans.spans_of.Given as goal

abbrev pub invariant-loop-row : goal.invariant-loop-row
invariant-loop-row l = record { all : spans_from l.about l.spans.items (drop l.row-index l.rows) ≡ spans_of l.about l.rows }

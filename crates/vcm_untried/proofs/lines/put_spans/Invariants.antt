use Rattle.std.proofs.Common.{◌≡◌, ◌++◌, drop}
use Rattle.vcm_untried.specs.Lines.{spans_text}
use Rattle.vcm_untried.proofs.lines.put_spans.Given as goal

abbrev pub invariant-loop-span : goal.invariant-loop-span
invariant-loop-span l = record { bytes : l.out.items ++ spans_text (drop l.span-index l.spans) ≡ l.fn.out.items ++ spans_text l.spans }

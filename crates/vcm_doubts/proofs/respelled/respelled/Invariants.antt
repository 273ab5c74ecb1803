use Rattle.std.proofs.Common.{◌≡◌, ◌++◌, drop, map, filter}
use Rattle.std.specs.List.{list_any}
use Rattle.vcm_lines.specs.Bytes.{upper}
use Rattle.vcm_doubts.specs.Spellings.{is_respelled}
use Rattle.vcm_doubts.proofs.respelled.respelled.Given as goal

abbrev pub invariant-loop-word : goal.invariant-loop-word
invariant-loop-word l = record {
  left : map (map upper) (filter (λ w. list_any (is_respelled w) l.all) l.lowered)
      ≡ l.names ++ map (map upper) (filter (λ w. list_any (is_respelled w) l.all) (drop l.word-index l.lowered));
}

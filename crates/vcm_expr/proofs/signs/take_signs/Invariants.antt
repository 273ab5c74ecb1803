use Rattle.std.proofs.Common.{◌≡◌, ◌≤◌, length}
use Rattle.vcm_expr.specs.Source.{is_small}
use Rattle.vcm_expr.specs.Parser.{Parser, fronted_by, with_fronts}
use Rattle.vcm_expr.specs.inner.Levels.{front_of}
use Rattle.vcm_expr.proofs.signs.take_signs.Given as goal

-- the signs so far stand before what is read next
abbrev pub invariant-signs : goal.invariant-signs
invariant-signs l = record {
  reads : (operand : Parser) → fronted_by is_small operand (front_of l.front) l.fn.words ≡ with_fronts is_small l.signs.items (fronted_by is_small operand (front_of l.front) l.words);
  shorter : length l.words ≤ length l.fn.words;
}

abbrev pub decreases-signs : goal.decreases-signs
decreases-signs l = length l.words

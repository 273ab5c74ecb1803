use Rattle.std.proofs.Common.{◌≡◌, ◌≤◌, ◌+◌, ◌*◌, ◌∷◌, length}
use Rattle.vcm_expr.specs.Source.{Source, IsSize}
use Rattle.vcm_expr.proofs.Chains.{Runs}
use Rattle.vcm_expr.specs.declared.levels.Chain.TheVariants.{Disjunction, Conjunction, Sum, Product}
use Rattle.vcm_expr.proofs.ParserRanks.{under_rank}
use Rattle.vcm_expr.proofs.parser.+parser.Given as goal

abbrev pub decreases-primary : goal.decreases-primary
decreases-primary l = 20 * length l.words.now

abbrev pub decreases-under : goal.decreases-under
decreases-under l = 20 * length l.words.now + under_rank l.front

abbrev pub decreases-fronted : goal.decreases-fronted
decreases-fronted l = 20 * length l.words.now + under_rank l.front + 2

abbrev pub decreases-signed : goal.decreases-signed
decreases-signed l = 20 * length l.words.now + under_rank l.front + 2

abbrev pub decreases-behind_sign : goal.decreases-behind_sign
decreases-behind_sign l = 20 * length l.words.now + under_rank l.front + 1

abbrev pub decreases-disjunction : goal.decreases-disjunction
decreases-disjunction l = 20 * length l.words.now + 13

abbrev pub decreases-conjunction : goal.decreases-conjunction
decreases-conjunction l = 20 * length l.words.now + 11

abbrev pub decreases-sum : goal.decreases-sum
decreases-sum l = 20 * length l.words.now + 6

abbrev pub decreases-product : goal.decreases-product
decreases-product l = 20 * length l.words.now + 4

abbrev pub decreases-relation : goal.decreases-relation
decreases-relation l = 20 * length l.words.now + 7

abbrev pub decreases-group : goal.decreases-group
decreases-group l = 20 * length l.words.now + 14

-- what is read so far, and what the rest adds to it
abbrev pub invariant-disjunction-loop-op : goal.invariant-disjunction-loop-op
invariant-disjunction-loop-op l = record {
  shorter : length l.words ≤ length l.fn.words;
  there : (t : Source) × (l.draft ≡ t ∷ l.fn.draft) × IsSize l.left t × Runs Disjunction l.room l.fn.words t l.words;
}

abbrev pub decreases-disjunction-loop-op : goal.decreases-disjunction-loop-op
decreases-disjunction-loop-op l = length l.words

abbrev pub invariant-conjunction-loop-op : goal.invariant-conjunction-loop-op
invariant-conjunction-loop-op l = record {
  shorter : length l.words ≤ length l.fn.words;
  there : (t : Source) × (l.draft ≡ t ∷ l.fn.draft) × IsSize l.left t × Runs Conjunction l.room l.fn.words t l.words;
}

abbrev pub decreases-conjunction-loop-op : goal.decreases-conjunction-loop-op
decreases-conjunction-loop-op l = length l.words

abbrev pub invariant-sum-loop-op : goal.invariant-sum-loop-op
invariant-sum-loop-op l = record {
  shorter : length l.words ≤ length l.fn.words;
  there : (t : Source) × (l.draft ≡ t ∷ l.fn.draft) × IsSize l.left t × Runs Sum l.room l.fn.words t l.words;
}

abbrev pub decreases-sum-loop-op : goal.decreases-sum-loop-op
decreases-sum-loop-op l = length l.words

abbrev pub invariant-product-loop-op : goal.invariant-product-loop-op
invariant-product-loop-op l = record {
  shorter : length l.words ≤ length l.fn.words;
  there : (t : Source) × (l.draft ≡ t ∷ l.fn.draft) × IsSize l.left t × Runs Product l.room l.fn.words t l.words;
}

abbrev pub decreases-product-loop-op : goal.decreases-product-loop-op
decreases-product-loop-op l = length l.words

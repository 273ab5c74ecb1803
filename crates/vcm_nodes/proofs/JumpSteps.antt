-- One node more, and two blocks of a choice, for the jumps.
use Rattle.std.proofs.Common.{◌≡◌, ℕ, ◌+◌, ◌<◌, ◌≤◌, List, [], ◌∷◌, ◌++◌, length, drop, get_or, Option, Some, sym, ap, ◌∙◌, subst}
use Rattle.std.proofs.lemmas.List.{drop_more, drop_all}
use Rattle.vcm_lines.specs.declared.fault.SourceFault.{SourceFault}
use Rattle.vcm_lines.specs.Fault.{NoMemoryOr}
use Rattle.vcm_spec.specs.Expression.{Tree}
use Rattle.vcm_spec.specs.Program.{Label, Block, then}
use Rattle.vcm_nodes.specs.declared.node.Node.{Node as Kept}
use Rattle.vcm_nodes.specs.declared.node.Node.TheVariants as kept
use Rattle.vcm_nodes.specs.Nodes.{node_of, block_of}
use Rattle.vcm_spec.specs.Phase.{IsClean, FirstFault}
use Rattle.vcm_nodes.specs.Jumps.{Jump, own_labels, node_jumps, jumps_in, labels_of, jumps_of, BreaksJumps, jumps_line}
use Rattle.vcm_nodes.specs.inner.Judging.{AllReach, IsFirst}
use Rattle.vcm_nodes.proofs.Jumping.{IsJudged, judged_more, judged_fault, judged_all, all_append, second_fault, all_clean, phase_fault}

block_next : (ns : List Kept) (i : ℕ) (n : Kept) → i < length ns → n ≡ get_or ns i n → block_of (drop i ns) ≡ then (node_of n) (block_of (drop (i + 1) ns))
block_next ns i n l e = ap block_of (drop_more ns i n l ∙ ap (λ (x : Kept). x ∷ drop (i + 1) ns) (sym e))

pub judged_step : (all reach now : List Label) (b : Block) (ns : List Kept) (i : ℕ) (n : Kept) → i < length ns → n ≡ get_or ns i n → now ≡ reach
    → IsJudged all reach b (block_of (drop i ns)) → AllReach all (node_jumps (node_of n) now) → IsJudged all reach b (block_of (drop (i + 1) ns))
judged_step all reach now b ns i n l e same j h =
    judged_more all reach b (node_of n) (block_of (drop (i + 1) ns)) (subst (IsJudged all reach b) (block_next ns i n l e) j) (subst (λ r. AllReach all (node_jumps (node_of n) r)) same h)

pub judged_told : (all reach now : List Label) (b : Block) (ns : List Kept) (i : ℕ) (n : Kept) (f : SourceFault) → i < length ns → n ≡ get_or ns i n → now ≡ reach
    → IsJudged all reach b (block_of (drop i ns)) → NoMemoryOr (IsFirst all (node_jumps (node_of n) now)) f → NoMemoryOr (IsFirst all (jumps_in b reach)) f
judged_told all reach now b ns i n f l e same j h =
    judged_fault all reach b (node_of n) (block_of (drop (i + 1) ns)) f (subst (IsJudged all reach b) (block_next ns i n l e) j)
    (subst (λ r. NoMemoryOr (IsFirst all (node_jumps (node_of n) r)) f) same h)

-- the nodes are at their end, and so all of them are judged
pub judged_end : (all reach : List Label) (b : Block) (ns : List Kept) (i : ℕ) → length ns ≤ i → IsJudged all reach b (block_of (drop i ns)) → AllReach all (jumps_in b reach)
judged_end all reach b ns i le j = judged_all all reach b (subst (λ l. IsJudged all reach b (block_of l)) (drop_all i ns le) j)

abbrev two : List Label → Block → Block → List Jump
two reach first second = jumps_in first (reach ++ own_labels first) ++ jumps_in second (reach ++ own_labels second)

choice_jumps : (n : Kept) (line : ℕ) (test : Tree) (first : Block) (other : Option (ℕ × Block)) (close mid : ℕ) (second : Block) (reach : List Label)
    → n ≡ kept.Choice line test first other close → other ≡ Some (mid, second) → two reach first second ≡ node_jumps (node_of n) reach
choice_jumps n line test first other close mid second reach e f =
    sym (ap (λ (m : Kept). node_jumps (node_of m) reach) e ∙ ap (λ o. node_jumps (node_of (kept.Choice line test first o close)) reach) f)

module _ (all : List Label) (n : Kept) (line : ℕ) (test : Tree) (first : Block) (other : Option (ℕ × Block)) (close mid : ℕ) (second : Block) (reach now : List Label)
    (node_is : n ≡ kept.Choice line test first other close) (other_is : other ≡ Some (mid, second)) (same : now ≡ reach) (ok : AllReach all (jumps_in first (reach ++ own_labels first))) where
  pub choice_reach : AllReach all (jumps_in second (now ++ own_labels second)) → AllReach all (node_jumps (node_of n) reach)
  choice_reach h =
      subst (AllReach all) (choice_jumps n line test first other close mid second reach node_is other_is)
      (all_append all (jumps_in first (reach ++ own_labels first)) (jumps_in second (reach ++ own_labels second)) ok
      (subst (λ l. AllReach all (jumps_in second (l ++ own_labels second))) same h))

  pub choice_told : (f : SourceFault) → NoMemoryOr (IsFirst all (jumps_in second (now ++ own_labels second))) f → NoMemoryOr (IsFirst all (node_jumps (node_of n) reach)) f
  choice_told f h =
      subst (λ js. NoMemoryOr (IsFirst all js) f) (choice_jumps n line test first other close mid second reach node_is other_is)
      (second_fault all (jumps_in first (reach ++ own_labels first)) (jumps_in second (reach ++ own_labels second)) f ok
      (subst (λ l. NoMemoryOr (IsFirst all (jumps_in second (l ++ own_labels second))) f) same h))

-- ---- a program

module _ (all : List Label) (program : Block) (none : List Label) where
  pub phase_clean : all ≡ labels_of program → none ≡ [] → AllReach all (jumps_in program (none ++ own_labels program)) → IsClean (BreaksJumps (labels_of program)) (jumps_of program)
  phase_clean a e h =
      subst (λ l. IsClean (BreaksJumps l) (jumps_of program)) a
      (all_clean all (jumps_of program) (subst (λ l. AllReach all (jumps_in program (l ++ own_labels program))) e h))

  pub phase_told : (f : SourceFault) → all ≡ labels_of program → none ≡ [] → NoMemoryOr (IsFirst all (jumps_in program (none ++ own_labels program))) f
      → NoMemoryOr (λ g. FirstFault (BreaksJumps (labels_of program)) jumps_line (jumps_of program) g.code g.line) f
  phase_told f a e h =
      subst (λ l. NoMemoryOr (λ g. FirstFault (BreaksJumps l) jumps_line (jumps_of program) g.code g.line) f) a
      (phase_fault all (jumps_of program) f (subst (λ l. NoMemoryOr (IsFirst all (jumps_in program (l ++ own_labels program))) f) e h))

use Rattle.std.proofs.Common.{◌≡◌, ◌∷◌, suc, ◌+◌, ◌<◌, ◌++◌, drop, length, sym, ap, ◌∙◌, arith, subst, append_assoc, drop-cons, add-one}
use Rattle.vcm_spec.specs.Program.{size, sizes, case_sizes}
use Rattle.vcm_nodes.specs.Nodes.{node_of, block_of, other_of}
use Rattle.vcm_nodes.proofs.CaseSteps.{case_falls}
use Rattle.vcm_asm.specs.Assembled.{marks, node_marks}
use Rattle.vcm_asm.specs.inner.Once.{Absent, Once}
use Rattle.vcm_asm.proofs.Emits.{choice_size}
use Rattle.vcm_asm.proofs.Numbering.{once_front, once_last, once_first}
use Rattle.vcm_asm.proofs.CaseMarks.{fewer, marks_once}
use Rattle.vcm_asm.proofs.marking.+mark.Goals as goal

pub mark_block-mark_node-requires : goal.mark_block-mark_node-requires
mark_block-mark_node-requires t c =
    let i = c.loop-node.node-index in
    let nodes = c.nodes-node-items.result.now in
    let n = c.node-item.result in
    let within : i < length nodes = omega arith in
    let split : drop i nodes ≡ n ∷ drop (i + 1) nodes =
    drop-cons nodes i n within ∙ ap (λ x. x ∷ drop (suc i) nodes) (sym c.node-item.is) ∙ ap (λ k. n ∷ drop k nodes) (sym (add-one i)) in
    let numbers = c.loop-node.numbers in
    let number = c.loop-node.number in
    let own = node_marks (node_of n) number in
    let rest = marks (block_of (drop (i + 1) nodes)) (number + size (node_of n)) in
    let all = ap (λ xs. numbers ++ marks (block_of xs) number) (sym split) ∙ c.loop-node.invariant.0 in
    let once = once_front (numbers ++ own) rest (subst Once (sym (append_assoc numbers own rest)) (subst Once (sym all) c.requires.once)) in
    let left = ap (λ xs. sizes (block_of xs)) split in
    let same = c.loop-node.invariant.1 in
    let falls = c.loop-node.invariant.2 in
    let short = c.requires.short in
    (omega arith, (omega arith, once))

pub mark_node-add-requires : goal.mark_node-add-requires
mark_node-add-requires t c =
    let numbers = c.args.numbers.now in
    let once = subst (λ n. Once (numbers ++ node_marks (node_of n) c.args.base)) c.in-Label.is c.requires.once in
    subst (λ l. Absent l numbers) (sym c.copy.ensures) (once_last numbers (c.in-Label.label, c.args.base) once)

pub mark_node-mark_block-requires : goal.mark_node-mark_block-requires
mark_node-mark_block-requires t c =
    let z = ap (λ n. size (node_of n)) c.in-Choice.is in
    let s = choice_size c.in-Choice.field-0 c.in-Choice.field-1 c.in-Choice.first c.in-Choice.other c.in-Choice.field-4 in
    let numbers = c.args.numbers.now in
    let once = subst (λ n. Once (numbers ++ node_marks (node_of n) c.args.base)) c.in-Choice.is c.requires.once in
    let short = c.requires.short in
    (omega arith, (omega arith, once_first numbers c.in-Choice.field-0 c.in-Choice.field-1 c.in-Choice.first c.in-Choice.other c.in-Choice.field-4 c.args.base once))

pub mark_cases-mark_block-requires : goal.mark_cases-mark_block-requires
mark_cases-mark_block-requires t c =
    let l = c.loop-block in
    let items = c.cases-block-items.result.now in
    let o = other_of c.args.cases.now in
    let item = c.loop-block-item.result in
    let falls = case_falls items o l.block-index item c.loop-block-test.true c.loop-block-item.is in
    let left = fewer items o l.block-index item c.loop-block-test.true c.loop-block-item.is in
    let all_of = ap case_sizes c.cases-block-items.ensures in
    let same = l.invariant.1 in
    let short = c.requires.short in
    let once = marks_once items o l.block-index item c.loop-block-test.true c.loop-block-item.is l.numbers l.number (subst Once (sym l.invariant.0) c.requires.once) in
    (omega arith, (omega arith, once))

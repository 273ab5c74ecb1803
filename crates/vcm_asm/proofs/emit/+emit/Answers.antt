use Rattle.std.proofs.Common.{◌≡◌, suc, ◌+◌, ◌<◌, ◌++◌, ◌∷◌, length, drop, ap, sym, ◌∙◌, arith, subst, length-append, add-one, drop-cons}
use Rattle.std.proofs.lemmas.Grind.{common_steps}
use Rattle.vcm_spec.specs.Program.{size, sizes, case_sizes}
use Rattle.vcm_nodes.specs.Nodes.{node_of, block_of, choice_by, cases_of, other_of}
use Rattle.vcm_nodes.proofs.CaseSteps.{cases_next}
use Rattle.vcm_asm.specs.inner.Depth.{NodeDeep, Deep, CasesDeep}
use Rattle.vcm_asm.specs.inner.Spelled.{NodeKeeps, BlockKeeps, CasesKeep}
use Rattle.vcm_asm.specs.Assembled.{node_code, block_code, case_code, place_in}
use Rattle.vcm_asm.proofs.Place.{node_length}
use Rattle.vcm_asm.proofs.Emits.{block_grows, wrote_if, wrote_if_else, wrote_do, wrote_meas, put_length, block_written, choice_size, cases_grow, on_ok, ok_too}
use Rattle.vcm_asm.proofs.emit.+emit.Goals as goal

pub emit_block-loop-node-preserved : goal.emit_block-loop-node-preserved
emit_block-loop-node-preserved t c =
    let i = c.loop-node.node-index in
    let nodes = c.nodes-node-items.result.now in
    let n = c.node-item.result in
    let within : i < length nodes = omega arith in
    let split : drop i nodes ≡ n ∷ drop (i + 1) nodes =
    drop-cons nodes i n within ∙ ap (λ x. x ∷ drop (suc i) nodes) (sym c.node-item.is) ∙ ap (λ k. n ∷ drop k nodes) (sym (add-one i)) in
    let to = place_in c.args.numbers.now in
    let code = c.loop-node.code in
    let here = ap (λ xs. code ++ block_code to (block_of xs) c.args.depth (length code)) (sym split) ∙ c.loop-node.invariant.0 in
    let deep = subst (λ xs. Deep (block_of xs) c.args.depth) split c.loop-node.invariant.1 in
    let own = node_code to (node_of n) c.args.depth (length code) in
    let len = ap length c.in_ok-emit_node.ensures.code ∙ length-append code own in
    let size_is = node_length to (node_of n) c.args.depth (length code) in
    let left = ap (λ xs. sizes (block_of xs)) split in
    let short = c.loop-node.invariant.2 in
    let falls = c.loop-node.invariant.3 in
    let keeps : BlockKeeps (block_of (drop (i + 1) nodes)) → BlockKeeps c.args.block.now =
    λ h. c.loop-node.invariant.4 (subst (λ xs. BlockKeeps (block_of xs)) (sym split) (c.in_ok-emit_node.ensures.keeps, h)) in
    (block_grows to (node_of n) (block_of (drop (i + 1) nodes)) c.args.depth code c.emit_node.new.code c.in_ok-emit_node.ensures.code ∙ here, deep.1, omega arith, omega arith, keeps)

pub emit_node-next-middle-requires : goal.emit_node-next-middle-requires
emit_node-next-middle-requires t c =
    let z = ap (λ n. size (node_of n)) c.in-Choice.is in
    let s = choice_size c.in-Choice.line c.in-Choice.test c.in-Choice.first c.in-Choice.other c.in-Choice.close in
    let p = put_length _ _ _ c.in_ok-put-in-Choice.ensures in
    let q = block_written _ _ _ _ _ c.in_ok-emit_block-in-Choice.ensures.code in
    omega (arith, c.requires.short)

pub emit_node-overflow_add-middle : goal.emit_node-overflow_add-middle
emit_node-overflow_add-middle t c =
    let z = ap (λ n. size (node_of n)) c.in-Choice.is in
    let s = choice_size c.in-Choice.line c.in-Choice.test c.in-Choice.first c.in-Choice.other c.in-Choice.close in
    let p = put_length _ _ _ c.in_ok-put-in-Choice.ensures in
    let q = block_written _ _ _ _ _ c.in_ok-emit_block-in-Choice.ensures.code in
    let m = c.next-middle.ensures in
    omega (arith, c.requires.short)

pub emit_node-emit_block-requires-in-Some : goal.emit_node-emit_block-requires-in-Some
emit_node-emit_block-requires-in-Some t c =
    let z = ap (λ n. size (node_of n)) c.in-Choice.is in
    let o = ap (λ x. size (choice_by c.in-Choice.line c.in-Choice.test c.in-Choice.first x c.in-Choice.close)) c.in-Some.is in
    let d = subst (λ n. NodeDeep (node_of n) c.args.depth) c.in-Choice.is c.requires.deep in
    let e = subst (λ x. NodeDeep (choice_by c.in-Choice.line c.in-Choice.test c.in-Choice.first x c.in-Choice.close) c.args.depth) c.in-Some.is d in
    let p = put_length _ _ _ c.in_ok-put-in-Choice.ensures in
    let q = block_written _ _ _ _ _ c.in_ok-emit_block-in-Choice.ensures.code in
    let r = put_length _ _ _ c.in_ok-put-in-Some.ensures in
    let same = c.set_target-in-Some.ensures.length_same in
    (omega arith, (e.1, omega (arith, c.requires.short)))

pub emit_node-next-end-requires : goal.emit_node-next-end-requires
emit_node-next-end-requires t c =
    let z = ap (λ n. size (node_of n)) c.in-Choice.is in
    let o = ap (λ x. size (choice_by c.in-Choice.line c.in-Choice.test c.in-Choice.first x c.in-Choice.close)) c.in-Some.is in
    let p = put_length _ _ _ c.in_ok-put-in-Choice.ensures in
    let q = block_written _ _ _ _ _ c.in_ok-emit_block-in-Choice.ensures.code in
    let r = put_length _ _ _ c.in_ok-put-in-Some.ensures in
    let same = c.set_target-in-Some.ensures.length_same in
    let v = block_written _ _ _ _ _ c.in_ok-emit_block-in-Some.ensures.code in
    omega (arith, c.requires.short)

pub emit_node-overflow_add-end : goal.emit_node-overflow_add-end
emit_node-overflow_add-end t c =
    let z = ap (λ n. size (node_of n)) c.in-Choice.is in
    let o = ap (λ x. size (choice_by c.in-Choice.line c.in-Choice.test c.in-Choice.first x c.in-Choice.close)) c.in-Some.is in
    let p = put_length _ _ _ c.in_ok-put-in-Choice.ensures in
    let q = block_written _ _ _ _ _ c.in_ok-emit_block-in-Choice.ensures.code in
    let r = put_length _ _ _ c.in_ok-put-in-Some.ensures in
    let same = c.set_target-in-Some.ensures.length_same in
    let v = block_written _ _ _ _ _ c.in_ok-emit_block-in-Some.ensures.code in
    let end = c.next-end.ensures in
    omega (arith, c.requires.short)

pub emit_node-next-end-requires-in-Repeat : goal.emit_node-next-end-requires-in-Repeat
emit_node-next-end-requires-in-Repeat t c =
    let z = ap (λ n. size (node_of n)) c.in-Repeat.is in
    let p = put_length _ _ _ c.in_ok-put-in-Repeat.ensures in
    let q = block_written _ _ _ _ _ c.in_ok-emit_block-in-Repeat.ensures.code in
    omega (arith, c.requires.short)

pub emit_node-overflow_add-end-in-Repeat : goal.emit_node-overflow_add-end-in-Repeat
emit_node-overflow_add-end-in-Repeat t c =
    let z = ap (λ n. size (node_of n)) c.in-Repeat.is in
    let p = put_length _ _ _ c.in_ok-put-in-Repeat.ensures in
    let q = block_written _ _ _ _ _ c.in_ok-emit_block-in-Repeat.ensures.code in
    let end = c.next-end-in-Repeat.ensures in
    omega (arith, c.requires.short)

pub emit_node-returns-in-None-clause-code : goal.emit_node-returns-in-None-clause-code
emit_node-returns-in-None-clause-code t c =
    let to = place_in c.args.numbers.now in
    let old = c.args.code.now in
    on_ok c.put-in-None.result c.put-in-None.ensures (λ put.
    wrote_if to c.in-Choice.first c.args.depth c.in-Choice.line c.in-Choice.test c.in-Choice.close _ old _ _ _ _ _ _ c.in_ok-postfix-in-Choice.ensures.items
    c.next-start.ensures c.in_ok-put-in-Choice.ensures c.in_ok-emit_block-in-Choice.ensures.code c.next-middle.ensures c.set_target.ensures.writes put
    ∙ ap (λ x. old ++ node_code to (choice_by c.in-Choice.line c.in-Choice.test c.in-Choice.first x c.in-Choice.close) c.args.depth (length old)) (sym c.in-None.is)
    ∙ ap (λ n. old ++ node_code to (node_of n) c.args.depth (length old)) (sym c.in-Choice.is))

pub emit_node-returns-in-None-clause-keeps : goal.emit_node-returns-in-None-clause-keeps
emit_node-returns-in-None-clause-keeps t c =
    ok_too c.put-in-None.result
    (rw c.in-Choice.is
    (subst (λ x. NodeKeeps (choice_by c.in-Choice.line c.in-Choice.test c.in-Choice.first x c.in-Choice.close)) (sym c.in-None.is)
    (c.in_ok-postfix-in-Choice.ensures.keeps, c.in_ok-emit_block-in-Choice.ensures.keeps)))

pub emit_node-returns-in_ok-emit_block-in-Some-clause-code : goal.emit_node-returns-in_ok-emit_block-in-Some-clause-code
emit_node-returns-in_ok-emit_block-in-Some-clause-code t c =
    let to = place_in c.args.numbers.now in
    let old = c.args.code.now in
    let r = put_length _ _ _ c.in_ok-put-in-Some.ensures in
    let m = c.next-middle.ensures in
    on_ok c.put-in-Some-2.result c.put-in-Some-2.ensures (λ put.
    wrote_if_else to c.in-Choice.first c.in-Some.second c.args.depth c.in-Choice.line c.in-Choice.test c.in-Some.mid c.in-Choice.close _ old _ _ _ _ _ _ _ _ _ _
    _ c.in_ok-postfix-in-Choice.ensures.items c.next-start.ensures c.in_ok-put-in-Choice.ensures c.in_ok-emit_block-in-Choice.ensures.code m
    c.in_ok-put-in-Some.ensures (omega (arith, r, m)) c.set_target-in-Some.ensures.writes c.in_ok-emit_block-in-Some.ensures.code c.next-end.ensures
    c.set_target-in-Some-2.ensures.writes put
    ∙ ap (λ x. old ++ node_code to (choice_by c.in-Choice.line c.in-Choice.test c.in-Choice.first x c.in-Choice.close) c.args.depth (length old)) (sym c.in-Some.is)
    ∙ ap (λ n. old ++ node_code to (node_of n) c.args.depth (length old)) (sym c.in-Choice.is))

pub emit_node-returns-in_ok-emit_block-in-Some-clause-keeps : goal.emit_node-returns-in_ok-emit_block-in-Some-clause-keeps
emit_node-returns-in_ok-emit_block-in-Some-clause-keeps t c =
    ok_too c.put-in-Some-2.result
    (rw c.in-Choice.is
    (subst (λ x. NodeKeeps (choice_by c.in-Choice.line c.in-Choice.test c.in-Choice.first x c.in-Choice.close)) (sym c.in-Some.is)
    (c.in_ok-postfix-in-Choice.ensures.keeps, c.in_ok-emit_block-in-Choice.ensures.keeps, c.in_ok-emit_block-in-Some.ensures.keeps)))

pub emit_node-returns-in_ok-emit_block-in-Repeat-clause-code : goal.emit_node-returns-in_ok-emit_block-in-Repeat-clause-code
emit_node-returns-in_ok-emit_block-in-Repeat-clause-code t c =
    let to = place_in c.args.numbers.now in
    let old = c.args.code.now in
    let s = c.next-start-in-Repeat.ensures in
    on_ok c.put-in-Repeat-2.result c.put-in-Repeat-2.ensures (λ put.
    wrote_do to c.in-Repeat.body c.args.depth c.in-Repeat.line c.in-Repeat.variable c.in-Repeat.initial c.in-Repeat.limit c.in-Repeat.increment
    c.in-Repeat.close old _ _ _ _ _ _ c.in_ok-op-in-Repeat.op c.in_ok-op-in-Repeat.ensures.op s c.in_ok-put-in-Repeat.ensures
    c.in_ok-emit_block-in-Repeat.ensures.code c.next-end-in-Repeat.ensures c.set_target-in-Repeat.ensures.writes put
    ∙ ap (λ n. old ++ node_code to (node_of n) c.args.depth (length old)) (sym c.in-Repeat.is))

pub emit_node-returns-in_ok-emit_block-in-Repeat-clause-keeps : goal.emit_node-returns-in_ok-emit_block-in-Repeat-clause-keeps
emit_node-returns-in_ok-emit_block-in-Repeat-clause-keeps t c =
    let k = c.in_ok-op-in-Repeat.ensures.keeps in
    ok_too c.put-in-Repeat-2.result (rw c.in-Repeat.is (k.0, k.1, k.2, c.in_ok-emit_block-in-Repeat.ensures.keeps))

pub emit_node-returns-in_ok-emit_block-in-Measure-clause-code : goal.emit_node-returns-in_ok-emit_block-in-Measure-clause-code
emit_node-returns-in_ok-emit_block-in-Measure-clause-code t c =
    let to = place_in c.args.numbers.now in
    let old = c.args.code.now in
    on_ok c.put-in-Measure-2.result c.put-in-Measure-2.ensures (λ put.
    wrote_meas to c.in-Measure.body c.args.depth c.in-Measure.line c.in-Measure.feature c.in-Measure.close old _ _ _ c.in_ok-put-in-Measure.ensures c.in_ok-emit_block-in-Measure.ensures.code put
    ∙ ap (λ n. old ++ node_code to (node_of n) c.args.depth (length old)) (sym c.in-Measure.is))

pub emit_node-returns-in_ok-emit_block-in-Measure-clause-keeps : goal.emit_node-returns-in_ok-emit_block-in-Measure-clause-keeps
emit_node-returns-in_ok-emit_block-in-Measure-clause-keeps t c =
    ok_too c.put-in-Measure-2.result (rw c.in-Measure.is c.in_ok-emit_block-in-Measure.ensures.keeps)

pub emit_node-returns-in_ok-emit_cases-in-Select-clause-keeps : goal.emit_node-returns-in_ok-emit_cases-in-Select-clause-keeps
emit_node-returns-in_ok-emit_cases-in-Select-clause-keeps t c =
    ok_too c.put-in-Select-2.result (rw c.in-Select.is (c.in_ok-op-in-Select.ensures.keeps, c.in_ok-emit_cases-in-Select.ensures.keeps))

pub emit_cases-loop-line-preserved : goal.emit_cases-loop-line-preserved
emit_cases-loop-line-preserved t c =
    let l = c.loop-line in
    let items = c.cases-line-items.result.now in
    let o = other_of c.args.cases.now in
    let item = c.loop-line-item.result in
    let next = cases_next items o l.line-index item c.loop-line-test.true c.loop-line-item.is in
    let rest = cases_of (drop (l.line-index + 1) items) o in
    let to = place_in c.args.numbers.now in
    let here = ap (λ cs. l.code ++ case_code to cs c.args.depth (length l.code) c.args.behind) (sym next) ∙ l.invariant.0 in
    let deep = subst (λ cs. CasesDeep cs c.args.depth) next l.invariant.1 in
    let left = ap case_sizes next in
    let short = l.invariant.2 in
    let falls = l.invariant.3 in
    let p = put_length _ _ _ c.in_ok-put.ensures in
    let q = block_written _ _ _ _ _ c.in_ok-emit_block.ensures.code in
    let r = put_length _ _ _ c.in_ok-put-2.ensures in
    let keeps : CasesKeep rest → CasesKeep c.args.cases.now =
    λ h. l.invariant.4 (subst CasesKeep (sym next) (c.in_ok-emit_block.ensures.keeps, h)) in
    let grown = cases_grow to item.2 c.args.depth item.0 item.1 item.3 rest c.args.behind l.code c.put.new.self c.emit_block.new.code c.put-in-loop-line.new.self
    c.in_ok-put.ensures c.in_ok-emit_block.ensures.code c.in_ok-put-2.ensures in
    (grown ∙ here, deep.1, omega arith, omega arith, keeps)

pub emit_node-returns-in_ok-emit_cases-in-Select-clause-code : goal.emit_node-returns-in_ok-emit_cases-in-Select-clause-code
emit_node-returns-in_ok-emit_cases-in-Select-clause-code t c = grind (arith, common_steps)

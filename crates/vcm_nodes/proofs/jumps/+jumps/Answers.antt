use Rattle.std.proofs.Common.{◌∙◌, ◌≤◌, length, sym, ap, arith, rules}
use Rattle.std.specs.Option.{option_copied}
use Rattle.std.proofs.lemmas.Result.{err_from_is_err_and}
use Rattle.vcm_spec.specs.Program.{case_sizes}
use Rattle.vcm_nodes.specs.Nodes.{other_of}
use Rattle.vcm_nodes.specs.Jumps.{own_labels}
use Rattle.vcm_nodes.specs.inner.Judging.{with_labels}
use Rattle.vcm_nodes.proofs.Entering.{given_up, entered_reach, entered_told}
use Rattle.vcm_nodes.proofs.JumpSteps.{judged_step, judged_told, judged_end, choice_reach, choice_told}
use Rattle.vcm_nodes.proofs.CaseSteps.{case_falls, default_falls, judged_case, told_case, judged_default, told_default}
use Rattle.vcm_nodes.proofs.jumps.+jumps.Goals as goal

pub check_block-returns-in_err-check_node-clause-fault : goal.check_block-returns-in_err-check_node-clause-fault
check_block-returns-in_err-check_node-clause-fault t c =
    let p = err_from_is_err_and c.from_residual-in_err-check_node.result c.from_residual-in_err-check_node.ensures.1 in
    let l = c.loop-node in
    let within = with_labels c.args.reach.now (own_labels c.args.block.now) in
    rw (p.1, p.2) (entered_told c.args.all.now c.args.reach.now c.args.block.now _
    (judged_told c.args.all.now within l.reach c.args.block.now c.deref-node-items.result.now l.node-index c.node-item.result _ c.loop-node-test.true c.node-item.is l.invariant.same
    l.invariant.judged c.in_err-check_node.ensures.fault))

pub check_block-loop-node-preserved : goal.check_block-loop-node-preserved
check_block-loop-node-preserved t c =
    let l = c.loop-node in
    let within = with_labels c.args.reach.now (own_labels c.args.block.now) in
    record {
      same = c.in_ok-check_node.ensures.same ∙ l.invariant.same;
      judged =
          judged_step c.args.all.now within l.reach c.args.block.now c.deref-node-items.result.now l.node-index c.node-item.result c.loop-node-test.true c.node-item.is l.invariant.same
          l.invariant.judged c.in_ok-check_node.ensures.ok;
    }

pub check_block-returns-clause-same : goal.check_block-returns-clause-same
check_block-returns-clause-same t c =
    let l = c.loop-node in
    c.truncate.ensures ∙ given_up c.args.reach.now (own_labels c.args.block.now) l.reach c.in_ok-before.before l.invariant.same c.in_ok-before.ensures.before

pub check_block-returns-clause-ok : goal.check_block-returns-clause-ok
check_block-returns-clause-ok t c =
    let l = c.loop-node in
    let all_of : length c.deref-node-items.result.now ≤ l.node-index = search rules in
    entered_reach c.args.all.now c.args.reach.now c.args.block.now
    (judged_end c.args.all.now (with_labels c.args.reach.now (own_labels c.args.block.now)) c.args.block.now c.deref-node-items.result.now l.node-index all_of l.invariant.judged)

pub check_node-returns-in_err-check_block-in-Some-clause-fault : goal.check_node-returns-in_err-check_block-in-Some-clause-fault
check_node-returns-in_err-check_block-in-Some-clause-fault t c =
    let p = err_from_is_err_and c.from_residual-in_err-check_block-in-Some.result c.from_residual-in_err-check_block-in-Some.ensures.1 in
    rw (p.1, p.2) (choice_told c.args.all.now c.args.node.now c.in-Choice.field-0 c.in-Choice.field-1 c.in-Choice.first c.in-Choice.other c.in-Choice.field-4
    c.in-Some.field-0-0 c.in-Some.second c.args.reach.now
    c.check_block.new.reach c.in-Choice.is c.in-Some.is c.in_ok-check_block-in-Choice.ensures.same c.in_ok-check_block-in-Choice.ensures.ok _ c.in_err-check_block-in-Some.ensures.fault)

pub check_node-returns-in_ok-check_block-in-Some-clause-ok : goal.check_node-returns-in_ok-check_block-in-Some-clause-ok
check_node-returns-in_ok-check_block-in-Some-clause-ok t c =
    choice_reach c.args.all.now c.args.node.now c.in-Choice.field-0 c.in-Choice.field-1 c.in-Choice.first c.in-Choice.other c.in-Choice.field-4 c.in-Some.field-0-0 c.in-Some.second c.args.reach.now
    c.check_block.new.reach c.in-Choice.is c.in-Some.is c.in_ok-check_block-in-Choice.ensures.same c.in_ok-check_block-in-Choice.ensures.ok c.in_ok-check_block-in-Some.ensures.ok

pub check_cases-check_block-requires : goal.check_cases-check_block-requires
check_cases-check_block-requires t c =
    let l = c.loop-block in
    let falls = case_falls c.cases-block-items.result.now (other_of c.args.cases.now) l.block-index c.loop-block-item.result c.loop-block-test.true c.loop-block-item.is in
    let all_of = ap case_sizes c.cases-block-items.ensures in
    (omega arith, tt)

pub check_cases-returns-in_err-check_block-clause-fault : goal.check_cases-returns-in_err-check_block-clause-fault
check_cases-returns-in_err-check_block-clause-fault t c =
    let p = err_from_is_err_and c.from_residual.result c.from_residual.ensures.1 in
    let l = c.loop-block in
    rw (p.1, p.2) (told_case c.args.all.now c.args.reach.now c.args.cases.now l.reach c.cases-block-items.result.now (other_of c.args.cases.now) l.block-index
    c.loop-block-item.result _ c.loop-block-test.true c.loop-block-item.is l.invariant.same
    l.invariant.judged c.in_err-check_block.ensures.fault)

pub check_cases-loop-block-preserved : goal.check_cases-loop-block-preserved
check_cases-loop-block-preserved t c =
    let l = c.loop-block in
    record {
      same = c.in_ok-check_block.ensures.same ∙ l.invariant.same;
      judged =
          judged_case c.args.all.now c.args.reach.now c.args.cases.now l.reach c.cases-block-items.result.now (other_of c.args.cases.now) l.block-index
          c.loop-block-item.result c.loop-block-test.true c.loop-block-item.is l.invariant.same
          l.invariant.judged c.in_ok-check_block.ensures.ok;
    }

pub check_cases-check_block-requires-in-Some : goal.check_cases-check_block-requires-in-Some
check_cases-check_block-requires-in-Some t c =
    let falls = default_falls c.args.cases.now c.in-Some.field-0.now (ap option_copied (sym c.in-Some.is) ∙ c.default.ensures) in
    (omega arith, tt)

pub check_cases-returns-in_err-check_block-in-Some-clause-fault : goal.check_cases-returns-in_err-check_block-in-Some-clause-fault
check_cases-returns-in_err-check_block-in-Some-clause-fault t c =
    let p = err_from_is_err_and c.from_residual-in_err-check_block-in-Some.result c.from_residual-in_err-check_block-in-Some.ensures.1 in
    let l = c.loop-block in
    let all_of : length c.cases-block-items.result.now ≤ l.block-index = search rules in
    rw (p.1, p.2) (told_default c.args.all.now c.args.reach.now c.args.cases.now l.reach c.cases-block-items.result.now (other_of c.args.cases.now) l.block-index c.in-Some.field-0.now all_of
    (ap option_copied (sym c.in-Some.is) ∙ c.default.ensures) l.invariant.same l.invariant.judged _ c.in_err-check_block-in-Some.ensures.fault)

pub check_cases-returns-in_ok-check_block-in-Some-clause-ok : goal.check_cases-returns-in_ok-check_block-in-Some-clause-ok
check_cases-returns-in_ok-check_block-in-Some-clause-ok t c =
    let l = c.loop-block in
    let all_of : length c.cases-block-items.result.now ≤ l.block-index = search rules in
    judged_default c.args.all.now c.args.reach.now c.args.cases.now l.reach c.cases-block-items.result.now (other_of c.args.cases.now) l.block-index c.in-Some.field-0.now all_of
    (ap option_copied (sym c.in-Some.is) ∙ c.default.ensures) l.invariant.same l.invariant.judged c.in_ok-check_block-in-Some.ensures.ok

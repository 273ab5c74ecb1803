use Rattle.std.proofs.Common.{take, refl, sym, ap, ◌∙◌}
use Rattle.std.proofs.lemmas.List.{take_all}
use Rattle.std.specs.Prelude.{not}
use Rattle.vcm_spec.proofs.PhaseLemmas.{clean_item, clean_done, fault_item, fault_done}
use Rattle.vcm_macro.specs.Order.{nothing_before, order_behind, order_after, BreaksOrder, order_line}
use Rattle.vcm_macro.proofs.Lists.{take_next}
use Rattle.vcm_macro.proofs.Orders.{order_push, in_place, at_end}
use Rattle.vcm_macro.proofs.order.check_order.Goals as goal

pub returns-then-is_misplaced : goal.returns-then-is_misplaced
returns-then-is_misplaced c =
    let i = c.loop-statement.invariant in
    fault_item BreaksOrder order_line c.args.statements.now c.loop-statement.statement-index c.statement-item.result _ _ c.loop-statement-test.true c.statement-item.is i.clean
    (rw (← i.order) (sym c.if-is_misplaced.ensures)) refl

pub loop-statement-preserved : goal.loop-statement-preserved
loop-statement-preserved c =
    let i = c.loop-statement.invariant in
    let before = take c.loop-statement.statement-index c.args.statements.now in
    let here = c.statement-item.result in
    let more = take_next c.args.statements.now c.loop-statement.statement-index here c.loop-statement-test.true c.statement-item.is in
    record {
      clean = clean_item BreaksOrder c.args.statements.now c.loop-statement.statement-index here c.loop-statement-test.true c.statement-item.is i.clean
          (in_place before here (rw (← i.order) (sym c.if-is_misplaced.ensures)));
      order = rw more (c.behind-order.ensures ∙ ap (λ o. order_behind o here) i.order ∙ sym (order_push nothing_before before here));
    }

pub returns-then-not-order : goal.returns-then-not-order
returns-then-not-order c =
    let i = c.loop-statement.invariant in
    let all = take_all c.loop-statement.statement-index c.args.statements.now c.loop-statement-test.false in
    let e = i.order ∙ ap (order_after nothing_before) all in
    fault_done BreaksOrder order_line c.args.statements.now c.loop-statement.statement-index _ _ c.loop-statement-test.false i.clean
    (ap (λ o. not o.ended) (sym e) ∙ c.if-not-order.true) (ap (λ o. o.last) e)

pub returns : goal.returns
returns c =
    let i = c.loop-statement.invariant in
    let all = take_all c.loop-statement.statement-index c.args.statements.now c.loop-statement-test.false in
    let e = i.order ∙ ap (order_after nothing_before) all in
    clean_done BreaksOrder c.args.statements.now c.loop-statement.statement-index c.loop-statement-test.false i.clean
    (at_end c.args.statements.now (ap (λ o. not o.ended) (sym e) ∙ c.if-not-order.false))

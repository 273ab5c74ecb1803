use Rattle.std.proofs.Common.{sym, ap, ◌∙◌, Ok, rules, FitsSigned, w64}
use Rattle.std.proofs.lemmas.Int.{to_z-of_z}
use Rattle.vcm_spec.specs.Value.{value_of, unary_value}
use Rattle.vcm_spec.specs.declared.expression.UnaryOp.TheVariants.{Scale}
use Rattle.vcm_expr.specs.inner.Trees.{items_of}
use Rattle.vcm_expr.proofs.TypedItems.{leaf_is, leaf_below, scaled_is, scaled_below, spelled_fit}
use Rattle.vcm_items.proofs.Truths.{truth_of, truth_result}
use Rattle.vcm_expr.proofs.value.eval.Goals as goal

pub operand-requires : goal.operand-requires
operand-requires c = leaf_below _ c.in-Leaf.x c.args.e.now (sym (ap (λ k. items_of k) c.in-Leaf.is) ∙ c.kept.ensures.items) c.requires

pub carried_out-requires : goal.carried_out-requires
carried_out-requires c =
    rw c.deref.ensures.value (spelled_fit _ _ c.args.e.now (sym (ap (λ k. items_of k) c.in-Postfix.is) ∙ c.kept.ensures.items) c.requires c.kept.ensures.shallow)

pub returns-in-Leaf-clause-value : goal.returns-in-Leaf-clause-value
returns-in-Leaf-clause-value c =
    let in_range : FitsSigned w64 c.operand.result = search rules in
    let is = leaf_is c.in-Leaf.x c.args.e.now (sym (ap (λ k. items_of k) c.in-Leaf.is) ∙ c.kept.ensures.items) in
    rw to_z-of_z (ap (λ v. Ok v) c.operand.ensures ∙ ap (value_of c.args.slots.now) is)

pub returns-in-Leaf-clause-truth : goal.returns-in-Leaf-clause-truth
returns-in-Leaf-clause-truth c =
    let in_range : FitsSigned w64 c.operand.result = search rules in
    let is = leaf_is c.in-Leaf.x c.args.e.now (sym (ap (λ k. items_of k) c.in-Leaf.is) ∙ c.kept.ensures.items) in
    rw to_z-of_z (truth_of c.args.slots.now c.args.e.now c.operand.result (ap (λ v. Ok v) c.operand.ensures ∙ ap (value_of c.args.slots.now) is))

pub returns-in-Postfix-clause-truth : goal.returns-in-Postfix-clause-truth
returns-in-Postfix-clause-truth c =
    truth_result c.args.slots.now c.args.e.now _ (c.carried_out.ensures c.args.e.now (c.deref.ensures.value ∙ (sym (ap (λ k. items_of k) c.in-Postfix.is) ∙ c.kept.ensures.items)))

pub operand-requires-in-Scaled : goal.operand-requires-in-Scaled
operand-requires-in-Scaled c = scaled_below _ c.in-Scaled.x c.args.e.now (sym (ap (λ k. items_of k) c.in-Scaled.is) ∙ c.kept.ensures.items) c.requires

pub returns-in-Scaled-clause-value : goal.returns-in-Scaled-clause-value
returns-in-Scaled-clause-value c =
    let in_range : FitsSigned w64 c.operand-in-Scaled.result = search rules in
    let is = scaled_is c.in-Scaled.x c.args.e.now (sym (ap (λ k. items_of k) c.in-Scaled.is) ∙ c.kept.ensures.items) in
    let value = (rw to_z-of_z at c.unary.ensures) ∙ ap (λ v. unary_value Scale v) c.operand-in-Scaled.ensures ∙ ap (value_of c.args.slots.now) is in
    value

pub returns-in-Scaled-clause-truth : goal.returns-in-Scaled-clause-truth
returns-in-Scaled-clause-truth c =
    let in_range : FitsSigned w64 c.operand-in-Scaled.result = search rules in
    let is = scaled_is c.in-Scaled.x c.args.e.now (sym (ap (λ k. items_of k) c.in-Scaled.is) ∙ c.kept.ensures.items) in
    let value = (rw to_z-of_z at c.unary.ensures) ∙ ap (λ v. unary_value Scale v) c.operand-in-Scaled.ensures ∙ ap (value_of c.args.slots.now) is in
    truth_result c.args.slots.now c.args.e.now _ value

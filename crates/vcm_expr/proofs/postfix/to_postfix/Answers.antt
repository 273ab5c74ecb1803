use Rattle.std.proofs.Common.{sym, ap, ◌∙◌}
use Rattle.vcm_expr.specs.inner.Trees.{items_of}
use Rattle.vcm_expr.proofs.TypedItems.{spelled_kind, spelled_short}
use Rattle.vcm_expr.proofs.postfix.to_postfix.Goals as goal

pub returns-in_ok-from_slice-in-Leaf-clause-kind : goal.returns-in_ok-from_slice-in-Leaf-clause-kind
returns-in_ok-from_slice-in-Leaf-clause-kind c =
    rw c.in_ok-from_slice-in-Leaf.ensures (spelled_kind _ c.args.e.now (sym (ap (λ k. items_of k) c.in-Leaf.is) ∙ c.kept.ensures.items) c.kept.ensures.shallow)

pub returns-in_ok-unpacked-in-Postfix-clause-kind : goal.returns-in_ok-unpacked-in-Postfix-clause-kind
returns-in_ok-unpacked-in-Postfix-clause-kind c =
    rw (c.in_ok-unpacked-in-Postfix.ensures, c.deref.ensures.value) (spelled_kind _ c.args.e.now (sym (ap (λ k. items_of k) c.in-Postfix.is) ∙ c.kept.ensures.items) c.kept.ensures.shallow)

pub returns-in_ok-unpacked-in-Postfix-clause-count : goal.returns-in_ok-unpacked-in-Postfix-clause-count
returns-in_ok-unpacked-in-Postfix-clause-count c =
    rw (c.in_ok-unpacked-in-Postfix.ensures, c.deref.ensures.value) (spelled_short _ c.args.e.now (sym (ap (λ k. items_of k) c.in-Postfix.is) ∙ c.kept.ensures.items) c.kept.ensures.few)

pub returns-in_ok-from_slice-in-Scaled-clause-kind : goal.returns-in_ok-from_slice-in-Scaled-clause-kind
returns-in_ok-from_slice-in-Scaled-clause-kind c =
    rw c.in_ok-from_slice-in-Scaled.ensures (spelled_kind _ c.args.e.now (sym (ap (λ k. items_of k) c.in-Scaled.is) ∙ c.kept.ensures.items) c.kept.ensures.shallow)

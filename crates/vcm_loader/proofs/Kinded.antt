-- Items have one kind at most; the last statement.
use Rattle.std.proofs.Common.{◌≡◌, ℕ, zero, suc, ◌+◌, ◌-◌, List, [], ◌∷◌, length, Bool, false, Some, sym, ap, ◌∙◌, subst, arith}
use Rattle.std.specs.Prelude.{slice_get}
use Rattle.vcm_num.specs.declared.number.Kind.{Kind}
use Rattle.vcm_spec.specs.declared.expression.Item.{Item}
use Rattle.vcm_spec.specs.Expression.{HasKind, kind_of}
use Rattle.vcm_spec.proofs.Postfix.{one_tree}
use Rattle.vcm_code.specs.Valid.{IsLast, Ends}
use Rattle.vcm_code.specs.Deciding.{Tells}
use Rattle.vcm_code.specs.Code.{CodeStatement}

pub one_kind : (kinds : List Kind) (items : List Item) (k l : Kind) → HasKind kinds items k → HasKind kinds items l → k ≡ l
one_kind kinds items k l a b =
    let e = one_tree a.tree b.tree (sym a.spelled ∙ b.spelled) in
    let f = sym a.typed ∙ ap (kind_of kinds) e ∙ b.typed in cc

pub same_kind : (kinds : List Kind) (items : List Item) (k want : Kind) (r : Bool) → HasKind kinds items k → Tells r (k ≡ want) → Tells r (HasKind kinds items want)
same_kind kinds items k want r h t = record {
  so = λ e. subst (HasKind kinds items) (t.so e) h;
  only = λ a. t.only (one_kind kinds items k want h a);
}

pub no_kind : (kinds : List Kind) (items : List Item) (want : Kind) → ((k : Kind) → HasKind kinds items k → ⊥) → Tells false (HasKind kinds items want)
no_kind kinds items want not = record { so = λ e. absurd cc; only = λ a. absurd (not want a) }

-- it is the last one that ends them
ends_at : (ss : List CodeStatement) (k : ℕ) (s : CodeStatement) → slice_get ss k ≡ Some s → k + 1 ≡ length ss → Ends ss ≡ IsLast s.op
ends_at [] k s e l = absurd cc
ends_at (x ∷ []) zero s e l = (let same : x ≡ s = cc in ap (λ y. IsLast y.op) same)
ends_at (x ∷ []) (suc k) s e l = absurd (omega arith)
ends_at (x ∷ y ∷ ss) zero s e l = absurd (omega arith)
ends_at (x ∷ y ∷ ss) (suc k) s e l = ends_at (y ∷ ss) k s e (omega arith)

pub tells_end : (ss : List CodeStatement) (s : CodeStatement) (r : Bool) → Some s ≡ slice_get ss (length ss - 1) → Tells r (IsLast s.op) → Tells r (Ends ss)
tells_end [] s r e t = absurd cc
tells_end (x ∷ ss) s r e t = subst (Tells r) (sym (ends_at (x ∷ ss) (length (x ∷ ss) - 1) s (sym e) (omega arith))) t

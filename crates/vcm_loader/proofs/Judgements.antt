-- Checks, one list after the other.
use Rattle.std.proofs.Common.{◌≡◌, inl, inr, ℕ, List, [], ◌∷◌, ◌++◌, slice_get, Some, sym, ◌∙◌, subst}
use Rattle.vcm_num.specs.declared.number.Kind.{Kind}
use Rattle.vcm_spec.specs.declared.expression.Item.{Item}
use Rattle.vcm_spec.specs.Expression.{HasKind}
use Rattle.vcm_fields.specs.declared.fault.ImageFault.{ImageFault}
use Rattle.vcm_code.specs.declared.branch.Branch.{Branch}
use Rattle.vcm_code.specs.Checks.{Check, target, indexes, typed, assigned, ItemsBelow, AllHold, targets}
use Rattle.vcm_loader.specs.Loading.{FirstFailedCheck}

-- what is told of the first list is told of both
pub first_here : (cs ds : List Check) (e : ImageFault) → FirstFailedCheck cs e → FirstFailedCheck (cs ++ ds) e
first_here [] ds e h = absurd h
first_here (c ∷ cs) ds e (inl h) = inl (h.0, first_here cs ds e h.1)
first_here (c ∷ cs) ds e (inr h) = inr h

-- where all of the first list hold, what is told of the second is
pub first_later : (cs ds : List Check) (e : ImageFault) → AllHold cs → FirstFailedCheck ds e → FirstFailedCheck (cs ++ ds) e
first_later [] ds e h g = g
first_later (c ∷ cs) ds e h g = inl (h.0, first_later cs ds e h.1 g)

-- an expression of the variable's kind
pub assigned_ok : (kinds : List Kind) (v n : ℕ) (items : List Item) (k : Kind) → slice_get kinds v ≡ Some k
    → AllHold (indexes items n ∷ typed kinds items k ∷ []) → AllHold (indexes items n ∷ assigned kinds v items ∷ [])
assigned_ok kinds v n items k e h = (h.0, ((k, e, h.1.0), tt))

pub assigned_err : (kinds : List Kind) (v n : ℕ) (items : List Item) (k : Kind) (f : ImageFault) → slice_get kinds v ≡ Some k
    → FirstFailedCheck (indexes items n ∷ typed kinds items k ∷ []) f → FirstFailedCheck (indexes items n ∷ assigned kinds v items ∷ []) f
assigned_err kinds v n items k f e (inl (a, inl (b, c))) = absurd c
assigned_err kinds v n items k f e (inl (a, inr (b, c))) = inl (a, inr (λ g. let same : Some g.0 ≡ Some k = sym g.1 ∙ e in let one : g.0 ≡ k = cc in b (subst (HasKind kinds items) one g.2), c))
assigned_err kinds v n items k f e (inr h) = inr h

-- what is told of the targets of branches hangs on the branches that are left
pub record AreBelow (n : ℕ) (branches rest : List Branch) : Type 0 where
  pub on : AllHold (targets rest n) → AllHold (targets branches n)
  pub first : (e : ImageFault) → FirstFailedCheck (targets rest n) e → FirstFailedCheck (targets branches n) e

module _ (n : ℕ) (branches rest after : List Branch) (b : Branch) (h : AreBelow n branches rest) (e : rest ≡ b ∷ after) where
  pub below_more : AllHold (target b.target n ∷ []) → AreBelow n branches after
  below_more g = record {
    on = λ k. h.on (subst (λ bs. AllHold (targets bs n)) (sym e) (g.0, k));
    first = λ f k. h.first f (subst (λ bs. FirstFailedCheck (targets bs n) f) (sym e) (inl (g.0, k)));
  }

pub below_all : (n : ℕ) (branches rest : List Branch) → AreBelow n branches rest → rest ≡ [] → AllHold (targets branches n)
below_all n branches rest h e = h.on (subst (λ bs. AllHold (targets bs n)) (sym e) tt)

-- whether all variables of an expression are below a count hangs on the items that are left
pub record Below (n : ℕ) (items rest : List Item) : Type 0 where
  pub on : ItemsBelow n rest → ItemsBelow n items
  pub back : ItemsBelow n items → ItemsBelow n rest

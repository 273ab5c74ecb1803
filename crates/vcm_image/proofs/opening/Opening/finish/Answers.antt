use Rattle.std.proofs.Common.{◌≡◌, sym, ◌∙◌, subst, ap, Ok, Err}
use Rattle.std.proofs.lemmas.Bool.{eqb-true}
use Rattle.vcm_fields.specs.declared.fault.ImageFault.TheVariants.{Trailing}
use Rattle.vcm_image.specs.Whole.{ended}
use Rattle.vcm_image.specs.Opened.{Opened}
use Rattle.vcm_image.proofs.Tables.{not_zero}
use Rattle.vcm_image.proofs.Openings.{left_over, finished, indexed}
use Rattle.vcm_image.proofs.opening.Opening.finish.Goals as goal

pub returns-then-not-is_empty : goal.returns-then-not-is_empty
returns-then-not-is_empty c =
    let done = subst (λ (o : Opened). o.left ≡ 0) (sym c.self.view_is) c.requires in
    subst (λ (o : Opened). ended (o.code, o.rest) ≡ Err Trailing) c.self.view_is
    (left_over _ _ _ _ _ _ _ _ _ c.self.invariant done (not_zero _ (sym c.is_empty.ensures ∙ c.if-not-is_empty.true)))

pub new-requires : goal.new-requires
new-requires c =
    let done = subst (λ (o : Opened). o.left ≡ 0) (sym c.self.view_is) c.requires in
    indexed _ _ _ _ _ _ _ _ _ c.self.invariant done (eqb-true _ _ (sym c.is_empty.ensures ∙ c.if-not-is_empty.false))

pub returns : goal.returns
returns c =
    let done = subst (λ (o : Opened). o.left ≡ 0) (sym c.self.view_is) c.requires in
    subst (λ (o : Opened). ended (o.code, o.rest) ≡ Ok c.new.result) c.self.view_is
    (finished _ _ _ _ _ _ _ _ _ c.self.invariant done (eqb-true _ _ (sym c.is_empty.ensures ∙ c.if-not-is_empty.false)) ∙ ap Ok (sym c.new.ensures))

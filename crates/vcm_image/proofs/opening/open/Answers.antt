use Rattle.std.proofs.Common.{ap, subst, ◌∙◌, arith}
use Rattle.vcm_fields.specs.Readers.{GivesOrNoMemory}
use Rattle.vcm_image.specs.Whole.{code_at}
use Rattle.vcm_image.proofs.Wholes.{is_found, code_again}
use Rattle.vcm_image.proofs.opening.open.Goals as goal

pub returns-clause-found : goal.returns-clause-found
returns-clause-found c = is_found c.args.bytes.now c.opened.result (λ i. omega (arith, c.type_inv.bytes i)) c.opened.ensures

pub returns-clause-only : goal.returns-clause-only
returns-clause-only c = λ d fits e. subst (λ f. GivesOrNoMemory (λ s. s) c.opened.result f) (ap code_at e ∙ code_again d fits) c.opened.ensures

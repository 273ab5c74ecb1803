-- The statements of a text, step by step.
use Rattle.std.proofs.Common.{◌≡◌, ℕ, List, ap, ◌∙◌}
use Rattle.vcm_lines.specs.declared.logical.Logical.{Logical}
use Rattle.vcm_forms.specs.declared.statement.Statement.{Statement}
use Rattle.vcm_said.specs.All.{said_all}
use Rattle.vcm_given.specs.declared.choices.Choices.{Choices}
use Rattle.vcm_given.specs.Chosen.{chosen}
use Rattle.vcm_given.specs.Texts.{given_texts}
use Rattle.vcm_compared.specs.Compared.{compared}
use Rattle.vcm_datums.specs.Dated.{dated}
use Rattle.vcm_doubts.specs.Settled.{settled}
use Rattle.vcm_whole.specs.Whole.{statements_of}

pub said_to_the_end : (c : Choices) (text : List ℕ) (ls : List Logical) (given : List (List ℕ)) (said told picked with_datums out : List Statement)
    → given ≡ given_texts c.answers → said ≡ said_all ls → told ≡ compared given ls said → picked ≡ chosen c ls told → with_datums ≡ dated ls picked
    → out ≡ settled text ls with_datums → out ≡ statements_of c text ls
said_to_the_end c text ls given said told picked with_datums out g a k b d e =
    e ∙ ap (λ x. settled text ls x) (d ∙ ap (λ x. dated ls x) (b ∙ ap (λ x. chosen c ls x)
    (k ∙ (ap (λ x. compared x ls said) g ∙ ap (λ x. compared (given_texts c.answers) ls x) a))))

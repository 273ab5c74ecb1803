-- What is chosen, by what the lines ask for and by what is said of them.
use Rattle.std.proofs.Common.{◌≡◌, ℕ, false, List, ap, ◌∙◌}
use Rattle.vcm_lines.specs.declared.logical.Logical.{Logical}
use Rattle.vcm_forms.specs.declared.statement.Statement.{Statement}
use Rattle.vcm_given.specs.declared.choices.Choices.{Choices}
use Rattle.vcm_given.specs.declared.answers.Asked.{Asked}
use Rattle.vcm_given.specs.declared.spoken.Spoken.{Spoken}
use Rattle.vcm_given.specs.declared.tips.OtherTip.{OtherTip}
use Rattle.vcm_given.specs.Texts.{fitting_answers}
use Rattle.vcm_given.specs.Spoken.{spoken}
use Rattle.vcm_given.specs.Tips.{other_tips}
use Rattle.vcm_given.specs.Chosen.{asked_from, chosen_by, chosen}

pub by_these : (c : Choices) (ls : List Logical) (qs : List Asked) (ps : List Spoken) (ts : List OtherTip) (ss out : List Statement)
    → qs ≡ asked_from (fitting_answers c.answers ls) false ls → ps ≡ spoken c.probes c.harmless c.table ls → ts ≡ other_tips c.probes c.tip ls → out ≡ chosen_by c qs ps ts ss → out ≡ chosen c ls ss
by_these c ls qs ps ts ss out a s t e =
    e ∙ ap (λ x. chosen_by c x ps ts ss) a ∙ ap (λ x. chosen_by c (asked_from (fitting_answers c.answers ls) false ls) x ts ss) s
    ∙ ap (λ x. chosen_by c (asked_from (fitting_answers c.answers ls) false ls) (spoken c.probes c.harmless c.table ls) x ss) t

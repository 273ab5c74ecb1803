use Rattle.std.proofs.Common.{◌++◌, ◌∷◌, [], sym, ap, ◌∙◌, subst}
use Rattle.vcm_asm.specs.inner.Once.{Absent}
use Rattle.vcm_asm.proofs.Numbering.{insert_absent}
use Rattle.vcm_asm.proofs.numbers.Numbers.add.Goals as goal

pub returns : goal.returns
returns c =
    c.in_ok-insert.ensures.entries
    ∙ insert_absent c.self.inside.map.entries c.args.label c.args.number (subst (Absent c.args.label) (sym c.self.view_is) c.requires)
    ∙ ap (λ ms. ms ++ (c.args.label, c.args.number) ∷ []) c.self.view_is

use Rattle.std.proofs.Common.{◌++◌, ap, ◌∙◌, append_assoc, rules, FitsSigned, w64, to_z-of_z}
use Rattle.vcm_fields.specs.Spelling.{signed, long}
use Rattle.vcm_image.proofs.operands.branch.Goals as goal

pub returns-clause-bytes : goal.returns-clause-bytes
returns-clause-bytes c =
    let f : FitsSigned w64 c.args.value = search rules in
    let n = rw (to_z-of_z f) at c.in_ok-number.ensures in
    c.in_ok-long.ensures ∙ ap (λ l. l ++ long c.args.target) n ∙ append_assoc c.args.out.now.items (signed c.args.value) (long c.args.target)

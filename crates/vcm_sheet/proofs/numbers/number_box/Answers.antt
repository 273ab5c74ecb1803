use Rattle.std.proofs.Common.{◌∙◌, ap, rules, w64, FitsSigned, to_z-of_z}
use Rattle.vcm_picture.specs.Names.{beside}
use Rattle.vcm_sheet.proofs.numbers.number_box.Goals as goal

pub returns : goal.returns
returns c =
    let fl : FitsSigned w64 c.letters_of.result = search rules in
    let e = simp to_z-of_z at c.label_beside.ensures in
    e ∙ ap (λ n. beside c.args.scope c.args.at n c.args.taken.now) c.letters_of.ensures.letters

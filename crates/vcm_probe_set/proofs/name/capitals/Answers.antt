use Rattle.std.proofs.Common.{List, ℕ, [], ◌∷◌, ap, ◌∙◌}
use Rattle.vcm_boxes.specs.Labels.{label_of}
use Rattle.vcm_probe_set.proofs.Capitals.{capitals_front}
use Rattle.vcm_probe_set.proofs.name.capitals.Goals as goal

abbrev zeros : List ℕ
zeros = 0 ∷ 0 ∷ 0 ∷ 0 ∷ 0 ∷ 0 ∷ 0 ∷ 0 ∷ 0 ∷ 0 ∷ 0 ∷ 0 ∷ 0 ∷ 0 ∷ 0 ∷ 0 ∷ []

pub returns : goal.returns
returns c =
    c.of.ensures ∙ ap (label_of 16) (capitals_front c.args.bytes.now c.copy_from_slice.new.self c.make_ascii_uppercase.new.self zeros
    c.copy_from_slice.ensures.after c.make_ascii_uppercase.ensures.after)

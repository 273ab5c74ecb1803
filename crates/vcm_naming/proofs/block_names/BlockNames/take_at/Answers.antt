use Rattle.std.proofs.Common.{ap, ◌∙◌, [], slice_set, Vec, ℕ, Global}
use Rattle.vcm_naming.proofs.Texts.{map_set}
use Rattle.vcm_naming.proofs.block_names.BlockNames.take_at.Goals as goal

pub returns-then-place-len : goal.returns-then-place-len
returns-then-place-len c =
    map_set (λ (v : Vec ℕ Global). v.items) c.self.inside.names.items c.place_of-place.result c.clear.new.self [] c.clear.ensures.items
    ∙ ap (λ l. slice_set l c.place_of-place.result []) c.self.view_is ∙ ap (λ i. slice_set c.args.self.now i []) c.place_of-place.ensures

use Rattle.std.proofs.Common.{◌∙◌}
use Rattle.vcm_picture.proofs.Layouting.{picture_written}
use Rattle.vcm_picture.proofs.picture.write_picture.Goals as goal

pub returns-in-Ok : goal.returns-in-Ok
returns-in-Ok g c = picture_written _ _ _ _ _ (c.as_slice.ensures.value ∙ c.in-Ok.ensures) c.write_bytes.ensures

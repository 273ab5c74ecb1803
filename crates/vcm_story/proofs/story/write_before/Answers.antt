use Rattle.std.proofs.Common.{refl, ap, ◌∙◌}
use Rattle.std.proofs.lemmas.Result.{err_from_is_err_and}
use Rattle.vcm_num.proofs.KnownWrites.{front_first, wrote_then}
use Rattle.vcm_story.proofs.story.write_before.Goals as goal

pub returns-in_err-write_opening : goal.returns-in_err-write_opening
returns-in_err-write_opening g c =
    let p = err_from_is_err_and c.from_residual.result c.from_residual.ensures.1 in
    rw p.1 (front_first _ _ _ _ _ refl c.in_err-write_opening.ensures)

pub returns : goal.returns
returns g c =
    let tables = c.world.ensures.tables ∙ ap (λ k. k.tables) c.requires in
    wrote_then _ _ _ _ _ _ _ refl c.in_ok-write_opening.ensures (rw (tables, c.world.ensures.state) at c.write_start.ensures)

use Rattle.std.proofs.lemmas.Int.{to_z-of_z}
use Rattle.vcm_boxing.proofs.Inside.{below_in}
use Rattle.vcm_boxing.proofs.range.below.Goals as goal

pub returns : goal.returns
returns c =
    let f = c.ranges.at in
    below_in c.args.range.now c.with_stretch.result c.args.axis c.args.at c.requires (simp to_z-of_z at c.with_stretch.ensures)

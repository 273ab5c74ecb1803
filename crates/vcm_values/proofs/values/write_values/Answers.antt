use Rattle.std.proofs.Common.{refl}
use Rattle.std.proofs.lemmas.Result.{err_from_is_err_and}
use Rattle.vcm_num.proofs.KnownWrites.{front_then, front_first}
use Rattle.vcm_values.specs.Values.{value_line}
use Rattle.vcm_values.proofs.Cuts.{items_cut}
use Rattle.vcm_values.proofs.values.write_values.Goals as goal

pub returns-in_err-write_line : goal.returns-in_err-write_line
returns-in_err-write_line g c =
    let p = err_from_is_err_and c.from_residual.result c.from_residual.ensures.1 in
    rw p.1 (front_then _ _ _ _ _ _ (items_cut (value_line c.args.tables.now c.args.values.now) c.args.wanted.now c.loop-index.index-index _ c.loop-index-test.true) c.loop-index.invariant.written
    (front_first _ _ _ _ _ refl c.in_err-write_line.ensures))

use Rattle.std.proofs.Common.{refl}
use Rattle.std.proofs.lemmas.Result.{err_from_is_err_and}
use Rattle.vcm_num.proofs.KnownWrites.{front_then, front_first}
use Rattle.vcm_rows.specs.Spelled.{spelled_byte}
use Rattle.vcm_rows.proofs.RowLemmas.{flat_cut}
use Rattle.vcm_rows.proofs.spelled.write_spelled.Goals as goal

pub returns-in_err-write_byte : goal.returns-in_err-write_byte
returns-in_err-write_byte g c =
    let p = err_from_is_err_and c.from_residual.result c.from_residual.ensures.1 in
    rw p.1 (front_then _ _ _ _ _ _ (flat_cut spelled_byte c.args.bytes.now c.loop-byte.byte-index _ c.loop-byte-test.true) c.loop-byte.invariant.written
    (front_first _ _ _ _ _ refl c.in_err-write_byte.ensures))

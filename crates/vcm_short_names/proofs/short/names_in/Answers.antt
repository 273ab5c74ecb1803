use Rattle.std.proofs.Common.{◌≡◌, []}
use Rattle.vcm_short_names.specs.Short.{names_from, names_in}
use Rattle.vcm_short_names.proofs.Full.{full_names}
use Rattle.vcm_short_names.proofs.short.names_in.Goals as goal

pub returns : goal.returns
returns c =
    let e : names_from c.as_slice.result.now [] c.as_slice-2.result.now ≡ names_in c.args.pieces.now =
    cc (full_names c.args.pieces.now, c.in_ok-full.ensures, c.in_ok-longs.ensures) in
    rw e at c.names_from.ensures

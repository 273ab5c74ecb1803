use Rattle.std.proofs.lemmas.Option.{slice_get-get_or}
use Rattle.vcm_cover.proofs.space.is_free.Goals as goal

pub returns : goal.returns
returns c = λ e. record {
  free = λ s x some i. record {
    index = c.args.number;
    region = _;
    stands = slice_get-get_or c.args.regions.now c.args.number _ c.if-index-regions.false;
    inside = c.is_around.ensures e s x some i;
  };
}

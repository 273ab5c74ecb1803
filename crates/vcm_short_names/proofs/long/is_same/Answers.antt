use Rattle.vcm_short_names.proofs.Raised.{one_name}
use Rattle.vcm_short_names.proofs.long.is_same.Goals as goal

pub returns : goal.returns
returns c = one_name c.eq_ignore_ascii_case.result c.args.word.now c.args.other.now c.eq_ignore_ascii_case.ensures.test

use Rattle.std.proofs.Common.{refl}
use Rattle.std.proofs.lemmas.Str.Ascii.{trim_ascii_is}
use Rattle.vcm_survey.specs.Faults.{without_front}
use Rattle.vcm_survey.proofs.listing.shown.Goals as goal

pub returns : goal.returns
returns c = trim_ascii_is c.args.line.now _ (without_front c.args.line.now) refl c.trim_ascii.ensures.value

use Rattle.vcm_whole.proofs.OneWhole.{put_once, wholes_are_one}
use Rattle.vcm_whole.proofs.laws.wholes_are_one.Goals as goal

pub returns-clause-put : goal.returns-clause-put
returns-clause-put c = put_once

pub returns-clause-whole : goal.returns-clause-whole
returns-clause-whole c = wholes_are_one

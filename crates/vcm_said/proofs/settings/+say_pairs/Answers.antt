use Rattle.vcm_said.proofs.Pairing.{pairs_put}
use Rattle.vcm_said.proofs.settings.+say_pairs.Goals as goal

-- src/settings.rt:254:1
pub returns : goal.returns
returns t c =
    pairs_put _ _ c.args.line c.args.left c.say_pairs.result c.in-Some.is c.if-left-eq0.false c.in_ok-rest.ensures.said c.in_ok-rest.ensures.behind c.say_pairs.ensures

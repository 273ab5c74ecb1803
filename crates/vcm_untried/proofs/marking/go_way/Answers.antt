use Rattle.std.proofs.Common.{ap, ◌∙◌, false}
use Rattle.vcm_untried.specs.Marking.{marks_in}
use Rattle.vcm_untried.proofs.Markings.{gone_elsewhere, gone_there}
use Rattle.vcm_untried.proofs.marking.go_way.Goals as goal

pub returns-then-not-begins : goal.returns-then-not-begins
returns-then-not-begins c = gone_there (marks_in c.args.to.now) c.args.step c.if-not-begins.true

pub returns : goal.returns
returns c =
    let m = marks_in c.args.to.now in
    ap (λ l. record m { elsewhere = l; begins = false }) c.in_ok-push.ensures.items ∙ gone_elsewhere m c.args.step c.if-not-begins.false

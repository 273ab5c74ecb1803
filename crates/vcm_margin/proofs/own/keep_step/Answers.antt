use Rattle.std.proofs.Common.{◌∙◌}
use Rattle.vcm_margin.proofs.Looked.{measured_is}
use Rattle.vcm_margin.proofs.Keeping.{keeps_more}
use Rattle.vcm_margin.proofs.own.keep_step.Goals as goal

pub returns : goal.returns
returns g c = λ part n h.
    let put = c.in_ok-put.ensures in
    let which = c.measured-which.ensures ∙ measured_is c.args.loaded.now c.args.machine.now.state c.next.result c.statement-statement.result c.next.ensures.is c.statement-statement.ensures in
    keeps_more _ _ _ _ _ _ _ _ _ _ _ _ _ _ _ h c.in_ok-step.ensures.ok c.shown_by.ensures which put.nexts put.points put.running put.stop

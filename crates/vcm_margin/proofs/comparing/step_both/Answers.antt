use Rattle.std.proofs.Common.{◌∙◌}
use Rattle.vcm_margin.specs.Alike.{reached}
use Rattle.vcm_margin.proofs.Looked.{if_none, measured_is}
use Rattle.vcm_margin.proofs.Together.{goes_on}
use Rattle.vcm_margin.proofs.comparing.step_both.Goals as goal

pub returns-clause-gone : goal.returns-clause-gone
returns-clause-gone g c = λ part beside n k within h.
    let code = c.args.loaded.now in
    let which = c.measured-which.ensures ∙ measured_is code (reached part code k) c.next-number.result c.statement-statement.result (c.next-number.ensures.is ∙ h.next) c.statement-statement.ensures in
    let behind = c.in_ok-behind.ensures part code n k h.first within which in
    if_none c.differing.result _ _ (goes_on part beside code k _ _ _ h c.in_ok-step.ensures.ok _ _ _ which behind.0 behind.1) c.differing.ensures.alike

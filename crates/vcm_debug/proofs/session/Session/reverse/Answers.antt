use Rattle.std.proofs.Common.{◌≡◌, ◌-◌, Some, sym, ap, ◌∙◌, arith}
use Rattle.vcm_machine.specs.Running.{started}
use Rattle.vcm_debug.specs.Halting.{ends_after, last_end}
use Rattle.vcm_debug.specs.inner.Backwards.{ended}
use Rattle.vcm_debug.proofs.Backwards.{is_last, few_steps}
use Rattle.vcm_debug.proofs.session.Session.reverse.Goals as goal

pub returns-in-Ok-clause-few : goal.returns-in-Ok-clause-few
returns-in-Ok-clause-few g c =
    let d = c.args.self.now in
    let start = started d.part d.code in
    let f = c.in-Ok-Some in
    let l =
    few_steps d.breakpoints d.watches start (d.count - 1) (last_end d.breakpoints d.watches start (d.count - 1)) (is_last d.breakpoints d.watches start (d.count - 1))
    (ends_after f.ending.steps f.ending.why) (sym f.ensures.found ∙ ap ended f.field-0-is) in
    let n : c.go_to.new.self.count ≡ f.ending.steps = ap (λ x. x.count) c.in-Ok.ensures.gone in
    omega (arith, l, n)

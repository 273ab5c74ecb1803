use Rattle.std.proofs.Common.{◌≡◌, ◌-◌, sym, ap, ◌∙◌, arith}
use Rattle.vcm_debug.specs.Halting.{ends_after}
use Rattle.vcm_set_debug.specs.Halting.{reason_behind}
use Rattle.vcm_set_debug.specs.inner.Going.{ended}
use Rattle.vcm_set_debug.proofs.Stepping.{last_few}
use Rattle.vcm_set_debug.proofs.session.SetSession.reverse.Goals as goal

pub go_to-requires : goal.go_to-requires
go_to-requires g c =
    let d = c.args.self.now in
    let f = c.in-Ok-Some in
    let l =
    last_few (reason_behind d.breakpoints d.watches d.run) (d.run.count - 1) (ends_after f.ending.steps f.ending.why) (sym f.ensures.found ∙ ap ended f.field-0-is) in
    let n : c.last_ending.new.self.run.count ≡ d.run.count = ap (λ x. x.run.count) c.last_ending.ensures.same in
    omega (arith, l, n)

pub returns-in-Ok-clause-few : goal.returns-in-Ok-clause-few
returns-in-Ok-clause-few g c =
    let d = c.args.self.now in
    let f = c.in-Ok-Some in
    let l =
    last_few (reason_behind d.breakpoints d.watches d.run) (d.run.count - 1) (ends_after f.ending.steps f.ending.why) (sym f.ensures.found ∙ ap ended f.field-0-is) in
    let n : c.go_to.new.self.run.count ≡ f.ending.steps = ap (λ x. x.run.count) c.in-Ok.ensures.gone in
    omega (arith, l, n)

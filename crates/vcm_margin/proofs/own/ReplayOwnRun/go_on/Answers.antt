use Rattle.std.proofs.Common.{◌-◌, ap, ◌∙◌, subst}
use Rattle.vcm_margin.specs.inner.Kept.{IsStop}
use Rattle.vcm_margin.proofs.Keeping.{replayed}
use Rattle.vcm_margin.proofs.own.ReplayOwnRun.go_on.Goals as goal

pub returns : goal.returns
returns c = λ part code n k kept within measured.
    let next = c.next-next.ensures in
    let point = c.point-point.ensures in
    let stop = c.stop-stop.ensures in
    let running = point.running ∙ next.running in
    let same = point.stop ∙ next.stop in
    replayed part code n k _ _ _ _ _ _ _ _ _ _ kept within measured
    (λ m ms e. let x = next.next m ms e in (x.0, stop.nexts ∙ point.nexts ∙ x.1))
    (λ p qs e. let x = point.point p qs (next.points ∙ e) in (stop.points ∙ x.0, x.1))
    (subst (λ s. IsStop c.stop-stop.result s 0 c.args.self.now.running) same (subst (λ r. IsStop c.stop-stop.result c.point-point.new.self.stop 0 r) running stop.stop))
    (stop.running ∙ ap (λ r. r - 1) running) (stop.same ∙ same)

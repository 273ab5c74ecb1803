use Rattle.std.proofs.Common.{◌≡◌, subst}
use Rattle.std.specs.Prelude.{IfOk}
use Rattle.vcm_backtrace.proofs.Behind.{at_end}
use Rattle.vcm_backtrace.proofs.telling.backtrace_at.Goals as goal

pub returns : goal.returns
returns g c =
    let w = c.in_ok-watched.watched in
    subst (λ x. IfOk c.backtrace_behind.result (λ t. t.items ≡ x))
    (at_end c.args.source.now c.args.blocks.now c.args.loaded.now c.args.steps w.world w.next w.ran w.progress c.in_ok-watched.ensures.watched c.args.number c.in_default.not-NoMemory)
    c.backtrace_behind.ensures

use Rattle.std.proofs.Common.{◌≡◌, true, inl}
use Rattle.vcm_over.specs.Over.{is_stopped}
use Rattle.vcm_dap.proofs.Motions.{at_stop}
use Rattle.vcm_dap.proofs.moving.go_over.Goals as goal

pub returns-then-is_some-clause-goes : goal.returns-then-is_some-clause-goes
returns-then-is_some-clause-goes g c =
    let stopped : is_stopped c.args.session.now ≡ true = cc (c.if-is_some.true, c.stop.ensures, c.world.ensures.state) in
    inl (at_stop 1000000 c.args.session.now stopped)

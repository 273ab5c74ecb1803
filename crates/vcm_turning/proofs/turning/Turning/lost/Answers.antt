use Rattle.std.proofs.Common.{◌≡◌, ℤ, ap, rules, w64, FitsSigned, to_z-of_z, true, false}
use Rattle.vcm_code.specs.CodeTable.{code_state}
use Rattle.vcm_machine.proofs.StepLemmas.{fits}
use Rattle.vcm_turning.specs.Choosing.{value_of}
use Rattle.vcm_turning.specs.Turning.{turned}
use Rattle.vcm_turning.proofs.Losing.{lost_is}
use Rattle.vcm_turning.proofs.turning.Turning.lost.Goals as goal

pub look-before-requires-clause-fits : goal.look-before-requires-clause-fits
look-before-requires-clause-fits g c =
    let m = c.self.inside in
    let i = c.self.invariant in
    fits m.blocks.now m.loaded.now m.world m.next m.pairs i.4 i.5 c.args.statement.now (rw (← c.self.view_is) at c.requires)

pub returns-then-is_missed : goal.returns-then-is_missed
returns-then-is_missed g c =
    let m = c.self.inside in
    let fits : FitsSigned w64 c.value-value.result = search rules in
    let value : c.value-value.result ≡ value_of m.world.state m.variable = rw (← c.self.view_is) at c.value-value.ensures in
    let lost =
    lost_is m.blocks.now.bounds.home m.set.now.probes m.variable (turned (code_state m.world.state m.next m.pairs) m.on) c.args.statement.now.op c.look-before.result.task
    c.value-value.result c.probes.result.now c.is_missed.result true (rw c.bounds.ensures.bounds at c.look-before.ensures.task) value c.probes.ensures.probes
    (rw (to_z-of_z fits) at c.is_missed.ensures) c.if-is_missed.true in
    rw (← c.self.view_is, to_z-of_z fits)
    (lost, ap (λ (z : ℤ). record { value = z; number = m.next; line = c.args.statement.now.line }) value)

pub returns-else-is_missed : goal.returns-else-is_missed
returns-else-is_missed g c =
    let m = c.self.inside in
    let fits : FitsSigned w64 c.value-value.result = search rules in
    let value : c.value-value.result ≡ value_of m.world.state m.variable = rw (← c.self.view_is) at c.value-value.ensures in
    rw (← c.self.view_is)
    (lost_is m.blocks.now.bounds.home m.set.now.probes m.variable (turned (code_state m.world.state m.next m.pairs) m.on) c.args.statement.now.op c.look-before.result.task
    c.value-value.result c.probes.result.now c.is_missed.result false (rw c.bounds.ensures.bounds at c.look-before.ensures.task) value c.probes.ensures.probes
    (rw (to_z-of_z fits) at c.is_missed.ensures) c.if-is_missed.false)

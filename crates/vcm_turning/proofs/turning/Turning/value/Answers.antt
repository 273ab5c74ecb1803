use Rattle.vcm_turning.proofs.Started.{has_value}
use Rattle.vcm_turning.proofs.turning.Turning.value.Goals as goal

pub bounds-variables-self-inside : goal.bounds-variables-self-inside
bounds-variables-self-inside g c =
    let m = c.self.inside in
    let i = c.self.invariant in
    has_value m.variable m.world.tables m.loaded.now.tables m.world.state.variables c.variables.result.now c.variables.ensures.fit i.4 c.variables.ensures.values i.7

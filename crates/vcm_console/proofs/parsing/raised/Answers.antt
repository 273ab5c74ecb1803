use Rattle.vcm_console.proofs.RaisedNames.{raised_name, filled_name}
use Rattle.vcm_console.proofs.parsing.raised.Goals as goal

pub new-requires : goal.new-requires
new-requires c =
    filled_name c.args.bytes.now c.loop-index.own c.loop-index.index c.loop-index.auto.index-end c.loop-index-test.false c.loop-index.invariant.same
    (raised_name c.args.bytes.now c.requires.some c.requires.short c.requires.plain)

use Rattle.toml.proofs.Views.{table_get}
use Rattle.vcm_probe_set.proofs.tables.member.Goals as goal

pub returns : goal.returns
returns c = table_get c.get.result c.args.word.now c.args.table.now.entries c.get.ensures.value

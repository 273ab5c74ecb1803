use Rattle.std.proofs.lemmas.List.{take_rest}
use Rattle.vcm_sheet.proofs.Tabled.{last_one}
use Rattle.vcm_sheet.proofs.rows.last_named.Goals as goal

pub returns : goal.returns
returns c = last_one (λ n. n.items) c.args.names.now _ c.args.block _ (rw take_rest at c.same_names.ensures.same) c.name_of.ensures

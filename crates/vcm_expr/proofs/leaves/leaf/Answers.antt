use Rattle.vcm_expr.proofs.leaves.leaf.Goals as goal

pub returns-in-Number-clause-ok : goal.returns-in-Number-clause-ok
returns-in-Number-clause-ok c = rw c.in-Number.is (c.number.ensures c.args.names.now)

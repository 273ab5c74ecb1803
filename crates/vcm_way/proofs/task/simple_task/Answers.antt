use Rattle.vcm_way.proofs.task.simple_task.Goals as goal

pub returns-in-Goto : goal.returns-in-Goto
returns-in-Goto c = rw c.in-Goto.is (c.straight.ensures c.args.home)

pub returns-in-PtMeas : goal.returns-in-PtMeas
returns-in-PtMeas c = rw c.in-PtMeas.is (c.measure.ensures c.args.home)

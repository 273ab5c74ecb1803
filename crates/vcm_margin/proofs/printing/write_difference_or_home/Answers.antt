use Rattle.vcm_margin.proofs.printing.write_difference_or_home.Goals as goal

pub returns-in-Home : goal.returns-in-Home
returns-in-Home g c = rw c.in-Home.is c.write_all.ensures

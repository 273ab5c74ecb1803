use Rattle.vcm_boxing.proofs.marks.+mark_among.Given as goal

abbrev pub decreases-mark_among : goal.decreases-mark_among
decreases-mark_among l = l.fuel

use Rattle.std.proofs.Common.{rules}
use Rattle.vcm_fields.specs.Readers.{operands_by}
use Rattle.vcm_fields.proofs.reading.operands.Goals as goal
use Rattle.vcm_fields.proofs.reading.operands.Goals.{in-EndFil, in-If+in_ok-items-in-If+in_ok-target-in-If, in-Else+in_ok-target-in-Else, in-EndIf}
use Rattle.vcm_fields.proofs.reading.operands.Goals.{in-Do+in_ok-variable-in-Do+in_ok-pair-in-Do+in_ok-initial-in-Do+in_ok-target-in-Do}
use Rattle.vcm_fields.proofs.reading.operands.Goals.{in-EndDo+in_ok-variable-in-EndDo+in_ok-pair-in-EndDo+in_ok-target-in-EndDo, in-Label}
use Rattle.vcm_fields.proofs.reading.operands.Goals.{in-JumpTo+in_ok-target-in-JumpTo, in-Meas+in_ok-feature-in-Meas, in-EndMes}
use Rattle.vcm_fields.proofs.reading.operands.Goals.{in-Select+in_ok-items-in-Select+in_ok-branches-in-Select+in_ok-target-in-Select, in-Case}
use Rattle.vcm_fields.proofs.reading.operands.Goals.{in-EndCas+in_ok-target-in-EndCas, in-DftCas, in-EndSel, in_default+in_ok-simple-in_default}

pub returns : goal.returns
unfolding operands_by
returns g c = elim c.match-word.branch [
  | in-EndFil w ↦ rw (w.result-is, w.from-is) (search rules)
  | in-If+in_ok-items-in-If+in_ok-target-in-If w ↦ rw (w.result-is, w.from-is) (search rules)
  | in-Else+in_ok-target-in-Else w ↦ rw (w.result-is, w.from-is) (search rules)
  | in-EndIf w ↦ rw (w.result-is, w.from-is) (search rules)
  | in-Do+in_ok-variable-in-Do+in_ok-pair-in-Do+in_ok-initial-in-Do+in_ok-target-in-Do w ↦ rw (w.result-is, w.from-is) (search rules)
  | in-EndDo+in_ok-variable-in-EndDo+in_ok-pair-in-EndDo+in_ok-target-in-EndDo w ↦ rw (w.result-is, w.from-is) (search rules)
  | in-Label w ↦ rw (w.result-is, w.from-is) (search rules)
  | in-JumpTo+in_ok-target-in-JumpTo w ↦ rw (w.result-is, w.from-is) (search rules)
  | in-Meas+in_ok-feature-in-Meas w ↦ rw (w.result-is, w.from-is) (search rules)
  | in-EndMes w ↦ rw (w.result-is, w.from-is) (search rules)
  | in-Select+in_ok-items-in-Select+in_ok-branches-in-Select+in_ok-target-in-Select w ↦ rw (w.result-is, w.from-is) (search rules)
  | in-Case w ↦ rw (w.result-is, w.from-is) (search rules)
  | in-EndCas+in_ok-target-in-EndCas w ↦ rw (w.result-is, w.from-is) (search rules)
  | in-DftCas w ↦ rw (w.result-is, w.from-is) (search rules)
  | in-EndSel w ↦ rw (w.result-is, w.from-is) (search rules)
  | in_default+in_ok-simple-in_default w ↦ rw (w.result-is, w.from-is) (search rules)
]

use Rattle.std.proofs.Common.{rules}
use Rattle.vcm_fields.specs.Readers.{operands_by}
use Rattle.vcm_fields.proofs.reading.simple.Goals as goal
use Rattle.vcm_fields.proofs.reading.simple.Goals.{in-Goto+in_ok-x-in-Goto, in-GoHome, in-Assign+in_ok-variable-in-Assign}
use Rattle.vcm_fields.proofs.reading.simple.Goals.{in-Feat+in_ok-feature-in-Feat+in_ok-x-in-Feat+in_ok-axis-in-Feat}
use Rattle.vcm_fields.proofs.reading.simple.Goals.{in-PtMeas+in_ok-feature-in-PtMeas+in_ok-x-in-PtMeas+in_ok-direction-in-PtMeas}
use Rattle.vcm_fields.proofs.reading.simple.Goals.{in-SnSet+in_ok-setting-in-SnSet+in_ok-items-in-SnSet, in-Trans+in_ok-frame-in-Trans+in_ok-x-in-Trans}
use Rattle.vcm_fields.proofs.reading.simple.Goals.{in-Rotate+in_ok-frame-in-Rotate+in_ok-turn-in-Rotate+in_ok-quarters-in-Rotate}
use Rattle.vcm_fields.proofs.reading.simple.Goals.{in-Recall+in_ok-frame-in-Recall}
use Rattle.vcm_fields.proofs.reading.simple.Goals.{in-Obtain+in_ok-variable-in-Obtain+in_ok-source-in-Obtain+in_ok-feature-in-Obtain+in_ok-part-in-Obtain}
use Rattle.vcm_fields.proofs.reading.simple.Goals.{in-Output+in_ok-source-in-Output+in_ok-feature-in-Output, in-Text+in_ok-text-in-Text}

pub returns : goal.returns
unfolding operands_by
returns g c = elim c.match-word.branch [
  | in-Goto+in_ok-x-in-Goto w ↦ rw (w.result-is, w.from-is) (search rules)
  | in-GoHome w ↦ rw (w.result-is, w.from-is) (search rules)
  | in-Assign+in_ok-variable-in-Assign w ↦ rw (w.result-is, w.from-is) (search rules)
  | in-Feat+in_ok-feature-in-Feat+in_ok-x-in-Feat+in_ok-axis-in-Feat w ↦ rw (w.result-is, w.from-is) (search rules)
  | in-PtMeas+in_ok-feature-in-PtMeas+in_ok-x-in-PtMeas+in_ok-direction-in-PtMeas w ↦ rw (w.result-is, w.from-is) (search rules)
  | in-SnSet+in_ok-setting-in-SnSet+in_ok-items-in-SnSet w ↦ rw (w.result-is, w.from-is) (search rules)
  | in-Trans+in_ok-frame-in-Trans+in_ok-x-in-Trans w ↦ rw (w.result-is, w.from-is) (search rules)
  | in-Rotate+in_ok-frame-in-Rotate+in_ok-turn-in-Rotate+in_ok-quarters-in-Rotate w ↦ rw (w.result-is, w.from-is) (search rules)
  | in-Recall+in_ok-frame-in-Recall w ↦ rw (w.result-is, w.from-is) (search rules)
  | in-Obtain+in_ok-variable-in-Obtain+in_ok-source-in-Obtain+in_ok-feature-in-Obtain+in_ok-part-in-Obtain w ↦ rw (w.result-is, w.from-is) (search rules)
  | in-Output+in_ok-source-in-Output+in_ok-feature-in-Output w ↦ rw (w.result-is, w.from-is) (search rules)
  | in-Text+in_ok-text-in-Text w ↦ rw (w.result-is, w.from-is) (search rules)
]

use Rattle.std.proofs.Common.{◌≡◌, map, drop}
use Rattle.vcm_num.specs.Words.{look_up}
use Rattle.vcm_num.proofs.bytes.look_up.Given as goal

abbrev pub invariant-loop-row : goal.invariant-loop-row
invariant-loop-row g l = look_up (map (λ r. (r.0.now, r.1)) l.rows) l.word ≡ look_up (map (λ r. (r.0.now, r.1)) (drop l.row-index l.rows)) l.word

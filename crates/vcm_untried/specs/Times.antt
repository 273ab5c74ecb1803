-- How often a run takes a statement.
use Rattle.std.specs.Prelude.{ℕ, ◌+◌, nat_eq, if◌then◌else◌, List, [], ◌∷◌, map}
use Rattle.vcm_spec.specs.Workpiece.{Workpiece}
use Rattle.vcm_code.specs.declared.code.Code.{Code}
use Rattle.vcm_remarks.specs.declared.remark.NumberedRemark.{NumberedRemark}
use Rattle.vcm_steps.specs.Passages.{Passage, passages}

-- how often these steps take the statement with a number
abbrev pub times : List Passage → ℕ → ℕ
times [] number = 0
times (p ∷ ps) number = (if nat_eq p.number number then 1 else 0) + times ps number

-- how often they take the statement of each of these remarks, in the order of the remarks
abbrev pub remark_times : List Passage → List NumberedRemark → List ℕ
remark_times ps remarks = map (λ r. times ps r.number) remarks

-- how often a run of at most n steps takes them
abbrev pub run_times : Workpiece → Code → ℕ → List NumberedRemark → List ℕ
run_times part c n remarks = remark_times (passages part c n) remarks

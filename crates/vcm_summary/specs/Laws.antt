-- What is proved of what a run comes to.
use Rattle.std.specs.Prelude.{◌≡◌, ℕ}
use Rattle.vcm_spec.specs.Workpiece.{Workpiece}
use Rattle.vcm_code.specs.declared.code.Code.{Code}
use Rattle.vcm_summary.specs.declared.summary.Summary.{Summary}
use Rattle.vcm_summary.specs.Summary.{IsSummed}

-- a run comes to one thing
abbrev pub OneSummary : Type 0
OneSummary = (part : Workpiece) (c : Code) (n from : ℕ) (x y : Summary) → IsSummed part c n from x → IsSummed part c n from y → x ≡ y

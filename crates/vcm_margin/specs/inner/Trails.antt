-- A run that is kept whole.
use Rattle.std.specs.Prelude.{ℕ}
use Rattle.vcm_spec.specs.Workpiece.{Workpiece}
use Rattle.vcm_code.specs.declared.code.Code.{Code}
use Rattle.vcm_margin.specs.declared.own.Trail.{Trail}
use Rattle.vcm_margin.specs.inner.Kept.{IsKept}

-- so many steps of a code beside a workpiece
abbrev pub IsTrail : Workpiece → Code → ℕ → Trail → Type 0
IsTrail part c n t = IsKept part c 0 n t.nexts.items t.points.items t.running t.stop

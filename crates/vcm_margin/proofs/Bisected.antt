-- The steps of a bisection of half widths.
use Rattle.std.proofs.Common.{◌≡◌, ℕ, true, None, refl, arith}
use Rattle.std.proofs.lemmas.Bool.{le-leb}
use Rattle.vcm_spec.specs.Workpiece.{Workpiece, IsValid}
use Rattle.vcm_code.specs.declared.code.Code.{Code}
use Rattle.vcm_part.specs.Tip.{is_tip}
use Rattle.vcm_margin.specs.Margin.{GoesWith}
use Rattle.vcm_margin.specs.inner.Widening.{IsBetween}

-- a workpiece may have its own tip
own_may : (part : Workpiece) → IsValid part → is_tip part part.bounds.tip ≡ true
own_may part v = rw (le-leb part.bounds.tip 50000 v.tip) v.clear

-- with its own tip a run goes as it does
own_goes : (part : Workpiece) (c : Code) (n : ℕ) → IsValid part → GoesWith part c n part.bounds.tip
own_goes part c n v = record { may = own_may part v; alike = λ k l. record { stop = refl; next = refl; feature = λ i e. refl } }

pub begins_at : (part : Workpiece) (c : Code) (n : ℕ) → IsValid part → IsBetween part c n part.bounds.tip 50001 None
begins_at part c n v = record { least = omega arith; order = omega (arith, v.tip); most = omega arith; goes = own_goes part c n v; met = refl }

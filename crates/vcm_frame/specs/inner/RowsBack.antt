-- A direction is that of its unit vector.
use Rattle.std.specs.Prelude.{◌≡◌, refl}
use Rattle.vcm_num.specs.declared.axis.Axis.{Axis}
use Rattle.vcm_num.specs.declared.axis.Axis.TheVariants.{PlusX, MinusX, PlusY, MinusY, PlusZ, MinusZ}
use Rattle.vcm_frame.specs.inner.Rows.{unit_row, axis_in}

-- a direction is that of its unit vector
pub fields_back : (d : Axis) → axis_in (unit_row d) ≡ d
fields_back PlusX = refl
fields_back MinusX = refl
fields_back PlusY = refl
fields_back MinusY = refl
fields_back PlusZ = refl
fields_back MinusZ = refl

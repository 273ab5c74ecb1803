-- What holds of the values that the fields of a statement hold.
use Rattle.std.specs.List.{AllByRecursion}
use Rattle.vcm_code.specs.Shape.{Place, Said}
use Rattle.vcm_fields.specs.Fields.{PlainField, in_plain, Value, value, alone}

-- a value meets P in its place
abbrev pub Meets : ((p : Place) → Said p → Type 0) → Value → Type 0
Meets P (value p x) = P p x

-- what a field holds does
abbrev pub FieldMeets : ((p : Place) → Said p → Type 0) → PlainField → Type 0
FieldMeets P f = AllByRecursion (Meets P) (in_plain alone f)

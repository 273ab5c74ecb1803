-- What is proved of remarks.
use Rattle.std.specs.Prelude.{◌≡◌, ℕ, ◌≤◌, nat_eq, Bool, false, ◌&&◌, List, [], ◌∷◌}
use Rattle.vcm_spec.specs.Workpiece.{Workpiece}
use Rattle.vcm_code.specs.declared.code.Code.{Code}
use Rattle.vcm_meant.specs.declared.remark.Remark.{Remark}
use Rattle.vcm_meant.specs.declared.remark.What.{What}
use Rattle.vcm_meant.specs.declared.remark.What.TheVariants.{Never}
use Rattle.vcm_meant.specs.Measuring.{is_alike}
use Rattle.vcm_meant.specs.Meant.{meant}

-- the feature that is never measured, of any other remark 0
abbrev pub never_feature : What → ℕ
never_feature (Never f) = f
never_feature what = 0

-- whether two remarks are of one kind and one line, and of one feature where it is never measured
abbrev pub is_twin : Remark → Remark → Bool
is_twin r s = is_alike r s && nat_eq (never_feature r.what) (never_feature s.what)

-- none of these is so
abbrev pub IsApart : Remark → List Remark → Type 0
IsApart r [] = Unit {0}
IsApart r (s ∷ rs) = (is_twin r s ≡ false) × IsApart r rs

-- no two of these are
abbrev pub AreApart : List Remark → Type 0
AreApart [] = Unit {0}
AreApart (r ∷ rs) = IsApart r rs × AreApart rs

-- no remark of a run is told twice
abbrev pub NoneTwice : Type 0
NoneTwice = (part : Workpiece) (c : Code) (n : ℕ) → AreApart (meant part c n)

-- a line isn't behind those of these remarks
abbrev pub IsBefore : ℕ → List Remark → Type 0
IsBefore line [] = Unit {0}
IsBefore line (r ∷ rs) = (line ≤ r.line) × IsBefore line rs

-- remarks stand in the order of their lines
abbrev pub AreInOrder : List Remark → Type 0
AreInOrder [] = Unit {0}
AreInOrder (r ∷ rs) = IsBefore r.line rs × AreInOrder rs

-- those of a run do
abbrev pub InOrder : Type 0
InOrder = (part : Workpiece) (c : Code) (n : ℕ) → AreInOrder (meant part c n)

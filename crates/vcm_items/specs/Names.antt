-- The variables of a program.
use Rattle.std.specs.Prelude.{ℕ, Bool, ◌&&◌, nat_eq, List, Option, Some, None}
use Rattle.std.specs.List.{AllByRecursion, position}
use Rattle.std.specs.Cmp.Lexicographic.{pointwise}
use Rattle.vcm_num.specs.declared.number.Kind.{Kind}
use Rattle.vcm_spec.specs.Setup.{Variable}
use Rattle.vcm_items.specs.NameBytes.{IsVariableName}

-- the variable of an entry of a map, whose key is its expansion and its name, and whose value is its kind
abbrev pub variable_in : (ℕ × List ℕ) × Kind → Variable
variable_in e = record { name = e.0.1; kind = e.1; expansion = e.0.0 }

-- each of these variables has a variable's name
abbrev pub AreNamed : List Variable → Type 0
AreNamed vs = AllByRecursion (λ v. IsVariableName v.name) vs

-- the variable has this name in this expansion
abbrev pub is_named : ℕ → List ℕ → Variable → Bool
is_named expansion name v = nat_eq expansion v.expansion && pointwise nat_eq name v.name

-- the first of two, if there is one
abbrev pub first_of : Option ℕ → Option ℕ → Option ℕ
first_of (Some v) o = Some v
first_of None o = o

-- the index of the variable that a name stands for in an expansion: that expansion's own, or one that is declared outside macros
abbrev pub variable_of : List Variable → ℕ → List ℕ → Option ℕ
variable_of vs expansion name = first_of (position (is_named expansion name) vs) (position (is_named 0 name) vs)

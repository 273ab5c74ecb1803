-- Names of features or frames, each at its index.
use Rattle.std.specs.Prelude.{ℕ, nat_lt, if◌then◌else◌, List, [], ◌∷◌, ◌++◌, length, Option, Some, None, Result, Ok, Err}
use Rattle.std.specs.List.{position}
use Rattle.vcm_lines.specs.Fault.{or_fault}
use Rattle.vcm_lines.specs.declared.fault.FaultCode.{FaultCode}
use Rattle.vcm_lines.specs.declared.fault.FaultCode.TheVariants.{UnknownName, TooManyNames}
use Rattle.vcm_spec.specs.Program.{is_same_name}
use Rattle.vcm_num.specs.declared.limits.TheConstants.{MOST_NAMES}

-- the index of a name, if it is there
abbrev pub index_of : List (List ℕ) → List ℕ → Option ℕ
index_of names l = position (λ n. is_same_name l n) names

-- the index of a name that is declared above
abbrev pub known : List (List ℕ) → List ℕ → Result ℕ FaultCode
known names l = or_fault UnknownName (index_of names l)

-- the index of a name that is entered: its own, or the next one; there are 4,096 at most
abbrev pub entered_by : List (List ℕ) → Option ℕ → Result ℕ FaultCode
entered_by names (Some i) = Ok i
entered_by names None = if nat_lt (length names) MOST_NAMES then Ok (length names) else Err TooManyNames

-- the index of a name that is entered
abbrev pub entered : List (List ℕ) → List ℕ → Result ℕ FaultCode
entered names l = entered_by names (index_of names l)

-- the names with this one, which is added where it isn't there
abbrev pub with_name_by : List (List ℕ) → List ℕ → Option ℕ → List (List ℕ)
with_name_by names l (Some i) = names
with_name_by names l None = names ++ l ∷ []

-- the names with this one, which is added where it isn't there
abbrev pub with_name : List (List ℕ) → List ℕ → List (List ℕ)
with_name names l = with_name_by names l (index_of names l)

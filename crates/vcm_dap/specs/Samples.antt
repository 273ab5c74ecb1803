-- Worked examples, computed.
use Rattle.std.specs.Prelude.{◌≡◌, refl, true, codes, Some}
use Rattle.json.specs.Json.{object, string, member, no_members}
use Rattle.vcm_dap.specs.declared.asking.Motion.TheVariants.{Step}
use Rattle.vcm_dap.specs.declared.asking.Look.TheVariants.{Unknown}
use Rattle.vcm_dap.specs.declared.asking.Ask.TheVariants as a
use Rattle.vcm_dap.specs.Asking.{ask_of}
use Rattle.vcm_dap.specs.Asked.{has_condition, line_in, typed, shown_by}

-- what `stepIn` asks for
pub a_step : ask_of (codes "stepIn") ≡ a.Move Step
a_step = refl

-- what `goto` asks for
pub not_known : ask_of (codes "goto") ≡ a.Show Unknown
not_known = refl

-- a breakpoint with a condition
pub with_condition : has_condition (object (member (codes "condition") (string (codes "I > 1")) no_members)) ≡ true
with_condition = refl

-- the line 4 of a client that counts from 0
pub the_fifth : line_in true 4 ≡ 5
the_fifth = refl

-- the variable that T#2 names
pub in_second_expansion : shown_by (typed (codes "show") (codes "t#2")) ≡ Some (record { name = codes "T"; expansion = 2 })
in_second_expansion = refl

-- Statements about calls. Each is a clause of a law in src/laws.rt.
use Rattle.std.specs.Prelude.{◌≡◌, true, List}
use Rattle.std.specs.List.{flat_map}
use Rattle.vcm_forms.specs.declared.statement.Parameter.{Parameter}
use Rattle.vcm_forms.specs.declared.statement.Argument.{Argument}
use Rattle.vcm_forms.specs.declared.statement.Statement.{Statement}
use Rattle.vcm_macro.specs.Rules.{is_there, wanted_by, suits}
use Rattle.vcm_doubts.specs.Doubts.{sets}
use Rattle.vcm_doubts.specs.Settled.{fits}

-- an argument that fits a parameter of a macro is what has to be given for it, and so is what becomes of it in an expansion, where a name stays a name and a value a
-- value
abbrev pub FittingArgumentsSuit : Type 0
FittingArgumentsSuit =
    (body : List Statement) (p : Parameter) (a b : Argument) → is_there b.name ≡ is_there a.name → is_there b.value ≡ is_there a.value
    → fits (flat_map (λ s. sets s.form) body) p a ≡ true → suits (wanted_by body p) b ≡ true

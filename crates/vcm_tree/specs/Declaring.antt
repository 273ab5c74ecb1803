-- The names that statements declare.
use Rattle.std.specs.Prelude.{List, [], ◌∷◌}
use Rattle.std.specs.List.{AllByRecursion}
use Rattle.vcm_items.specs.NameBytes.{IsVariableName}
use Rattle.vcm_forms.specs.declared.statement.Form.{Form}
use Rattle.vcm_forms.specs.declared.statement.Form.TheVariants.{Declaration}
use Rattle.vcm_forms.specs.declared.statement.Statement.{Statement}
use Rattle.vcm_macro.specs.declared.placed.Placed.{Placed}

-- a statement declares no name but those that variables may have
abbrev pub DeclaresVariables : Form → Type 0
DeclaresVariables (Declaration k names) = AllByRecursion IsVariableName names
DeclaresVariables _ = Unit {0}

-- nor does any of these
abbrev pub DeclareVariables : List Statement → Type 0
DeclareVariables [] = Unit {0}
DeclareVariables (s ∷ ss) = DeclaresVariables s.form × DeclareVariables ss

-- nor does any statement of an expanded program
abbrev pub PlacedDeclareVariables : List Placed → Type 0
PlacedDeclareVariables [] = Unit {0}
PlacedDeclareVariables (p ∷ ps) = DeclaresVariables p.statement.form × PlacedDeclareVariables ps

-- Statements that declare names of variables.
use Rattle.std.proofs.Common.{◌≡◌, ℕ, Bool, true, false, ◌&&◌, List, [], ◌∷◌, refl}
use Rattle.std.specs.Prelude.{if◌then◌else◌}
use Rattle.std.specs.List.{list_all, AllByRecursion}
use Rattle.vcm_items.specs.NameBytes.{is_variable_name, IsVariableName}
use Rattle.vcm_forms.specs.declared.statement.Form.{Form}
use Rattle.vcm_forms.specs.declared.statement.Form.TheVariants.{Declaration}
use Rattle.vcm_macro.specs.declared.placed.Placed.{Placed}
use Rattle.vcm_tree.specs.Declaring.{DeclaresVariables, PlacedDeclareVariables}
use Rattle.vcm_tree.specs.Ended.{is_ended}
use Rattle.vcm_whole.specs.Whole.{is_lettered, is_lettered_placed, is_program}

left_true : (a b : Bool) → (a && b) ≡ true → a ≡ true
left_true true b e = refl
left_true false b e = absurd cc

right_true : (a b : Bool) → (a && b) ≡ true → b ≡ true
right_true true b e = e
right_true false b e = absurd cc

names_lettered : (ns : List (List ℕ)) → list_all is_variable_name ns ≡ true → AllByRecursion IsVariableName ns
names_lettered [] e = tt
names_lettered (n ∷ ns) e =
    (left_true (is_variable_name n) (list_all is_variable_name ns) e, names_lettered ns (right_true (is_variable_name n) (list_all is_variable_name ns) e))

form_lettered : (f : Form) → is_lettered f ≡ true → DeclaresVariables f
form_lettered (Declaration k names) e = names_lettered names e
form_lettered _ e = tt

all_lettered : (ps : List Placed) → list_all is_lettered_placed ps ≡ true → PlacedDeclareVariables ps
all_lettered [] e = tt
all_lettered (p ∷ ps) e = (
  form_lettered p.statement.form (left_true (is_lettered_placed p) (list_all is_lettered_placed ps) e),
  all_lettered ps (right_true (is_lettered_placed p) (list_all is_lettered_placed ps) e),
)

if_true : (a b : Bool) → (if a then b else false) ≡ true → a ≡ true
if_true true b e = refl
if_true false b e = absurd cc

pub program_lettered : (ps : List Placed) → is_program ps ≡ true → PlacedDeclareVariables ps
program_lettered ps e = all_lettered ps (if_true (list_all is_lettered_placed ps) (is_ended ps) e)

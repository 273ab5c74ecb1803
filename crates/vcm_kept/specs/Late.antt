-- Frames, features and variables that a text makes below in writing: in a loop, behind a jump or in a macro control comes to statements above with what was made there.
use Rattle.std.specs.Prelude.{ℕ, pos, codes, Bool, true, false, not, is_some, ◌&&◌, nat_eq, if◌then◌else◌, List, [], ◌∷◌, map, Option, Some, None}
use Rattle.std.specs.List.{list_any, flat_map}
use Rattle.std.specs.Str.{bytes_eq}
use Rattle.vcm_spec.specs.Setup.{Variable}
use Rattle.vcm_spec.specs.Program.{is_same_name}
use Rattle.vcm_items.specs.Names.{variable_of}
use Rattle.vcm_expr.specs.declared.expression.Term.{Term}
use Rattle.vcm_expr.specs.declared.expression.Term.TheVariants.{Variable as Named}
use Rattle.vcm_expr.specs.Source.{leaf_in}
use Rattle.vcm_forms.specs.declared.statement.Target.{Target}
use Rattle.vcm_forms.specs.declared.statement.Offset.{Offset}
use Rattle.vcm_forms.specs.declared.statement.Form.{Form}
use Rattle.vcm_forms.specs.declared.statement.Form.TheVariants as form
use Rattle.vcm_macro.specs.declared.placed.Placed.{Placed}
use Rattle.vcm_program.specs.Titles.{index_of}
use Rattle.vcm_events.specs.declared.spots.Spot.{Spot}
use Rattle.vcm_events.specs.Spots.{spot_named, slanted_name}
use Rattle.vcm_templates.specs.declared.guarded.Guarded.{Guarded}
use Rattle.vcm_templates.specs.declared.carried.Carried.TheVariants as carried
use Rattle.vcm_templates.specs.declared.carried.TheConstants.{FEATURES_STEP}
use Rattle.vcm_templates.specs.Templates.{raise}
use Rattle.vcm_kept.specs.Named.{drops_frames}

-- what a text makes anywhere: frames, features, and variables
pub record Made : Type 0 where
  pub frames : List (List ℕ)
  pub features : List (List ℕ)
  pub variables : List Target

-- a name, where there are shifts that are none of a slanted point
abbrev pub shift_made : List ℕ → List Offset → List (List ℕ)
shift_made l [] = []
shift_made l (o ∷ os) = if is_same_name slanted_name l then [] else l ∷ []

-- the frame that a statement makes
abbrev pub frame_made : Form → List (List ℕ)
frame_made (form.Shift l os) = shift_made l os
frame_made (form.Rotation l axis n) = l ∷ []
frame_made f = []

-- a name, where a feature is none that a place is kept by
abbrev pub feature_named : List ℕ → Option Spot → List (List ℕ)
feature_named l None = l ∷ []
feature_named l (Some s) = []

-- whether an expression is one whose value is never known
abbrev pub is_unknown : Option Term → Bool
is_unknown (Some (Named name e)) = bytes_eq name (codes "0")
is_unknown t = false

-- the feature that a statement declares: one of another kind than points has a place that isn't known
abbrev pub feature_made : Form → List (List ℕ)
feature_made (form.Feature l p d) = if is_unknown (leaf_in p.x) then [] else feature_named l (spot_named l)
feature_made f = []

-- the variables that a statement declares, in its expansion
abbrev pub variables_made : ℕ → Form → List Target
variables_made e (form.Declaration k names) = map (λ name. record { name = name; expansion = e }) names
variables_made e f = []

-- what the statements of a text make
abbrev pub made_by : List Placed → Made
made_by ps = record {
  frames = flat_map (λ p. frame_made p.statement.form) ps;
  features = flat_map (λ p. feature_made p.statement.form) ps;
  variables = flat_map (λ p. variables_made p.expansion p.statement.form) ps;
}

-- ---- what is made below

-- whether a name is one of these and has no index here
abbrev pub is_late : List (List ℕ) → List (List ℕ) → List ℕ → Bool
is_late here all l = not (is_some (index_of here l)) && list_any (is_same_name l) all

-- whether a variable is one of these
abbrev pub is_this : Target → Target → Bool
is_this t other = nat_eq t.expansion other.expansion && bytes_eq t.name other.name

-- whether a variable is declared below alone
abbrev pub is_late_variable : List Variable → List Target → Target → Bool
is_late_variable vs all t = not (is_some (variable_of vs t.expansion t.name)) && list_any (is_this t) all

-- the frames that are saved aren't known, where one of them is made below
abbrev pub late_frame : ℕ → Bool → List Guarded
late_frame line true = drops_frames line
late_frame line false = []

-- nor are the values of features
abbrev pub late_feature : ℕ → Bool → List Guarded
late_feature line true = raise line carried.Features FEATURES_STEP ∷ []
late_feature line false = []

-- nor those of variables
abbrev pub late_variable : ℕ → Bool → List Guarded
late_variable line true = raise line carried.Values (pos 1) ∷ []
late_variable line false = []

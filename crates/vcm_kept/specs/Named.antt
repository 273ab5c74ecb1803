-- What happens to frames and features by their names: they are deleted, change, or are kept elsewhere.
use Rattle.std.specs.Prelude.{ℕ, pos, Bool, true, false, List, [], ◌∷◌, Option, Some, None}
use Rattle.vcm_spec.specs.declared.expression.BinaryOp.TheVariants.{Sub, Mul}
use Rattle.vcm_expr.specs.Source.{Source, Plain, Pair}
use Rattle.vcm_events.specs.Joined.{pair}
use Rattle.vcm_templates.specs.declared.guarded.Guarded.{Guarded}
use Rattle.vcm_templates.specs.declared.carried.Carried.TheVariants as carried
use Rattle.vcm_templates.specs.declared.carried.Item.TheVariants as items
use Rattle.vcm_templates.specs.declared.carried.TheConstants.{FEATURES_STEP}
use Rattle.vcm_templates.specs.Carried.{carried_term, item_term}
use Rattle.vcm_templates.specs.Expressions.{number}
use Rattle.vcm_templates.specs.Templates.{set, set_item, raise, declare_item}
use Rattle.vcm_kept.specs.Datums.{unbinds}

-- no frame that is saved is known
abbrev pub drops_frames : ℕ → List Guarded
drops_frames line = set line carried.Floor (Plain (carried_term carried.Latest)) ∷ []

-- the frame at an index isn't saved any more; one that isn't made above may be any
abbrev pub drops_frame : ℕ → Option ℕ → List Guarded
drops_frame line None = drops_frames line
drops_frame line (Some i) = set_item line items.Saved i (Plain (number (pos 0))) ∷ []

-- the feature at an index has no value that is known, neither a nominal nor a measured one; one that isn't declared above may be any
abbrev pub drops_feature : Bool → ℕ → Option ℕ → List Guarded
drops_feature datums line None = raise line carried.Features FEATURES_STEP ∷ []
drops_feature datums line (Some i) =
    set_item line items.Nominal i (Plain (number (pos 0))) ∷ set_item line items.Measured i (Plain (number (pos 0))) ∷ unbinds datums line i

-- the feature at an index is made of others: its measured value is another one
abbrev pub remakes_feature : Bool → ℕ → Option ℕ → List Guarded
remakes_feature datums line None = raise line carried.Features FEATURES_STEP ∷ []
remakes_feature datums line (Some i) = set_item line items.Measured i (Plain (number (pos 0))) ∷ unbinds datums line i

-- the frame at an index is kept elsewhere: made again, it may be recalled as it was kept, or as it is
abbrev pub stores_frame : ℕ → Option ℕ → List Guarded
stores_frame line None = set line carried.Saving (Plain (number (pos 0))) ∷ []
stores_frame line (Some i) = set_item line items.Stored i (Plain (number (pos 1))) ∷ []

-- whether a frame was is carried with it, in a text that keeps frames elsewhere
abbrev pub declares_stored : Bool → ℕ → ℕ → List Guarded
declares_stored true line i = declare_item line items.Stored i ∷ []
declares_stored false line i = []

-- a frame that is made again behind that isn't known by its name
abbrev pub keeps_stored : Bool → ℕ → ℕ → List Guarded
keeps_stored true line i = set_item line items.Saved i (Pair Mul (Plain (item_term items.Saved i)) (pair Sub (number (pos 1)) (item_term items.Stored i))) ∷ []
keeps_stored false line i = []

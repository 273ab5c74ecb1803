-- Which statements are in doubt, and what they are put as then.
use Rattle.std.specs.Prelude.{ℕ, ◌||◌, not, Bool, true, false, List, [], ◌∷◌, Option, Some, None}
use Rattle.vcm_num.specs.declared.axis.Axis.{Axis}
use Rattle.vcm_forms.specs.declared.statement.Form.{Form}
use Rattle.vcm_forms.specs.declared.statement.Form.TheVariants as form
use Rattle.vcm_events.specs.declared.event.Event.TheVariants as events
use Rattle.vcm_events.specs.Events.{lost, gained}
use Rattle.vcm_events.specs.Unknown.{unknown, unknown_rounds}
use Rattle.vcm_doubts.specs.Doubts.{Doubts, is_among, is_in_reach}
use Rattle.vcm_doubts.specs.Settled.{Macros, is_unfollowed, is_doubtful_call}

-- whether there are names
abbrev pub are_names : List (List ℕ) → Bool
are_names [] = false
are_names (name ∷ names) = true

-- whether a point isn't tried: it is given no direction, and a name is spelled in two ways
abbrev pub is_doubtful_point : Doubts → Option Axis → Bool
is_doubtful_point d None = are_names d.spelled
is_doubtful_point d (Some given) = false

-- whether something of a statement is in doubt
abbrev pub is_in_doubt : Doubts → Macros → Form → Bool
is_in_doubt d ms (form.Assignment t value) = is_unfollowed d t.name
is_in_doubt d ms (form.Query t side l word) = is_unfollowed d t.name || is_among d.spelled l
is_in_doubt d ms (form.Test c) = d.splits
is_in_doubt d ms (form.Choose c) = d.splits
is_in_doubt d ms (form.Repeat r) = d.splits || is_unfollowed d r.variable.name
is_in_doubt d ms (form.Restore l) = is_among d.spelled l
is_in_doubt d ms (form.Report side l) = is_among d.spelled l
is_in_doubt d ms (form.Touch p given) = is_doubtful_point d given
is_in_doubt d ms (form.Leap name) = not (is_in_reach d.labels ms.blocks name) || is_among d.spelled name
is_in_doubt d ms (form.Call name args) = is_doubtful_call d ms.above name args
is_in_doubt d ms f = false

-- what a statement that is in doubt is put as, if it is put as anything
abbrev pub instead : Form → Option Form
instead (form.Assignment t value) = Some (form.Assignment t unknown)
instead (form.Query t side l word) = Some (form.Assignment t unknown)
instead (form.Test c) = Some (form.Test unknown)
instead (form.Choose c) = Some (form.Choose unknown)
instead (form.Repeat r) = Some (form.Repeat unknown_rounds)
instead (form.Restore l) = Some (lost events.Frame)
instead (form.Touch p given) = Some (gained events.UntriedPoint)
instead (form.Leap name) = Some (gained events.Ends)
instead (form.Report side l) = Some (gained events.Unreported)
instead (form.Call name args) = Some (lost events.All)
instead f = None

-- one statement, or none
abbrev pub listed : Option Form → List Form
listed None = []
listed (Some f) = f ∷ []

-- what becomes of a statement that is in doubt, or isn't
abbrev pub becomes : Bool → Form → List Form
becomes true f = listed (instead f)
becomes false f = f ∷ []

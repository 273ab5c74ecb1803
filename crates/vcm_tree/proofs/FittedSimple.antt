-- A simple statement that is resolved fits the tables of the whole program.
use Rattle.std.proofs.Common.{◌≡◌, ℕ, ◌≤◌, Bool, List, [], ◌∷◌, length, Option, Some, None, Result, Ok, refl, ap, ◌∙◌, subst, arith}
use Rattle.std.specs.Prelude.{slice_get}
use Rattle.vcm_num.specs.declared.number.Kind.{Kind}
use Rattle.vcm_num.specs.declared.number.Kind.TheVariants as kind
use Rattle.vcm_lines.specs.declared.fault.FaultCode.{FaultCode}
use Rattle.vcm_spec.specs.Expression.{Tree, kind_of}
use Rattle.vcm_spec.specs.Simple.{Simple}
use Rattle.vcm_spec.specs.declared.simple.Simple.TheVariants.{Goto, GoHome, Text, Assign, Feat, PtMeas, SnSet, Trans, Rotate, Recall, Obtain, Output}
use Rattle.vcm_spec.specs.declared.words.FrameAxis.{FrameAxis}
use Rattle.vcm_spec.specs.declared.words.FrameAxis.TheVariants as axes
use Rattle.vcm_spec.specs.declared.words.FeatureWord.{FeatureWord}
use Rattle.vcm_spec.specs.declared.words.Quarters.{Quarters}
use Rattle.vcm_spec.specs.declared.words.Setting.{Setting}
use Rattle.vcm_spec.specs.declared.words.Source.{Source as Side}
use Rattle.vcm_num.specs.declared.axis.Axis.{Axis}
use Rattle.vcm_spec.specs.Fitting.{kinds, Fits, HasKindIn}
use Rattle.vcm_expr.specs.declared.typing.Want.TheVariants as wants
use Rattle.vcm_spec.specs.Setup.{Variable, Tables, kinds_of}
use Rattle.vcm_expr.specs.Source.{Source}
use Rattle.vcm_expr.specs.Typing.{typed_for, wanted_kind}
use Rattle.vcm_expr.proofs.TypedKinds.{typed_for_fine}
use Rattle.vcm_forms.specs.declared.statement.Form.{Form}
use Rattle.vcm_forms.specs.declared.statement.Form.TheVariants.{Assignment, Move, Home, Say, Feature, Touch, Configure, Shift, Rotation, Restore, Query, Report}
use Rattle.vcm_forms.specs.declared.statement.Offset.{Offset}
use Rattle.vcm_forms.specs.declared.statement.Coordinates.{Coordinates}
use Rattle.vcm_forms.specs.declared.statement.Target.{Target}
use Rattle.vcm_tree.specs.Variables.{want_of, target_of, assigned, assigned_by, assigned_to, moved}
use Rattle.vcm_tree.specs.Blocks.{Behind, Opened}
use Rattle.vcm_tree.specs.Resolving.{acted, measured_after}
use Rattle.vcm_tree.specs.Features.{lengths, declared_at, touched_in, Shifts, no_shifts, with_shift, shifts_of, real_to, real_by, real_named, declared, touched}
use Rattle.vcm_tree.specs.Features.{configured, shifted, rotated, recalled, obtained, reported}
use Rattle.vcm_program.specs.Titles.{known, entered, with_name}
use Rattle.vcm_program.proofs.Titled.{known_below, entered_below}
use Rattle.vcm_tree.proofs.Stated.{bind-Ok}
use Rattle.vcm_tree.proofs.GrownTables.{Grown, Within, touched_below, get_grown, kind_grown, kinds_grown}
use Rattle.vcm_spec.specs.Results.{◌>>=◌}

module _ (vs : List Variable) (ws : Tables) (g : Grown vs ws.variables) where
  -- an expression that has a kind behind the first variables has it in the table
  pub has_kind : (t : Tree) (k : Kind) → kind_of (kinds_of vs) t ≡ Some k → HasKindIn ws t k
  has_kind t k e = (let m = kinds_grown vs ws g in ap (λ ks. kind_of ks t) m.1 ∙ kind_grown (kinds_of vs) m.0 t k e)

  pub has_place : (i : ℕ) (k : Kind) → slice_get (kinds_of vs) i ≡ Some k → slice_get (kinds ws) i ≡ Some k
  has_place i k e = (let m = kinds_grown vs ws g in ap (λ ks. slice_get ks i) m.1 ∙ get_grown (kinds_of vs) m.0 i k e)

  wanted : (k : Kind) → wanted_kind (want_of k) ≡ k
  wanted kind.Int = refl
  wanted kind.Real = refl
  wanted kind.Bool = refl

  pub assigned_fits : (t : Target) (value : Source) (what : Simple Tree) → assigned vs t value ≡ Ok what → Fits (HasKindIn ws) ws what
  assigned_fits t value what e = by (target_of vs t) e
    where
      at : (i : ℕ) (o : Option Kind) → slice_get (kinds_of vs) i ≡ o → assigned_to vs value i o ≡ Ok what → Fits (HasKindIn ws) ws what
      at i None h f = absurd cc
      at i (Some k) h f =
          let q = bind-Ok (typed_for vs (want_of k) value) (λ a. Ok (Assign i a)) what f in
          let same : Assign i q.0 ≡ what = cc in
          let fine = typed_for_fine vs (want_of k) value q.0 q.1 in
          subst (Fits (HasKindIn ws) ws) same (k, has_place i k h, has_kind q.0 k (fine.typed ∙ ap (λ j. Some j) (wanted k)))

      by : (o : Option ℕ) → assigned_by vs value o ≡ Ok what → Fits (HasKindIn ws) ws what
      by None f = absurd cc
      by (Some i) f = at i (slice_get (kinds_of vs) i) refl f

  length_fits : (e : Source) (t : Tree) → typed_for vs wants.Length e ≡ Ok t → HasKindIn ws t kind.Real
  length_fits e t h = has_kind t kind.Real (typed_for_fine vs wants.Length e t h).typed

  pub moved_fits : (x y z : Source) (what : Simple Tree) → moved vs x y z ≡ Ok what → Fits (HasKindIn ws) ws what
  moved_fits x y z what e =
      let p = bind-Ok (typed_for vs wants.Length x) (λ a. typed_for vs wants.Length y >>= λ b. typed_for vs wants.Length z >>= λ c. Ok (Goto a b c)) what e in
      let q = bind-Ok (typed_for vs wants.Length y) (λ b. typed_for vs wants.Length z >>= λ c. Ok (Goto p.0 b c)) what p.2 in
      let r = bind-Ok (typed_for vs wants.Length z) (λ c. Ok (Goto p.0 q.0 c)) what q.2 in
      let same : Goto p.0 q.0 r.0 ≡ what = cc in
      subst (Fits (HasKindIn ws) ws) same (length_fits x p.0 p.1, length_fits y q.0 q.1, length_fits z r.0 r.1)

  -- three lengths
  record AreLong (t : Tree × Tree × Tree) : Type 0 where
    x : HasKindIn ws t.0 kind.Real
    y : HasKindIn ws t.1 kind.Real
    z : HasKindIn ws t.2 kind.Real

  abbrev three : Tree → Tree → Tree → Result (Tree × Tree × Tree) FaultCode
  three a b c = Ok (a, b, c)

  lengths_fit : (p : Coordinates) (t : Tree × Tree × Tree) → lengths vs p ≡ Ok t → AreLong t
  lengths_fit p t e =
      let h = bind-Ok (typed_for vs wants.Length p.x) (λ a. typed_for vs wants.Length p.y >>= λ b. typed_for vs wants.Length p.z >>= λ c. three a b c) t e in
      let i = bind-Ok (typed_for vs wants.Length p.y) (λ b. typed_for vs wants.Length p.z >>= λ c. three h.0 b c) t h.2 in
      let j = bind-Ok (typed_for vs wants.Length p.z) (λ c. three h.0 i.0 c) t i.2 in
      let same : (h.0, i.0, j.0) ≡ t = cc in
      subst AreLong same (record { x = length_fits p.x h.0 h.1; y = length_fits p.y i.0 i.1; z = length_fits p.z j.0 j.1 })

  abbrev FitsHere : Simple Tree → Type 0
  FitsHere what = Fits (HasKindIn ws) ws what

  abbrev done : Simple Tree → Result (Simple Tree) FaultCode
  done what = Ok what

  pub declared_fits : (fs : List (List ℕ)) (l : List ℕ) (p : Coordinates) (d : Axis) (what : Simple Tree) → length (with_name fs l) ≤ length ws.features
      → declared fs vs l p d ≡ Ok what → FitsHere what
  declared_fits fs l p d what few e =
      let h = bind-Ok (entered fs l) (declared_at vs p d) what e in
      let i = bind-Ok (lengths vs p) (λ t. done (Feat h.0 t.0 t.1 t.2 d)) what h.2 in
      let long = lengths_fit p i.0 i.1 in
      let low = entered_below fs l h.0 h.1 in
      let same : Feat h.0 i.0.0 i.0.1 i.0.2 d ≡ what = cc in
      subst FitsHere same (omega (arith, few, low), (long.x, long.y, long.z))

  pub touched_fits : (bs : List Opened) (t : Bool) (p : Coordinates) (given : Option Axis) (what : Simple Tree) → Within (length ws.features) bs
      → touched bs t vs p given ≡ Ok what → FitsHere what
  touched_fits bs t p given what in_blocks e =
      let h = bind-Ok (touched_in bs t) (λ i. lengths vs p >>= λ u. done (PtMeas i u.0 u.1 u.2 given)) what e in
      let i = bind-Ok (lengths vs p) (λ u. done (PtMeas h.0 u.0 u.1 u.2 given)) what h.2 in
      let long = lengths_fit p i.0 i.1 in
      let same : PtMeas h.0 i.0.0 i.0.1 i.0.2 given ≡ what = cc in
      subst FitsHere same (touched_below (length ws.features) bs t h.0 h.1 in_blocks, (long.x, long.y, long.z))

  pub configured_fits : (which : Setting) (x : Source) (what : Simple Tree) → configured vs which x ≡ Ok what → FitsHere what
  configured_fits which x what e =
      let h = bind-Ok (typed_for vs wants.Length x) (λ t. done (SnSet which t)) what e in
      let same : SnSet which h.0 ≡ what = cc in
      subst FitsHere same (length_fits x h.0 h.1)

  record AreShifts (s : Shifts) : Type 0 where
    x : HasKindIn ws s.x kind.Real
    y : HasKindIn ws s.y kind.Real
    z : HasKindIn ws s.z kind.Real

  one_shift : (s : Shifts) (axis : FrameAxis) (t : Tree) → AreShifts s → HasKindIn ws t kind.Real → AreShifts (with_shift s axis t)
  one_shift s axes.X t h k = record { x = k; y = h.y; z = h.z }
  one_shift s axes.Y t h k = record { x = h.x; y = k; z = h.z }
  one_shift s axes.Z t h k = record { x = h.x; y = h.y; z = k }

  shifts_fit : (s r : Shifts) (os : List Offset) → AreShifts s → shifts_of vs s os ≡ Ok r → AreShifts r
  shifts_fit s r [] h e = (let same : s ≡ r = cc in subst AreShifts same h)
  shifts_fit s r (o ∷ os) h e =
      let q = bind-Ok (typed_for vs wants.Length o.length) (λ t. shifts_of vs (with_shift s o.axis t) os) r e in
      shifts_fit (with_shift s o.axis q.0) r os (one_shift s o.axis q.0 h (length_fits o.length q.0 q.1)) q.2

  pub shifted_fits : (ds : List (List ℕ)) (l : List ℕ) (os : List Offset) (what : Simple Tree) → length (with_name ds l) ≤ length ws.frames
      → shifted ds vs l os ≡ Ok what → FitsHere what
  shifted_fits ds l os what few e =
      let h = bind-Ok (entered ds l) (λ i. shifts_of vs no_shifts os >>= λ s. done (Trans i s.x s.y s.z)) what e in
      let i = bind-Ok (shifts_of vs no_shifts os) (λ s. done (Trans h.0 s.x s.y s.z)) what h.2 in
      let fit = shifts_fit no_shifts i.0 os (record { x = refl; y = refl; z = refl }) i.1 in
      let low = entered_below ds l h.0 h.1 in
      let same : Trans h.0 i.0.x i.0.y i.0.z ≡ what = cc in
      subst FitsHere same (omega (arith, few, low), (fit.x, fit.y, fit.z))

  pub rotated_fits : (ds : List (List ℕ)) (l : List ℕ) (axis : FrameAxis) (n : Quarters) (what : Simple Tree) → length (with_name ds l) ≤ length ws.frames
      → rotated ds l axis n ≡ Ok what → FitsHere what
  rotated_fits ds l axis n what few e =
      let h = bind-Ok (entered ds l) (λ i. done (Rotate i axis n)) what e in
      let low = entered_below ds l h.0 h.1 in
      let same : Rotate h.0 axis n ≡ what = cc in
      subst FitsHere same (omega (arith, few, low))

  pub recalled_fits : (ds : List (List ℕ)) (l : List ℕ) (what : Simple Tree) → length ds ≤ length ws.frames → recalled ds l ≡ Ok what → FitsHere what
  recalled_fits ds l what few e =
      let h = bind-Ok (known ds l) (λ i. done (Recall i)) what e in
      let low = known_below ds l h.0 h.1 in
      let same : Recall h.0 ≡ what = cc in
      subst FitsHere same (omega (arith, few, low))

  real_fits : (t : Target) (i : ℕ) → real_named vs t ≡ Ok i → slice_get (kinds ws) i ≡ Some kind.Real
  real_fits t i e = by (target_of vs t) e
    where
      at : (j : ℕ) (o : Option Kind) → slice_get (kinds_of vs) j ≡ o → real_to j o ≡ Ok i → slice_get (kinds ws) i ≡ Some kind.Real
      at j None h f = absurd cc
      at j (Some kind.Int) h f = absurd cc
      at j (Some kind.Bool) h f = absurd cc
      at j (Some kind.Real) h f = (let q : j ≡ i = cc in subst (λ (n : ℕ). slice_get (kinds ws) n ≡ Some kind.Real) q (has_place j kind.Real h))

      by : (o : Option ℕ) → real_by vs o ≡ Ok i → slice_get (kinds ws) i ≡ Some kind.Real
      by None f = absurd cc
      by (Some j) f = at j (slice_get (kinds_of vs) j) refl f

  pub obtained_fits : (fs : List (List ℕ)) (t : Target) (side : Side) (l : List ℕ) (word : FeatureWord) (what : Simple Tree) → length fs ≤ length ws.features
      → obtained fs vs t side l word ≡ Ok what → FitsHere what
  obtained_fits fs t side l word what few e =
      let h = bind-Ok (real_named vs t) (λ v. known fs l >>= λ i. done (Obtain v side i word)) what e in
      let i = bind-Ok (known fs l) (λ i. done (Obtain h.0 side i word)) what h.2 in
      let low = known_below fs l i.0 i.1 in
      let same : Obtain h.0 side i.0 word ≡ what = cc in
      subst FitsHere same (real_fits t h.0 h.1, omega (arith, few, low))

  pub reported_fits : (fs : List (List ℕ)) (side : Side) (l : List ℕ) (what : Simple Tree) → length fs ≤ length ws.features → reported fs side l ≡ Ok what → FitsHere what
  reported_fits fs side l what few e =
      let h = bind-Ok (known fs l) (λ i. done (Output side i)) what e in
      let low = known_below fs l h.0 h.1 in
      let same : Output side h.0 ≡ what = cc in
      subst FitsHere same (omega (arith, few, low))

module _ (b : Behind) (ws : Tables) (g : Grown b.variables ws.variables) where
  outcome : {A : Type 0} {r s : A} → Some r ≡ Some s → r ≡ s
  outcome e = cc

  -- a simple statement fits
  pub acted_fits : (form : Form) (what : Simple Tree) → acted b form ≡ Some (Ok what) → Within (length ws.features) b.blocks → length (measured_after b.measured form).features ≤ length ws.features
      → length (measured_after b.measured form).frames ≤ length ws.frames → Fits (HasKindIn ws) ws what
  acted_fits (Assignment n x) what h bs fs ds = assigned_fits b.variables ws g n x what (outcome h)
  acted_fits (Move p) what h bs fs ds = moved_fits b.variables ws g p.x p.y p.z what (outcome h)
  acted_fits Home what h bs fs ds = (let same : GoHome ≡ what = cc in subst (Fits (HasKindIn ws) ws) same tt)
  acted_fits (Say t) what h bs fs ds = (let same : Text t ≡ what = cc in subst (Fits (HasKindIn ws) ws) same tt)
  acted_fits (Feature l p d) what h bs fs ds = declared_fits b.variables ws g b.measured.features l p d what fs (outcome h)
  acted_fits (Touch p given) what h bs fs ds = touched_fits b.variables ws g b.blocks b.measured.touched p given what bs (outcome h)
  acted_fits (Configure which x) what h bs fs ds = configured_fits b.variables ws g which x what (outcome h)
  acted_fits (Shift l os) what h bs fs ds = shifted_fits b.variables ws g b.measured.frames l os what ds (outcome h)
  acted_fits (Rotation l axis n) what h bs fs ds = rotated_fits b.variables ws g b.measured.frames l axis n what ds (outcome h)
  acted_fits (Restore l) what h bs fs ds = recalled_fits b.variables ws g b.measured.frames l what ds (outcome h)
  acted_fits (Query v side l word) what h bs fs ds = obtained_fits b.variables ws g b.measured.features v side l word what fs (outcome h)
  acted_fits (Report side l) what h bs fs ds = reported_fits b.variables ws g b.measured.features side l what fs (outcome h)
  acted_fits _ what h bs fs ds = absurd cc

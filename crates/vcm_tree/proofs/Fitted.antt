-- The counted statements of a text fit the tables of its names.
use Rattle.std.proofs.Common.{◌≡◌, ℕ, ◌≤◌, List, [], ◌∷◌, ◌++◌, length, Option, Some, None, Result, Ok, Err, refl, subst, arith}
use Rattle.std.specs.Prelude.{slice_get, pos}
use Rattle.vcm_num.specs.declared.number.Kind.{Kind}
use Rattle.vcm_num.specs.declared.number.Kind.TheVariants as kind
use Rattle.vcm_lines.specs.declared.fault.FaultCode.{FaultCode}
use Rattle.vcm_spec.specs.declared.expression.Operand.TheVariants.{Integer}
use Rattle.vcm_spec.specs.Expression.{Tree, Value}
use Rattle.vcm_spec.specs.Fitting.{kinds, HasKindIn}
use Rattle.vcm_expr.specs.declared.typing.Want.TheVariants as wants
use Rattle.vcm_spec.specs.Setup.{Tables, kinds_of}
use Rattle.vcm_expr.specs.Source.{Source}
use Rattle.vcm_expr.specs.Typing.{typed_for}
use Rattle.vcm_expr.proofs.TypedKinds.{typed_for_fine}
use Rattle.vcm_forms.specs.declared.statement.Target.{Target}
use Rattle.vcm_forms.specs.declared.statement.Rounds.{Rounds}
use Rattle.vcm_forms.specs.declared.statement.Form.{Form}
use Rattle.vcm_macro.specs.declared.placed.Placed.{Placed}
use Rattle.vcm_tree.specs.Sentences.{Step, Sentence, Does, Tests, Divides, EndsTest, Repeats, EndsRepeat, Measures, EndsMeasure, Selects, BeginsDefault, EndsCase, EndsSelect}
use Rattle.vcm_tree.specs.Variables.{target_of}
use Rattle.vcm_tree.specs.Blocks.{Behind, Opened, indexed, index_by, index_to, increment_of, repeated}
use Rattle.vcm_tree.specs.Resolving.{Meaning, Silent, Declares, Counts, measured_after, blocks_after, resolved_here, behind_by, behind_one, behind_all, start, sentences_by, sentences_from}
use Rattle.vcm_tree.specs.Program.{tables_of}
use Rattle.vcm_tree.proofs.Written.{StepFits, SentencesFit}
use Rattle.vcm_program.proofs.Titled.{known_below}
use Rattle.vcm_tree.proofs.GrownTables.{Grown, all_statements_grown, twice_least, one_least, all_least, Within, outer_within}
use Rattle.vcm_tree.proofs.Stated.{bind-Ok, Says, meant}
use Rattle.vcm_tree.proofs.FittedSimple.{has_kind, has_place, acted_fits}

module _ (b : Behind) (ws : Tables) (g : Grown b.variables ws.variables) where
  whole_fits : (e : Source) (t : Tree) → typed_for b.variables wants.Int e ≡ Ok t → HasKindIn ws t kind.Int
  whole_fits e t h = has_kind b.variables ws g t kind.Int (typed_for_fine b.variables wants.Int e t h).typed

  index_fits : (t : Target) (i : ℕ) → indexed b.variables t ≡ Ok i → slice_get (kinds ws) i ≡ Some kind.Int
  index_fits t i e = by (target_of b.variables t) e
    where
      at : (j : ℕ) (o : Option Kind) → slice_get (kinds_of b.variables) j ≡ o → index_to j o ≡ Ok i → slice_get (kinds ws) i ≡ Some kind.Int
      at j None h f = absurd cc
      at j (Some kind.Real) h f = absurd cc
      at j (Some kind.Bool) h f = absurd cc
      at j (Some kind.Int) h f = (let same : j ≡ i = cc in subst (λ (n : ℕ). slice_get (kinds ws) n ≡ Some kind.Int) same (has_place b.variables ws g j kind.Int h))

      by : (o : Option ℕ) → index_by b.variables o ≡ Ok i → slice_get (kinds ws) i ≡ Some kind.Int
      by None f = absurd cc
      by (Some j) f = at j (slice_get (kinds_of b.variables) j) refl f

  increment_fits : (o : Option Source) (t : Tree) → increment_of b.variables o ≡ Ok t → HasKindIn ws t kind.Int
  increment_fits None t e = (let g : Value (Integer (pos 1)) ≡ t = cc in subst (λ (u : Tree). HasKindIn ws u kind.Int) g refl)
  increment_fits (Some x) t e = whole_fits x t e

  repeated_fits : (r : Rounds) (i : ℕ) (x y z : Tree) → repeated b.variables r ≡ Ok (Repeats i x y z) → StepFits ws (Repeats i x y z)
  repeated_fits r i x y z e =
      let s : Step = Repeats i x y z in
      let p = bind-Ok (indexed b.variables r.variable) _ s e in
      let q = bind-Ok (typed_for b.variables wants.Int r.initial) _ s p.2 in
      let t = bind-Ok (typed_for b.variables wants.Int r.limit) _ s q.2 in
      let u = bind-Ok (increment_of b.variables r.increment) _ s t.2 in
      let same : Repeats p.0 q.0 t.0 u.0 ≡ Repeats i x y z = (let last = u.2 in cc) in
      subst (StepFits ws) same (index_fits r.variable p.0 p.1, whole_fits r.initial q.0 q.1, whole_fits r.limit t.0 t.1, increment_fits r.increment u.0 u.1)

  step_fits : (form : Form) (s : Step) → Says b form s → Within (length ws.features) b.blocks → length (measured_after b.measured form).features ≤ length ws.features
      → length (measured_after b.measured form).frames ≤ length ws.frames → length b.measured.features ≤ length ws.features → StepFits ws s
  step_fits form (Does what) h bs fs ds few = acted_fits b ws g form what h bs fs ds
  step_fits form (Tests t) h bs fs ds few = has_kind b.variables ws g t kind.Bool (typed_for_fine b.variables wants.Bool h.0 t h.1).typed
  step_fits form (Repeats i x y z) h bs fs ds few = repeated_fits h.0 i x y z h.1
  step_fits form (Measures i) h bs fs ds few = (let low = known_below b.measured.features h.0 i h.1 in omega (arith, few, low))
  step_fits form (Selects t) h bs fs ds few = whole_fits h.0 t h.1
  step_fits form _ h bs fs ds few = tt

both_fit : (ws : Tables) (ps qs : List Sentence) → SentencesFit ws ps → SentencesFit ws qs → SentencesFit ws (ps ++ qs)
both_fit ws [] qs f g = g
both_fit ws (p ∷ ps) qs f g = (f.0, both_fit ws ps qs f.1 g)

-- a statement that fits opens a MEAS block of a feature of the tables
step_within : (ws : Tables) (bs : List Opened) (s : Step) → StepFits ws s → Within (length ws.features) bs → Within (length ws.features) (blocks_after bs s)
step_within ws bs Divides f h = outer_within (length ws.features) bs h
step_within ws bs EndsTest f h = outer_within (length ws.features) bs h
step_within ws bs EndsRepeat f h = outer_within (length ws.features) bs h
step_within ws bs (Measures i) f h = (f, h)
step_within ws bs EndsMeasure f h = outer_within (length ws.features) bs h
step_within ws bs BeginsDefault f h = outer_within (length ws.features) bs h
step_within ws bs EndsCase f h = outer_within (length ws.features) bs h
step_within ws bs EndsSelect f h = outer_within (length ws.features) bs h
step_within ws bs _ f h = h

-- a statement of an expanded program fits, and so do the MEAS blocks that are open behind it
one_fits : (ws : Tables) (b : Behind) (s : Placed) → Grown b.variables ws.variables → Within (length ws.features) b.blocks
    → length (measured_after b.measured s.statement.form).features ≤ length ws.features
    → length (measured_after b.measured s.statement.form).frames ≤ length ws.frames → length b.measured.features ≤ length ws.features
    → SentencesFit ws (sentences_by s.statement.line (resolved_here b s)) × Within (length ws.features) (behind_one b s).blocks
one_fits ws b s g h fs ds few = by (resolved_here b s) refl
  where
    by : (r : Result Meaning FaultCode) → resolved_here b s ≡ r → SentencesFit ws (sentences_by s.statement.line r) × Within (length ws.features) (behind_by b s.statement.form r).blocks
    by (Ok Silent) e = (tt, h)
    by (Ok (Declares vs)) e = (tt, h)
    by (Ok (Counts p)) e = (let f = step_fits b ws g s.statement.form p (meant b s (Counts p) e).step.says h fs ds few in ((f, tt), step_within ws b.blocks p f h))
    by (Err c) e = (tt, h)

fit_in : (ws : Tables) (b : Behind) (ss : List Placed) → tables_of (behind_all b ss) ≡ ws → Within (length ws.features) b.blocks → SentencesFit ws (sentences_from b ss)
fit_in ws b [] e h = tt
fit_in ws b (s ∷ ss) e h =
    let grown = subst (λ (n : Tables). Grown b.variables n.variables) e (all_statements_grown b (s ∷ ss)) in
    let next = behind_one b s in
    let least = twice_least (measured_after b.measured s.statement.form) next.measured (behind_all next ss).measured (one_least b s) (all_least next ss) in
    let fs = subst (λ (n : Tables). length (measured_after b.measured s.statement.form).features ≤ length n.features) e least.features in
    let ds = subst (λ (n : Tables). length (measured_after b.measured s.statement.form).frames ≤ length n.frames) e least.frames in
    let few = subst (λ (n : Tables). length b.measured.features ≤ length n.features) e (all_least b (s ∷ ss)).features in
    let here = one_fits ws b s grown h fs ds few in
    both_fit ws (sentences_by s.statement.line (resolved_here b s)) (sentences_from next ss) here.0 (fit_in ws next ss e here.1)

pub fit_all : (ss : List Placed) → SentencesFit (tables_of (behind_all start ss)) (sentences_from start ss)
fit_all ss = fit_in (tables_of (behind_all start ss)) start ss refl tt

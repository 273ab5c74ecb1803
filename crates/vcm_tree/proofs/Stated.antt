-- What is known of a statement that has a meaning, by its meaning: no list of forms is needed beside the one here.
use Rattle.std.proofs.Common.{◌≡◌, ℕ, ◌<◌, Bool, true, false, ◌&&◌, List, [], ◌∷◌, Option, Some, None, Result, Ok, Err, refl, sym, ap, ◌∙◌, subst, arith, nat_lt}
use Rattle.std.specs.Prelude.{not, if◌then◌else◌}
use Rattle.vcm_lines.specs.declared.fault.FaultCode.{FaultCode}
use Rattle.vcm_lines.specs.declared.fault.FaultCode.TheVariants.{DuplicateName}
use Rattle.vcm_spec.specs.Simple.{Simple}
use Rattle.vcm_spec.specs.Expression.{Tree}
use Rattle.vcm_spec.specs.Program.{Label}
use Rattle.vcm_spec.specs.Setup.{Variable}
use Rattle.vcm_expr.specs.Typing.{typed_for}
use Rattle.vcm_expr.specs.declared.typing.Want.TheVariants as wants
use Rattle.vcm_expr.specs.Source.{Source}
use Rattle.vcm_forms.specs.declared.statement.Rounds.{Rounds}
use Rattle.vcm_forms.specs.declared.statement.Form.{Form}
use Rattle.vcm_forms.specs.declared.statement.Form.TheVariants.{Opening, Measures as Units, Ignored, Declaration, Test, Otherwise, TestEnd, Repeat, RepeatEnd}
use Rattle.vcm_forms.specs.declared.statement.Form.TheVariants.{Mark, Leap, Measure, MeasureEnd, Choose, Case, CaseEnd, Default, ChooseEnd, Macro, MacroEnd}
use Rattle.vcm_forms.specs.declared.statement.Form.TheVariants.{Call, Ending}
use Rattle.vcm_forms.specs.Statements.{is_counted}
use Rattle.vcm_nodes.specs.Jumps.{is_among}
use Rattle.vcm_program.specs.Titles.{known}
use Rattle.vcm_macro.specs.declared.placed.Placed.{Placed}
use Rattle.vcm_macro.specs.Order.{is_ending}
use Rattle.vcm_tree.specs.Sentences.{Step, Does, Marks, Leaps, Tests, Divides, EndsTest, Repeats, EndsRepeat, Measures, EndsMeasure, Selects, BeginsCase, BeginsDefault, EndsCase, EndsSelect, Ends}
use Rattle.vcm_tree.specs.Variables.{with_all}
use Rattle.vcm_tree.specs.Blocks.{Behind, Opened, InFirst, InSecond, InBody, InMeasure, InSelect, InCase, depth, room_by, nested, tested, selected, indexed}
use Rattle.vcm_tree.specs.Blocks.{increment_of, repeated, divided, test_ended, repeat_ended, case_begun, case_ended, select_ended, is_choosing, ended, marked}
use Rattle.vcm_tree.specs.Blocks.{label_of}
use Rattle.vcm_tree.specs.Features.{opened_measure, measure_ended}
use Rattle.vcm_tree.specs.Resolving.{Meaning, Silent, Declares, Counts, counts, does, acted, structured, stated_by, stated, is_measuring, is_barred}
use Rattle.vcm_tree.specs.Resolving.{is_in_block, unless_barred, unless_choosing, resolved_here, labels_after, measured_after, behind_by}
use Rattle.vcm_tree.specs.inner.Taking.{declared_by, marked_by}
use Rattle.vcm_tree.proofs.GrownBlocks.{fits}
use Rattle.vcm_tree.proofs.Kept.{ending_is}
use Rattle.vcm_tree.proofs.Written.{opens}
use Rattle.vcm_spec.specs.Results.{◌>>=◌}

abbrev means : Meaning → Result Meaning FaultCode
means m = Ok m

-- whether a meaning is that of a counted statement
abbrev pub is_step : Meaning → Bool
is_step (Counts s) = true
is_step _ = false

-- what the names of a counted statement give
abbrev pub Says : Behind → Form → Step → Type 0
Says b form (Does what) = acted b form ≡ Some (Ok what)
Says b form (Marks l) = is_among b.labels l ≡ false
Says b form (Tests t) = (x : Source) × (typed_for b.variables wants.Bool x ≡ Ok t)
Says b form (Repeats i x y z) = (r : Rounds) × (repeated b.variables r ≡ Ok (Repeats i x y z))
Says b form (Measures i) = (l : List ℕ) × (known b.measured.features l ≡ Ok i)
Says b form (Selects t) = (x : Source) × (typed_for b.variables wants.Int x ≡ Ok t)
Says b form s = Unit {0}

-- a counted statement may stand there, what opens a block is not too deep, and its names are known
pub record StepStated (b : Behind) (form : Form) (s : Step) : Type 0 where
  pub fits : fits b.blocks s ≡ true
  pub small : opens s ≡ true → depth b.blocks < 32
  pub says : Says b form s

abbrev pub StepsStated : Behind → Form → Meaning → Type 0
StepsStated b form (Counts s) = StepStated b form s
StepsStated b form m = Unit {0}

-- a statement of this meaning: the variables and labels behind it, whether it is counted, and what is known of its step
pub record IsStated (b : Behind) (e : ℕ) (form : Form) (m : Meaning) : Type 0 where
  pub names : declared_by b.variables e form ≡ Ok (behind_by b form (Ok m)).variables
  pub labels : marked_by b.labels e form ≡ (behind_by b form (Ok m)).labels
  pub counted : is_counted form ≡ is_step m
  pub step : StepsStated b form m

-- ---- what is known of the parts

counts_is : (r : Result Step FaultCode) (m : Meaning) → counts r ≡ Ok m → (s : Step) × (r ≡ Ok s) × (Counts s ≡ m)
counts_is (Ok s) m e = (s, refl, (let same : Counts s ≡ m = cc in same))
counts_is (Err c) m e = absurd cc

pub bind-Ok : {A B : Type 0} (o : Result A FaultCode) (go : A → Result B FaultCode) (b : B) → (o >>= go) ≡ Ok b → (a : A) × (o ≡ Ok a) × (go a ≡ Ok b)
bind-Ok (Ok a) go b e = (a, refl, e)
bind-Ok (Err d) go b e = absurd cc

repeated_is : (vs : List Variable) (r : Rounds) (s : Step) → repeated vs r ≡ Ok s → (i : ℕ) × (x : Tree) × (y : Tree) × (z : Tree) × (Repeats i x y z ≡ s)
repeated_is vs r s e =
    let i = bind-Ok (indexed vs r.variable) _ s e in
    let x = bind-Ok (typed_for vs wants.Int r.initial) _ s i.2 in
    let y = bind-Ok (typed_for vs wants.Int r.limit) _ s x.2 in
    let z = bind-Ok (increment_of vs r.increment) _ s y.2 in
    let last = z.2 in
    (i.0, x.0, y.0, z.0, cc)

nested_is : (bs : List Opened) (r : Result Step FaultCode) (s : Step) → nested bs r ≡ Ok s → (depth bs < 32) × (r ≡ Ok s)
nested_is bs r s e = by (nat_lt (depth bs) 32) refl e
  where
    by : (b : Bool) → nat_lt (depth bs) 32 ≡ b → (room_by b >>= λ _. r) ≡ Ok s → (depth bs < 32) × (r ≡ Ok s)
    by true f g = (grind (arith, f), g)
    by false f g = absurd cc

divided_is : (bs : List Opened) (s : Step) → divided bs ≡ Ok s → (Divides ≡ s) × (fits bs Divides ≡ true)
divided_is (InFirst ∷ bs) s e = (cc, refl)
divided_is _ s e = absurd cc

test_ended_is : (bs : List Opened) (s : Step) → test_ended bs ≡ Ok s → (EndsTest ≡ s) × (fits bs EndsTest ≡ true)
test_ended_is (InFirst ∷ bs) s e = (cc, refl)
test_ended_is (InSecond ∷ bs) s e = (cc, refl)
test_ended_is _ s e = absurd cc

repeat_ended_is : (bs : List Opened) (s : Step) → repeat_ended bs ≡ Ok s → (EndsRepeat ≡ s) × (fits bs EndsRepeat ≡ true)
repeat_ended_is (InBody ∷ bs) s e = (cc, refl)
repeat_ended_is _ s e = absurd cc

measure_ended_is : (bs : List Opened) (t : Bool) (s : Step) → measure_ended bs t ≡ Ok s → (EndsMeasure ≡ s) × (fits bs EndsMeasure ≡ true)
measure_ended_is (InMeasure f ∷ bs) true s e = (cc, refl)
measure_ended_is _ _ s e = absurd cc

case_ended_is : (bs : List Opened) (s : Step) → case_ended bs ≡ Ok s → (EndsCase ≡ s) × (fits bs EndsCase ≡ true)
case_ended_is (InCase ∷ bs) s e = (cc, refl)
case_ended_is _ s e = absurd cc

select_ended_is : (bs : List Opened) (s : Step) → select_ended bs ≡ Ok s → (EndsSelect ≡ s) × (fits bs EndsSelect ≡ true)
select_ended_is (InSelect t ∷ bs) s e = (cc, refl)
select_ended_is _ s e = absurd cc

ended_is : (bs : List Opened) (s : Step) → ended bs ≡ Ok s → (Ends ≡ s) × (bs ≡ [])
ended_is [] s e = (cc, refl)
ended_is (b ∷ bs) s e = absurd cc

case_begun_is : (bs : List Opened) (begin s : Step) → case_begun bs begin ≡ Ok s → (begin ≡ s) × (fits bs BeginsDefault ≡ true) × (depth bs < 32)
case_begun_is (InSelect false ∷ bs) begin s e = (let n = nested_is bs (Ok begin) s e in let f = n.1 in (cc, refl, n.0))
case_begun_is _ begin s e = absurd cc

marked_is : (ls : List Label) (l : Label) (s : Step) → marked ls l ≡ Ok s → (Marks l ≡ s) × (is_among ls l ≡ false)
marked_is ls l s e = by (is_among ls l) refl e
  where
    by : (b : Bool) → is_among ls l ≡ b → (if b then Err DuplicateName else Ok (Marks l)) ≡ Ok s → (Marks l ≡ s) × (is_among ls l ≡ false)
    by true f g = absurd cc
    by false f g = (cc, f)

-- a simple statement is counted and stands in a block, and no other one is simple
simple_is : (b : Behind) (e : ℕ) (form : Form) (r : Result (Simple Tree) FaultCode) → acted b form ≡ Some r
    → (declared_by b.variables e form ≡ Ok b.variables) × (marked_by b.labels e form ≡ b.labels) × (is_counted form ≡ true) × (is_in_block form ≡ true)
simple_is b e Opening r h = absurd cc
simple_is b e Units r h = absurd cc
simple_is b e (Ignored w) r h = absurd cc
simple_is b e (Declaration k names) r h = absurd cc
simple_is b e (Mark l) r h = absurd cc
simple_is b e (Case z) r h = absurd cc
simple_is b e Default r h = absurd cc
simple_is b e ChooseEnd r h = absurd cc
simple_is b e (Macro l ps) r h = absurd cc
simple_is b e MacroEnd r h = absurd cc
simple_is b e (Call l args) r h = absurd cc
simple_is b e _ r h = (refl, refl, refl, refl)

-- ---- by forms

module _ (b : Behind) (e : ℕ) where
  -- no counted statement
  silent : (form : Form) (m : Meaning) → Silent ≡ m → declared_by b.variables e form ≡ Ok b.variables → marked_by b.labels e form ≡ b.labels → is_counted form ≡ false → IsStated b e form m
  silent form m same names labels counted = subst (IsStated b e form) same (record { names = names; labels = labels; counted = counted; step = tt })

  -- this counted statement
  step_is : (form : Form) (was s : Step) (m : Meaning) → Counts s ≡ m → was ≡ s → declared_by b.variables e form ≡ Ok b.variables
      → marked_by b.labels e form ≡ labels_after b.labels was → is_counted form ≡ true
      → StepStated b form was → IsStated b e form m
  step_is form was s m same is names labels counted step =
      subst (IsStated b e form) same (subst (λ (t : Step). IsStated b e form (Counts t)) is (record { names = names; labels = labels; counted = counted; step = step }))

  -- one that goes on with a block, or ends it
  ends : (form : Form) (was s : Step) (m : Meaning) → Counts s ≡ m → (was ≡ s) × (fits b.blocks was ≡ true) → declared_by b.variables e form ≡ Ok b.variables
      → marked_by b.labels e form ≡ labels_after b.labels was
      → is_counted form ≡ true → (opens was ≡ true → depth b.blocks < 32) → Says b form was → IsStated b e form m
  ends form was s m same q names labels counted small says = step_is form was s m same q.0 names labels counted (record { fits = q.1; small = small; says = says })

  -- a statement that stands in a block doesn't stand between those of a SELECT
  placed : (is_choosing b.blocks && true) ≡ false → not (is_choosing b.blocks) ≡ true
  placed c = by (is_choosing b.blocks) c
    where
      by : (t : Bool) → (t && true) ≡ false → not t ≡ true
      by true f = absurd cc
      by false f = refl

  structured_is : (form : Form) (m : Meaning) → structured b e form ≡ Ok m → acted b form ≡ None → (is_choosing b.blocks && is_in_block form) ≡ false → IsStated b e form m
  structured_is (Declaration kind names) m h a c = by (with_all b.variables e kind names) refl h
    where
      by : (r : Result (List Variable) FaultCode) → with_all b.variables e kind names ≡ r → (r >>= λ ws. Ok (Declares ws)) ≡ Ok m → IsStated b e (Declaration kind names) m
      by (Ok ws) f g =
          let same : Declares ws ≡ m = cc in
          subst (IsStated b e (Declaration kind names)) same (record { names = f; labels = refl; counted = refl; step = tt })
      by (Err code) f g = absurd cc
  structured_is (Test x) m h a c =
      let p = counts_is (nested b.blocks (tested b.variables x)) m h in
      let q = nested_is b.blocks (tested b.variables x) p.0 p.1 in
      let t = bind-Ok (typed_for b.variables wants.Bool x) (λ t. Ok (Tests t)) p.0 q.1 in
      let same : Tests t.0 ≡ p.0 = (let last = t.2 in cc) in
      step_is (Test x) (Tests t.0) p.0 m p.2 same refl refl refl (record { fits = placed c; small = λ o. q.0; says = (x, t.1) })
  structured_is (Repeat r) m h a c =
      let p = counts_is (nested b.blocks (repeated b.variables r)) m h in
      let q = nested_is b.blocks (repeated b.variables r) p.0 p.1 in
      let t = repeated_is b.variables r p.0 q.1 in
      step_is (Repeat r) (Repeats t.0 t.1 t.2 t.3) p.0 m p.2 t.4 refl refl refl
      (record { fits = placed c; small = λ o. q.0; says = (r, subst (λ (s : Step). repeated b.variables r ≡ Ok s) (sym t.4) q.1) })
  structured_is (Measure l) m h a c =
      let p = counts_is (nested b.blocks (opened_measure b.measured.features l)) m h in
      let q = nested_is b.blocks (opened_measure b.measured.features l) p.0 p.1 in
      let t = bind-Ok (known b.measured.features l) (λ i. Ok (Measures i)) p.0 q.1 in
      let same : Measures t.0 ≡ p.0 = (let last = t.2 in cc) in
      step_is (Measure l) (Measures t.0) p.0 m p.2 same refl refl refl (record { fits = placed c; small = λ o. q.0; says = (l, t.1) })
  structured_is (Choose x) m h a c =
      let p = counts_is (selected b.variables x) m h in
      let t = bind-Ok (typed_for b.variables wants.Int x) (λ t. Ok (Selects t)) p.0 p.1 in
      let same : Selects t.0 ≡ p.0 = (let last = t.2 in cc) in
      step_is (Choose x) (Selects t.0) p.0 m p.2 same refl refl refl (record { fits = placed c; small = λ o. absurd cc; says = (x, t.1) })
  structured_is (Mark name) m h a c =
      let p = counts_is (marked b.labels (label_of e name)) m h in
      let q = marked_is b.labels (label_of e name) p.0 p.1 in
      step_is (Mark name) (Marks (label_of e name)) p.0 m p.2 q.0 refl refl refl (record { fits = placed c; small = λ o. absurd cc; says = q.1 })
  structured_is (Leap name) m h a c =
      let same : Counts (Leaps (label_of e name)) ≡ m = cc in
      step_is (Leap name) (Leaps (label_of e name)) (Leaps (label_of e name)) m same refl refl refl refl (record { fits = placed c; small = λ o. absurd cc; says = tt })
  structured_is Otherwise m h a c = (let p = counts_is (divided b.blocks) m h in ends Otherwise Divides p.0 m p.2 (divided_is b.blocks p.0 p.1) refl refl refl (λ o. absurd cc) tt)
  structured_is TestEnd m h a c = (let p = counts_is (test_ended b.blocks) m h in ends TestEnd EndsTest p.0 m p.2 (test_ended_is b.blocks p.0 p.1) refl refl refl (λ o. absurd cc) tt)
  structured_is RepeatEnd m h a c = (let p = counts_is (repeat_ended b.blocks) m h in ends RepeatEnd EndsRepeat p.0 m p.2 (repeat_ended_is b.blocks p.0 p.1) refl refl refl (λ o. absurd cc) tt)
  structured_is MeasureEnd m h a c =
      let p = counts_is (measure_ended b.blocks b.measured.touched) m h in
      ends MeasureEnd EndsMeasure p.0 m p.2 (measure_ended_is b.blocks b.measured.touched p.0 p.1) refl refl refl (λ o. absurd cc) tt
  structured_is CaseEnd m h a c = (let p = counts_is (case_ended b.blocks) m h in ends CaseEnd EndsCase p.0 m p.2 (case_ended_is b.blocks p.0 p.1) refl refl refl (λ o. absurd cc) tt)
  structured_is ChooseEnd m h a c = (let p = counts_is (select_ended b.blocks) m h in ends ChooseEnd EndsSelect p.0 m p.2 (select_ended_is b.blocks p.0 p.1) refl refl refl (λ o. absurd cc) tt)
  structured_is Ending m h a c =
      let p = counts_is (ended b.blocks) m h in
      let q = ended_is b.blocks p.0 p.1 in
      ends Ending Ends p.0 m p.2 (q.0, ap (λ bs. fits bs Ends) q.1) refl refl refl (λ o. absurd cc) tt
  structured_is (Case z) m h a c =
      let p = counts_is (case_begun b.blocks (BeginsCase z)) m h in
      let q = case_begun_is b.blocks (BeginsCase z) p.0 p.1 in
      ends (Case z) (BeginsCase z) p.0 m p.2 (q.0, q.1) refl refl refl (λ o. q.2) tt
  structured_is Default m h a c =
      let p = counts_is (case_begun b.blocks BeginsDefault) m h in
      let q = case_begun_is b.blocks BeginsDefault p.0 p.1 in
      ends Default BeginsDefault p.0 m p.2 (q.0, q.1) refl refl refl (λ o. q.2) tt
  structured_is Opening m h a c = (let same : Silent ≡ m = cc in silent Opening m same refl refl refl)
  structured_is Units m h a c = (let same : Silent ≡ m = cc in silent Units m same refl refl refl)
  structured_is (Ignored w) m h a c = (let same : Silent ≡ m = cc in silent (Ignored w) m same refl refl refl)
  structured_is (Macro l ps) m h a c = (let same : Silent ≡ m = cc in silent (Macro l ps) m same refl refl refl)
  structured_is MacroEnd m h a c = (let same : Silent ≡ m = cc in silent MacroEnd m same refl refl refl)
  structured_is (Call l args) m h a c = (let same : Silent ≡ m = cc in silent (Call l args) m same refl refl refl)
  structured_is _ m h a c = absurd cc

  -- a simple statement
  does_is : (form : Form) (m : Meaning) (r : Result (Simple Tree) FaultCode) → acted b form ≡ Some r → counts (does r) ≡ Ok m → (is_choosing b.blocks && is_in_block form) ≡ false → IsStated b e form m
  does_is form m (Ok what) a h c =
      let same : Counts (Does what) ≡ m = cc in
      let s = simple_is b e form (Ok what) a in
      step_is form (Does what) (Does what) m same refl s.0 s.1 s.2 (record { fits = placed (ap (λ t. is_choosing b.blocks && t) (sym s.3) ∙ c); small = λ o. absurd cc; says = a })
  does_is form m (Err code) a h c = absurd cc

  -- a statement that has a meaning, in a block if it is one that stands there
  pub stated_is : (form : Form) (m : Meaning) → stated b e form ≡ Ok m → (is_choosing b.blocks && is_in_block form) ≡ false → IsStated b e form m
  stated_is form m h c = by (acted b form) refl h
    where
      by : (o : Option (Result (Simple Tree) FaultCode)) → acted b form ≡ o → stated_by b e form o ≡ Ok m → IsStated b e form m
      by (Some r) a g = does_is form m r a g c
      by None a g = structured_is form m g a c

-- what has a meaning may stand there
standing : (t u : Bool) (r : Result Meaning FaultCode) (m : Meaning) → unless_barred t (unless_choosing u r) ≡ Ok m → (r ≡ Ok m) × (u ≡ false)
standing false false r m e = (e, refl)
standing false true r m e = absurd cc
standing true u r m e = absurd cc

standing_here : (b : Behind) (s : Placed) (m : Meaning) → resolved_here b s ≡ Ok m → (stated b s.expansion s.statement.form ≡ Ok m) × ((is_choosing b.blocks && is_in_block s.statement.form) ≡ false)
standing_here b s m e = standing (is_measuring b.blocks && is_barred s.statement.form) (is_choosing b.blocks && is_in_block s.statement.form) (stated b s.expansion s.statement.form) m e

-- what is known of a statement of an expanded program
pub meant : (b : Behind) (s : Placed) (m : Meaning) → resolved_here b s ≡ Ok m → IsStated b s.expansion s.statement.form m
meant b s m e = (let q = standing_here b s m e in stated_is b s.expansion s.statement.form m q.0 q.1)

-- ENDFIL stands outside all blocks
pub ending_meant : (b : Behind) (s : Placed) (m : Meaning) → is_ending s.statement.form ≡ true → resolved_here b s ≡ Ok m → (resolved_here b s ≡ Ok (Counts Ends)) × (b.blocks ≡ [])
ending_meant b s m l e =
    let q = standing_here b s m e in
    let p = counts_is (ended b.blocks) m (ap (stated b s.expansion) (sym (ending_is s.statement.form l)) ∙ q.0) in
    let r = ended_is b.blocks p.0 p.1 in
    (e ∙ ap (λ n. means n) (sym p.2) ∙ ap (λ n. means (Counts n)) (sym r.0), r.1)

-- what is said of features and frames goes by the statement alone
pub measured_is : (b : Behind) (form : Form) (r : Result Meaning FaultCode) → measured_after b.measured form ≡ (behind_by b form r).measured
measured_is b form (Ok Silent) = refl
measured_is b form (Ok (Declares ws)) = refl
measured_is b form (Ok (Counts s)) = refl
measured_is b form (Err e) = refl

-- The tables of names grow from statement to statement.
use Rattle.std.proofs.Common.{◌≡◌, ℕ, zero, suc, ◌<◌, ◌≤◌, Bool, true, false, List, [], ◌∷◌, ◌++◌, length, Some, Result, Ok, Err, refl, sym, ap, ◌∙◌, subst, append_assoc, nat_lt, arith}
use Rattle.std.specs.Prelude.{slice_get, if◌then◌else◌}
use Rattle.std.proofs.lemmas.List.{append-nil}
use Rattle.vcm_num.specs.declared.number.Kind.{Kind}
use Rattle.vcm_lines.specs.declared.fault.FaultCode.{FaultCode}
use Rattle.vcm_lines.specs.declared.fault.FaultCode.TheVariants.{DuplicateName, TooManyNames}
use Rattle.vcm_spec.specs.declared.expression.Operand.TheVariants.{Integer, Thousandths, Truth, Variable as Place}
use Rattle.vcm_spec.specs.Expression.{Tree, Value, One, Two, kind_of, kind_after_one, kind_after_two, unary_kind, binary_kind}
use Rattle.vcm_spec.specs.Fitting.{kinds}
use Rattle.vcm_spec.specs.Setup.{Variable, Tables, kinds_of}
use Rattle.vcm_items.proofs.Runs.{kind_after_one-Some, kind_after_two-Some}
use Rattle.vcm_forms.specs.declared.statement.Form.{Form}
use Rattle.vcm_forms.specs.declared.statement.Form.TheVariants.{Declaration, Feature, Shift, Rotation, Measure, Touch}
use Rattle.vcm_macro.specs.declared.placed.Placed.{Placed}
use Rattle.vcm_tree.specs.Variables.{is_declared, with_one, with_all}
use Rattle.vcm_tree.specs.Blocks.{Behind, Opened, InFirst, InSecond, InBody, InMeasure, InSelect, InCase, Measured}
use Rattle.vcm_tree.specs.Features.{touched_in}
use Rattle.vcm_tree.specs.Resolving.{Meaning, measured_after, outer, resolved_here, behind_by, behind_one, behind_all}
use Rattle.vcm_tree.specs.inner.Taking.{declared_by}
use Rattle.vcm_tree.proofs.Stated.{bind-Ok, measured_is, meant}
use Rattle.vcm_program.proofs.Titled.{with_name_longer}

-- ---- the table grows

-- the second table is the first one and more
abbrev pub Grown : List Variable → List Variable → Type 0
Grown vs ws = (more : List Variable) × (ws ≡ vs ++ more)

same_grown : (vs : List Variable) → Grown vs vs
same_grown vs = ([], sym (append-nil vs))

twice_grown : (vs ws xs : List Variable) → Grown vs ws → Grown ws xs → Grown vs xs
twice_grown vs ws xs g h = (g.0 ++ h.0, h.1 ∙ ap (λ l. l ++ h.0) g.1 ∙ append_assoc vs g.0 h.0)

abbrev pub tabled : List Variable → Result (List Variable) FaultCode
tabled ws = Ok ws

one_grown : (vs : List Variable) (ex : ℕ) (k : Kind) (name : List ℕ) (ws : List Variable) → with_one vs ex k name ≡ Ok ws → Grown vs ws
one_grown vs ex k name ws e = by (is_declared vs ex name) (nat_lt (length vs) 4096) e
  where
    by : (b c : Bool) → (if b then Err DuplicateName else if c then tabled (vs ++ record { name = name; kind = k; expansion = ex } ∷ []) else Err TooManyNames) ≡ tabled ws → Grown vs ws
    by true c f = absurd cc
    by false true f = (record { name = name; kind = k; expansion = ex } ∷ [], (let g : vs ++ record { name = name; kind = k; expansion = ex } ∷ [] ≡ ws = cc in sym g))
    by false false f = absurd cc

all_grown : (vs : List Variable) (ex : ℕ) (k : Kind) (names : List (List ℕ)) (ws : List Variable) → with_all vs ex k names ≡ Ok ws → Grown vs ws
all_grown vs ex k [] ws e = (let g : vs ≡ ws = cc in ([], sym g ∙ sym (append-nil vs)))
all_grown vs ex k (name ∷ names) ws e =
    let q = bind-Ok (with_one vs ex k name) (λ xs. with_all xs ex k names) ws e in
    twice_grown vs q.0 ws (one_grown vs ex k name q.0 q.1) (all_grown q.0 ex k names ws q.2)

-- the table behind a statement is the one above it and more
declared_grown : (vs : List Variable) (ex : ℕ) (form : Form) (ws : List Variable) → declared_by vs ex form ≡ Ok ws → Grown vs ws
declared_grown vs ex (Declaration k names) ws e = all_grown vs ex k names ws e
declared_grown vs ex _ ws e = (let same : vs ≡ ws = cc in subst (Grown vs) same (same_grown vs))

form_grown : (b : Behind) (s : Placed) → Grown b.variables (behind_one b s).variables
form_grown b s = by (resolved_here b s) refl
  where
    by : (r : Result Meaning FaultCode) → resolved_here b s ≡ r → Grown b.variables (behind_by b s.statement.form r).variables
    by (Ok m) e = declared_grown b.variables s.expansion s.statement.form (behind_by b s.statement.form (Ok m)).variables (meant b s m e).names
    by (Err c) e = same_grown b.variables

pub all_statements_grown : (b : Behind) (ss : List Placed) → Grown b.variables (behind_all b ss).variables
all_statements_grown b [] = same_grown b.variables
all_statements_grown b (s ∷ ss) = twice_grown b.variables (behind_one b s).variables (behind_all (behind_one b s) ss).variables (form_grown b s) (all_statements_grown (behind_one b s) ss)

-- ---- the names of features and frames grow

-- as many features and frames, or more
pub record AtLeast (old new : Measured) : Type 0 where
  pub features : length old.features ≤ length new.features
  pub frames : length old.frames ≤ length new.frames

same_least : (ms : Measured) → AtLeast ms ms
same_least ms = record { features = omega arith; frames = omega arith }

pub twice_least : (a b c : Measured) → AtLeast a b → AtLeast b c → AtLeast a c
twice_least a b c p q = record { features = (let f = p.features in let g = q.features in omega (arith, f, g)); frames = (let f = p.frames in let g = q.frames in omega (arith, f, g)) }

after_least : (ms : Measured) (form : Form) → AtLeast ms (measured_after ms form)
after_least ms (Feature l p d) = record { features = with_name_longer ms.features l; frames = omega arith }
after_least ms (Shift l os) = record { features = omega arith; frames = with_name_longer ms.frames l }
after_least ms (Rotation l axis n) = record { features = omega arith; frames = with_name_longer ms.frames l }
after_least ms (Measure l) = record { features = omega arith; frames = omega arith }
after_least ms (Touch p given) = record { features = omega arith; frames = omega arith }
after_least ms _ = same_least ms

pub one_least : (b : Behind) (s : Placed) → AtLeast (measured_after b.measured s.statement.form) (behind_one b s).measured
one_least b s = subst (λ ms. AtLeast (measured_after b.measured s.statement.form) ms) (measured_is b s.statement.form (resolved_here b s)) (same_least (measured_after b.measured s.statement.form))

pub all_least : (b : Behind) (ss : List Placed) → AtLeast b.measured (behind_all b ss).measured
all_least b [] = same_least b.measured
all_least b (s ∷ ss) =
    twice_least b.measured (behind_one b s).measured (behind_all (behind_one b s) ss).measured
    (twice_least b.measured (measured_after b.measured s.statement.form) (behind_one b s).measured (after_least b.measured s.statement.form) (one_least b s)) (all_least (behind_one b s) ss)

-- the features of MEAS blocks that are open stand below a number
abbrev pub Within : ℕ → List Opened → Type 0
Within n [] = Unit {0}
Within n (InMeasure f ∷ bs) = (f < n) × Within n bs
Within n (InFirst ∷ bs) = Within n bs
Within n (InSecond ∷ bs) = Within n bs
Within n (InBody ∷ bs) = Within n bs
Within n (InSelect t ∷ bs) = Within n bs
Within n (InCase ∷ bs) = Within n bs

pub outer_within : (n : ℕ) (bs : List Opened) → Within n bs → Within n (outer bs)
outer_within n [] h = tt
outer_within n (InMeasure f ∷ bs) h = h.1
outer_within n (_ ∷ bs) h = h

pub touched_below : (n : ℕ) (bs : List Opened) (t : Bool) (i : ℕ) → touched_in bs t ≡ Ok i → Within n bs → i < n
touched_below n (InMeasure f ∷ bs) true i e h = absurd cc
touched_below n (InMeasure f ∷ bs) false i e h = (let same : f ≡ i = cc in subst (λ (k : ℕ). k < n) same h.0)
touched_below n _ t i e h = absurd cc

-- ---- kinds in a table that grows

pub get_grown : (ks more : List Kind) (i : ℕ) (k : Kind) → slice_get ks i ≡ Some k → slice_get (ks ++ more) i ≡ Some k
get_grown [] more i k e = absurd cc
get_grown (l ∷ ks) more zero k e = e
get_grown (l ∷ ks) more (suc i) k e = get_grown ks more i k e

pub kind_grown : (ks more : List Kind) (t : Tree) (k : Kind) → kind_of ks t ≡ Some k → kind_of (ks ++ more) t ≡ Some k
kind_grown ks more (Value (Integer n)) k e = e
kind_grown ks more (Value (Thousandths n)) k e = e
kind_grown ks more (Value (Truth b)) k e = e
kind_grown ks more (Value (Place v)) k e = get_grown ks more v k e
kind_grown ks more (One op a) k e =
    let q = kind_after_one-Some (unary_kind op) (kind_of ks a) k e in
    ap (kind_after_one (unary_kind op)) (kind_grown ks more a q.0 q.1) ∙ q.2
kind_grown ks more (Two op a b) k e =
    let q = kind_after_two-Some (binary_kind op) (kind_of ks a) (kind_of ks b) k e in
    ap (λ o. kind_after_two (binary_kind op) o (kind_of (ks ++ more) b)) (kind_grown ks more a q.0 q.2)
    ∙ ap (kind_after_two (binary_kind op) (Some q.0)) (kind_grown ks more b q.1 q.3) ∙ q.4

kinds_push : (vs ws : List Variable) → kinds_of (vs ++ ws) ≡ kinds_of vs ++ kinds_of ws
kinds_push [] ws = refl
kinds_push (v ∷ vs) ws = ap (λ l. v.kind ∷ l) (kinds_push vs ws)

pub kinds_grown : (vs : List Variable) (ws : Tables) → Grown vs ws.variables → (more : List Kind) × (kinds ws ≡ kinds_of vs ++ more)
kinds_grown vs ws g = (kinds_of g.0, ap kinds_of g.1 ∙ kinds_push vs g.0)

-- A typed expression has its kind, and is no deeper and no larger than what was written.
use Rattle.std.proofs.Common.{◌≡◌, ℕ, ◌+◌, ◌≤◌, max, Bool, true, false, List, Option, Some, None, Result, Ok, Err, refl, ap, ◌∙◌, subst, arith}
use Rattle.std.specs.Prelude.{slice_get}
use Rattle.vcm_num.specs.declared.number.Kind.{Kind}
use Rattle.vcm_num.specs.declared.number.Kind.TheVariants.{Int, Real, Bool as Truth}
use Rattle.vcm_num.specs.declared.number.Literal.TheVariants.{Int as Whole, Thousandths as Exact}
use Rattle.vcm_lines.specs.declared.fault.FaultCode.{FaultCode}
use Rattle.vcm_spec.specs.declared.expression.Operand.TheVariants.{Integer, Thousandths, Truth as TruthValue, Variable as TheVariable}
use Rattle.vcm_spec.specs.declared.expression.UnaryOp.TheVariants.{Neg, Scale, Not as Negation}
use Rattle.vcm_spec.specs.declared.expression.BinaryOp.{BinaryOp}
use Rattle.vcm_spec.specs.declared.expression.BinaryOp.TheVariants.{Mul, Div}
use Rattle.vcm_spec.specs.Expression.{Tree, Value, One, Two, unary_kind, binary_kind, kind_after_one, kind_after_two, kind_of, depth, nodes}
use Rattle.vcm_expr.specs.declared.expression.Prefix.{Prefix}
use Rattle.vcm_expr.specs.declared.expression.Prefix.TheVariants.{Minus, Plus, Not}
use Rattle.vcm_expr.specs.declared.expression.Term.{Term}
use Rattle.vcm_expr.specs.declared.expression.Term.TheVariants.{Number, Truth as Constant, Variable as Named}
use Rattle.vcm_expr.specs.declared.typing.Want.{Want}
use Rattle.vcm_expr.specs.declared.typing.Want.TheVariants.{Int as WantInt, Length, Bool as WantBool}
use Rattle.vcm_expr.specs.Source.{Source, Plain, Prefixed, Pair, depth_of, nodes_of}
use Rattle.vcm_spec.specs.Setup.{Variable, kinds_of}
use Rattle.vcm_items.specs.Names.{variable_of}
use Rattle.vcm_expr.specs.Typing.{Kinded, kinded, variable_by, named_by, leaf_of, prefixed_by, typed_as, is_scaled, scaled, scaled_kind, pair_by, and_then, typed_of, wanted_by, wanted_kind, typed_for}

-- only whole numbers are scaled
scaled_whole : (op : BinaryOp) (k l : Kind) → is_scaled op k l ≡ true → k ≡ Int
scaled_whole op Int l e = refl
scaled_whole Mul k l e = absurd cc
scaled_whole Div k l e = absurd cc
scaled_whole _ _ l e = absurd cc

scaled-kind : (kinds : List Kind) (b : Bool) (t : Tree) (k : Kind) → (b ≡ true → k ≡ Int) → kind_of kinds t ≡ Some k → kind_of kinds (scaled b t) ≡ Some (scaled_kind b k)
scaled-kind kinds true t k whole e = ap (kind_after_one (unary_kind Scale)) (e ∙ ap (λ j. Some j) (whole refl))
scaled-kind kinds false t k whole e = e

-- a sign leaves the kind of a number
sign_kind : (k j : Kind) → unary_kind Neg k ≡ Some j → k ≡ j
sign_kind Int j e = cc
sign_kind Real j e = cc
sign_kind Truth j e = absurd cc

typed_as-Ok : (o : Option Kind) (t : Tree) (p : Kinded) → typed_as o t ≡ Ok p → (k : Kind) × (o ≡ Some k) × (kinded t k ≡ Ok p)
typed_as-Ok None t p e = absurd cc
typed_as-Ok (Some k) t p e = (k, refl, e)

scaled-depth : (b : Bool) (t : Tree) → depth (scaled b t) ≡ depth t
scaled-depth true t = omega arith
scaled-depth false t = refl

scaled-nodes : (b : Bool) (t : Tree) → nodes (scaled b t) ≡ nodes t
scaled-nodes true t = omega arith
scaled-nodes false t = refl

and_then-Ok : {A : Type 0} (o : Result Kinded FaultCode) (go : Tree → Kind → Result A FaultCode) (a : A) → and_then o go ≡ Ok a → (q : Kinded) × (o ≡ Ok q) × (go q.tree q.kind ≡ Ok a)
and_then-Ok (Ok q) go a e = (q, refl, e)
and_then-Ok (Err d) go a e = cc

-- what is proved of a typed expression
pub record Fine (kinds : List Kind) (d n : ℕ) (t : Tree) (k : Kind) : Type 0 where
  pub typed : kind_of kinds t ≡ Some k
  pub shallow : depth t ≤ d
  pub few : nodes t ≤ n

fine_same : (kinds : List Kind) (d n : ℕ) (t : Tree) (k : Kind) (p : Kinded) → kinded t k ≡ Ok p → kind_of kinds t ≡ Some k → depth t ≤ d → nodes t ≤ n → Fine kinds d n p.tree p.kind
fine_same kinds d n t k p e h shallow few =
    let same : record { tree = t; kind = k } ≡ p = cc in
    subst (λ (q : Kinded). Fine kinds d n q.tree q.kind) same (record { typed = h; shallow = shallow; few = few })

variable_fine : (vs : List Variable) (i : ℕ) (o : Option Kind) (p : Kinded) → slice_get (kinds_of vs) i ≡ o → variable_by i o ≡ Ok p → Fine (kinds_of vs) 1 1 p.tree p.kind
variable_fine vs i None p h e = cc
variable_fine vs i (Some k) p h e = fine_same (kinds_of vs) 1 1 (Value (TheVariable i)) k p e h (omega arith) (omega arith)

named_fine : (vs : List Variable) (o : Option ℕ) (p : Kinded) → named_by vs o ≡ Ok p → Fine (kinds_of vs) 1 1 p.tree p.kind
named_fine vs None p e = cc
named_fine vs (Some i) p e = variable_fine vs i (slice_get (kinds_of vs) i) p refl e

leaf_fine : (vs : List Variable) (t : Term) (p : Kinded) → leaf_of vs t ≡ Ok p → Fine (kinds_of vs) 1 1 p.tree p.kind
leaf_fine vs (Number (Whole n)) p e = fine_same (kinds_of vs) 1 1 (Value (Integer n)) Int p e refl (omega arith) (omega arith)
leaf_fine vs (Number (Exact n)) p e = fine_same (kinds_of vs) 1 1 (Value (Thousandths n)) Real p e refl (omega arith) (omega arith)
leaf_fine vs (Constant b) p e = fine_same (kinds_of vs) 1 1 (Value (TruthValue b)) Truth p e refl (omega arith) (omega arith)
leaf_fine vs (Named name expansion) p e = named_fine vs (variable_of vs expansion name) p e

prefixed_fine : (kinds : List Kind) (d n : ℕ) (op : Prefix) (t : Tree) (k : Kind) (p : Kinded) → Fine kinds d n t k → prefixed_by op t k ≡ Ok p → Fine kinds (d + 1) (n + 1) p.tree p.kind
prefixed_fine kinds d n Minus t k p f e =
    let q = typed_as-Ok (unary_kind Neg k) (One Neg t) p e in
    fine_same kinds (d + 1) (n + 1) (One Neg t) q.0 p q.2 (ap (kind_after_one (unary_kind Neg)) f.typed ∙ q.1) (omega (arith, f.shallow)) (omega (arith, f.few))
prefixed_fine kinds d n Plus t k p f e =
    let q = typed_as-Ok (unary_kind Neg k) t p e in
    fine_same kinds (d + 1) (n + 1) t q.0 p q.2 (f.typed ∙ ap (λ j. Some j) (sign_kind k q.0 q.1)) (omega (arith, f.shallow)) (omega (arith, f.few))
prefixed_fine kinds d n Not t k p f e =
    let q = typed_as-Ok (unary_kind Negation k) (One Negation t) p e in
    fine_same kinds (d + 1) (n + 1) (One Negation t) q.0 p q.2 (ap (kind_after_one (unary_kind Negation)) f.typed ∙ q.1) (omega (arith, f.shallow)) (omega (arith, f.few))

pair_fine : (kinds : List Kind) (c d m n : ℕ) (op : BinaryOp) (t u : Tree) (k l : Kind) (p : Kinded) → Fine kinds c m t k → Fine kinds d n u l
    → pair_by op t k u l ≡ Ok p → Fine kinds (max c d + 1) (m + n + 1) p.tree p.kind
pair_fine kinds c d m n op t u k l p f g e =
    let a = is_scaled op k l in
    let b = is_scaled op l k in
    let q = typed_as-Ok (binary_kind op (scaled_kind a k) (scaled_kind b l)) (Two op (scaled a t) (scaled b u)) p e in
    let left = scaled-kind kinds a t k (scaled_whole op k l) f.typed in
    let right = scaled-kind kinds b u l (scaled_whole op l k) g.typed in
    let typed : kind_of kinds (Two op (scaled a t) (scaled b u)) ≡ Some q.0 = ap (λ o. kind_after_two (binary_kind op) o (kind_of kinds (scaled b u))) left
    ∙ ap (kind_after_two (binary_kind op) (Some (scaled_kind a k))) right ∙ q.1 in
    fine_same kinds (max c d + 1) (m + n + 1) (Two op (scaled a t) (scaled b u)) q.0 p q.2 typed
    (omega (arith, scaled-depth a t, scaled-depth b u, f.shallow, g.shallow)) (omega (arith, scaled-nodes a t, scaled-nodes b u, f.few, g.few))

pub typed_fine : (vs : List Variable) (s : Source) (p : Kinded) → typed_of vs s ≡ Ok p → Fine (kinds_of vs) (depth_of s) (nodes_of s) p.tree p.kind
typed_fine vs (Plain t) p e = leaf_fine vs t p e
typed_fine vs (Prefixed op a) p e =
    let q = and_then-Ok (typed_of vs a) (prefixed_by op) p e in
    prefixed_fine (kinds_of vs) (depth_of a) (nodes_of a) op q.0.tree q.0.kind p (typed_fine vs a q.0 q.1) q.2
typed_fine vs (Pair op a b) p e =
    let q = and_then-Ok (typed_of vs a) (λ t k. and_then (typed_of vs b) (pair_by op t k)) p e in
    let r = and_then-Ok (typed_of vs b) (pair_by op q.0.tree q.0.kind) p q.2 in
    pair_fine (kinds_of vs) (depth_of a) (depth_of b) (nodes_of a) (nodes_of b) op q.0.tree r.0.tree q.0.kind r.0.kind p (typed_fine vs a q.0 q.1) (typed_fine vs b r.0 r.1) r.2

abbrev done : Tree → Result Tree FaultCode
done t = Ok t

tree_same : (kinds : List Kind) (d n : ℕ) (t u : Tree) (k : Kind) → done t ≡ done u → kind_of kinds t ≡ Some k → depth t ≤ d → nodes t ≤ n → Fine kinds d n u k
tree_same kinds d n t u k e h shallow few =
    let same : t ≡ u = cc in
    subst (λ (v : Tree). Fine kinds d n v k) same (record { typed = h; shallow = shallow; few = few })

wanted_fine : (kinds : List Kind) (d n : ℕ) (want : Want) (t u : Tree) (k : Kind) → Fine kinds d n t k → wanted_by want t k ≡ Ok u → Fine kinds d n u (wanted_kind want)
wanted_fine kinds d n WantInt t u Int f e = tree_same kinds d n t u Int e f.typed f.shallow f.few
wanted_fine kinds d n Length t u Int f e = tree_same kinds d n (One Scale t) u Real e (ap (kind_after_one (unary_kind Scale)) f.typed) (omega (arith, f.shallow)) (omega (arith, f.few))
wanted_fine kinds d n Length t u Real f e = tree_same kinds d n t u Real e f.typed f.shallow f.few
wanted_fine kinds d n WantBool t u Truth f e = tree_same kinds d n t u Truth e f.typed f.shallow f.few
wanted_fine kinds d n _ t u k f e = cc

-- the typed tree has the wanted kind, and is no deeper and no larger than the expression
pub typed_for_fine : (vs : List Variable) (want : Want) (s : Source) (t : Tree) → typed_for vs want s ≡ Ok t → Fine (kinds_of vs) (depth_of s) (nodes_of s) t (wanted_kind want)
typed_for_fine vs want s t e =
    let q = and_then-Ok (typed_of vs s) (wanted_by want) t e in
    wanted_fine (kinds_of vs) (depth_of s) (nodes_of s) want q.0.tree t q.0.kind (typed_fine vs s q.0 q.1) q.2

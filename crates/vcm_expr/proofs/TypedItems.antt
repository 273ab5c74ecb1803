-- The items of typed expressions.
use Rattle.std.proofs.Common.{◌≡◌, inl, inr, ℕ, ◌+◌, ◌≤◌, Bool, true, false, List, [], ◌∷◌, ◌++◌, length, Option, Some, Result, Ok, Err, refl, sym, ap, ◌∙◌, subst, arith, append_assoc}
use Rattle.std.specs.Prelude.{nat_le, ◌&&◌}
use Rattle.std.proofs.lemmas.List.{append-nil}
use Rattle.vcm_num.specs.declared.number.Kind.{Kind}
use Rattle.vcm_spec.specs.declared.expression.Operand.{Operand}
use Rattle.vcm_spec.specs.declared.expression.Item.{Item}
use Rattle.vcm_spec.specs.declared.expression.Item.TheVariants.{Push, Apply, Combine}
use Rattle.vcm_spec.specs.declared.expression.UnaryOp.TheVariants.{Scale}
use Rattle.vcm_spec.specs.declared.expression.BinaryOp.{BinaryOp}
use Rattle.vcm_spec.specs.Expression.{Tree, Value, One, Two, binary_kind, kind_of, depth, nodes, need, spelling, trees, HasKind}
use Rattle.vcm_spec.proofs.Postfix.{trees_of-spelling, one_tree}
use Rattle.vcm_spec.specs.Setup.{Variable, kinds_of}
use Rattle.vcm_lines.specs.Fault.{NoMemoryOr}
use Rattle.vcm_lines.specs.declared.fault.FaultCode.{FaultCode}
use Rattle.vcm_lines.specs.declared.fault.SourceFault.{SourceFault}
use Rattle.vcm_expr.specs.declared.expression.Term.{Term}
use Rattle.vcm_expr.specs.declared.expression.Piece.{Piece}
use Rattle.vcm_expr.specs.declared.typing.Want.{Want}
use Rattle.vcm_expr.specs.Source.{Source, Plain, depth_of, nodes_of, is_small, parts}
use Rattle.vcm_items.specs.Typed.{VariableBelow, VariablesBelow}
use Rattle.vcm_expr.specs.Typing.{leaf_of, kinded, is_scaled, scaled, scaled_kind, typed_as, pair_by, and_then, typed_of, wanted_by, wanted_kind, typed_for}
use Rattle.vcm_items.specs.Run.{ItemsFit}
use Rattle.vcm_expr.specs.inner.Trees.{topmost, scaling, Spelled, SpelledFor}
use Rattle.vcm_items.proofs.Runs.{ItemsFit-spelling}
use Rattle.vcm_items.proofs.PostfixKinds.{need-le-depth, spelling-HasKind}
use Rattle.vcm_items.proofs.Truths.{spelling-short}
use Rattle.vcm_expr.proofs.TypedKinds.{typed_for_fine}

-- what is kept is the tree that the items spell
kept_is : (items : List Item) (t : Tree) → items ≡ spelling t → topmost (trees items []) ≡ t
kept_is items t e = ap (λ is. topmost (trees is [])) e ∙ ap topmost (trees_of-spelling t)

pub spelled_again : (items : List Item) (t : Tree) → items ≡ spelling t → items ≡ spelling (topmost (trees items []))
spelled_again items t e = e ∙ ap spelling (sym (kept_is items t e))

pub kept_well : (items : List Item) (t : Tree) → items ≡ spelling t → depth t ≤ 32 → nodes t ≤ 512
    → (items ≡ spelling (topmost (trees items []))) × (depth (topmost (trees items [])) ≤ 32) × (nodes (topmost (trees items [])) ≤ 512)
kept_well items t e shallow few =
    let same = sym (kept_is items t e) in
    (spelled_again items t e, subst (λ u. depth u ≤ 32) same shallow, subst (λ u. nodes u ≤ 512) same few)

-- a single operand is a leaf
pub leaf_is : (x : Operand) (t : Tree) → Push x ∷ [] ≡ spelling t → Value x ≡ t
leaf_is x t e = one_tree (Value x) t e

pub leaf_below : (n : ℕ) (x : Operand) (t : Tree) → Push x ∷ [] ≡ spelling t → VariablesBelow n t → VariableBelow n x
leaf_below n x t e v = subst (λ u. VariablesBelow n u) (sym (leaf_is x t e)) v

pub scaled_is : (x : Operand) (t : Tree) → Push x ∷ Apply Scale ∷ [] ≡ spelling t → One Scale (Value x) ≡ t
scaled_is x t e = one_tree (One Scale (Value x)) t e

pub scaled_below : (n : ℕ) (x : Operand) (t : Tree) → Push x ∷ Apply Scale ∷ [] ≡ spelling t → VariablesBelow n t → VariableBelow n x
scaled_below n x t e v = subst (λ u. VariablesBelow n u) (sym (scaled_is x t e)) v

-- items that spell a tree have its kind, and are few
pub spelled_kind : (items : List Item) (t : Tree) → items ≡ spelling t → depth t ≤ 32 → (kinds : List Kind) (k : Kind) → kind_of kinds t ≡ Some k → HasKind kinds items k
spelled_kind items t e shallow kinds k h = subst (λ is. HasKind kinds is k) (sym e) (spelling-HasKind kinds t k h shallow)

pub spelled_short : (items : List Item) (t : Tree) → items ≡ spelling t → nodes t ≤ 512 → (kinds : List Kind) (k : Kind) → kind_of kinds t ≡ Some k → length items ≤ 1024
spelled_short items t e few kinds k h = subst (λ is. length is ≤ 1024) (sym e) (spelling-short kinds t k h few)

-- they fit an empty stack where the tree's variables have places
pub spelled_fit : (n : ℕ) (items : List Item) (t : Tree) → items ≡ spelling t → VariablesBelow n t → depth t ≤ 32 → ItemsFit n items 0
spelled_fit n items t e v shallow =
    let room : 0 + need t ≤ 32 = omega (arith, need-le-depth t, shallow) in
    subst (λ is. ItemsFit n is 0) (append-nil (spelling t) ∙ sym e) (ItemsFit-spelling n t [] 0 v room refl)

-- a tree that is scaled is spelled with the scaling behind it
scaled-spelling : (b : Bool) (t : Tree) → spelling (scaled b t) ≡ spelling t ++ scaling b
scaled-spelling true t = refl
scaled-spelling false t = sym (append-nil (spelling t))

-- an operator behind two operands, each scaled where it has to be
pair-spelling : (op : BinaryOp) (a b : Bool) (before : List Item) (t u : Tree)
    → ((before ++ spelling t) ++ (scaling a ++ (spelling u ++ scaling b))) ++ Combine op ∷ [] ≡ before ++ spelling (Two op (scaled a t) (scaled b u))
pair-spelling op a b before t u =
    append_assoc (before ++ spelling t) (scaling a ++ (spelling u ++ scaling b)) (Combine op ∷ [])
    ∙ append_assoc before (spelling t) ((scaling a ++ (spelling u ++ scaling b)) ++ Combine op ∷ [])
    ∙ ap (λ is. before ++ (spelling t ++ is)) (append_assoc (scaling a) (spelling u ++ scaling b) (Combine op ∷ []))
    ∙ ap (λ is. before ++ (spelling t ++ (scaling a ++ (is ++ Combine op ∷ [])))) (sym (scaled-spelling b u))
    ∙ ap (λ is. before ++ is) (sym (append_assoc (spelling t) (scaling a) (spelling (scaled b u) ++ Combine op ∷ [])))
    ∙ ap (λ is. before ++ (is ++ (spelling (scaled b u) ++ Combine op ∷ []))) (sym (scaled-spelling a t))

-- both operands scaled where they have to be, and then the operator: that spells the pair
pub pair_spelled : (op : BinaryOp) (k l j : Kind) (a b : Bool) (old one two new : List Item) (between : ℕ)
    → a ≡ is_scaled op k l → b ≡ is_scaled op l k → (kk ll : Kind) (o : Option Kind) → kk ≡ scaled_kind a k → ll ≡ scaled_kind b l → o ≡ binary_kind op kk ll → o ≡ Some j
    → one ≡ old ++ scaling b
    → ((x y : List Item) → one ≡ x ++ y → length x ≡ between → two ≡ x ++ (scaling a ++ y))
    → new ≡ two ++ Combine op ∷ []
    → (before : List Item) (t u : Tree) → old ≡ before ++ (spelling t ++ spelling u) → length (before ++ spelling t) ≡ between
    → Spelled (pair_by op t k u l) before new j
pair_spelled op k l j a b old one two new between ea eb kk ll o left right kind some end second third before t u is at =
    let typed : binary_kind op (scaled_kind a k) (scaled_kind b l) ≡ Some j =
    ap (λ i. binary_kind op i (scaled_kind b l)) (sym left) ∙ ap (binary_kind op kk) (sym right) ∙ sym kind ∙ some in
    let cut : one ≡ (before ++ spelling t) ++ (spelling u ++ scaling b) =
    end ∙ ap (λ is. is ++ scaling b) (is ∙ sym (append_assoc before (spelling t) (spelling u))) ∙ append_assoc (before ++ spelling t) (spelling u) (scaling b) in
    let all : new ≡ before ++ spelling (Two op (scaled a t) (scaled b u)) =
    third ∙ ap (λ is. is ++ Combine op ∷ []) (second (before ++ spelling t) (spelling u ++ scaling b) cut at) ∙ pair-spelling op a b before t u in
    let made : typed_as (binary_kind op (scaled_kind a k) (scaled_kind b l)) (Two op (scaled a t) (scaled b u)) ≡ kinded (Two op (scaled a t) (scaled b u)) j =
    ap (λ o. typed_as o (Two op (scaled a t) (scaled b u))) typed in
    record {
      tree = Two op (scaled a t) (scaled b u);
      is = subst (λ c. typed_as (binary_kind op (scaled_kind (is_scaled op k l) k) (scaled_kind c l)) (Two op (scaled (is_scaled op k l) t) (scaled c u)) ≡
          kinded (Two op (scaled a t) (scaled b u)) j) eb
          (subst (λ c. typed_as (binary_kind op (scaled_kind c k) (scaled_kind b l)) (Two op (scaled c t) (scaled b u)) ≡ kinded (Two op (scaled a t) (scaled b u)) j) ea made);
      items = all;
    }

-- the only expression, fitted to its place
pub typed_wanted : (vs : List Variable) (want : Want) (s : Source) (k : Kind) (items after : List Item) → Spelled (typed_of vs s) [] items k
    → ((t : Tree) → items ≡ spelling t → SpelledFor (wanted_by want t k) after) → (t : Tree) × (typed_for vs want s ≡ Ok t) × (after ≡ spelling t)
typed_wanted vs want s k items after p next =
    let w = next p.tree p.items in
    (w.tree, ap (λ o. and_then o (wanted_by want)) p.is ∙ w.is, w.items)

-- what such a list is made into
pub typed_result : (vs : List Variable) (want : Want) (s : Source) (after : List Item) (r : Tree) → ((t : Tree) × (typed_for vs want s ≡ Ok t) × (after ≡ spelling t))
    → after ≡ spelling r → (typed_for vs want s ≡ Ok r) × (kind_of (kinds_of vs) r ≡ Some (wanted_kind want))
typed_result vs want s after r w e =
    let same : w.0 ≡ r = one_tree w.0 r (sym w.2 ∙ e) in
    let is : typed_for vs want s ≡ Ok r = w.1 ∙ ap (λ t. Ok t) same in
    (is, (typed_for_fine vs want s r is).typed)

pub typed_small : (vs : List Variable) (want : Want) (s : Source) (after : List Item) → ((t : Tree) × (typed_for vs want s ≡ Ok t) × (after ≡ spelling t))
    → depth_of s ≤ 32 → nodes_of s ≤ 512 → (t : Tree) × (after ≡ spelling t) × (depth t ≤ 32) × (nodes t ≤ 512)
typed_small vs want s after w shallow few =
    let f = typed_for_fine vs want s w.0 w.1 in
    (w.0, w.2, omega (arith, f.shallow, shallow), omega (arith, f.few, few))

-- a leaf alone in its place
pub leaf_placed : (vs : List Variable) (want : Want) (t : Term) (k : Kind) (x : Operand) (r : Result Tree FaultCode) → leaf_of vs t ≡ kinded (Value x) k
    → wanted_by want (Value x) k ≡ r → typed_for vs want (Plain t) ≡ r
leaf_placed vs want t k x r e w = ap (λ o. and_then o (wanted_by want)) e ∙ w

-- the exits of a place that doesn't take its expression
pub leaf_told : (vs : List Variable) (want : Want) (t : Term) (code : FaultCode) → leaf_of vs t ≡ Err code → typed_for vs want (Plain t) ≡ Err code
leaf_told vs want t code e = ap (λ o. and_then o (wanted_by want)) e

pub parts_told : (vs : List Variable) (want : Want) (ps : List Piece) (line : ℕ) (g : SourceFault)
    → NoMemoryOr (λ f. (f.line ≡ line) × ((e : Source) → ps ≡ parts e → typed_of vs e ≡ Err f.code)) g
    → NoMemoryOr (λ f. (f.line ≡ line) × ((e : Source) → ps ≡ parts e → typed_for vs want e ≡ Err f.code)) g
parts_told vs want ps line g (inl m) = inl m
parts_told vs want ps line g (inr h) = inr (h.0, λ e is. ap (λ o. and_then o (wanted_by want)) (h.1 e is))

pub parts_place_told : (vs : List Variable) (want : Want) (ps : List Piece) (k : Kind) (items : List Item) (line : ℕ) (g : SourceFault)
    → ((e : Source) → ps ≡ parts e → Spelled (typed_of vs e) [] items k)
    → NoMemoryOr (λ f. (f.line ≡ line) × ((t : Tree) → wanted_by want t k ≡ Err f.code)) g → NoMemoryOr (λ f. (f.line ≡ line) × ((e : Source) → ps ≡ parts e → typed_for vs want e ≡ Err f.code)) g
parts_place_told vs want ps k items line g p (inl m) = inl m
parts_place_told vs want ps k items line g p (inr h) = inr (h.0, λ e is. let q = p e is in ap (λ o. and_then o (wanted_by want)) q.is ∙ h.1 q.tree)

-- an expression within the limits
within_depth : (d n : ℕ) → (nat_le d 32 && nat_le n 512) ≡ true → (d ≤ 32) × (n ≤ 512)
within_depth d n h = (grind arith, grind arith)

pub within_limits : (s : Source) → is_small s ≡ true → (depth_of s ≤ 32) × (nodes_of s ≤ 512)
within_limits s h = within_depth (depth_of s) (nodes_of s) h

-- the refusal of an expression that is a leaf
pub leaf_fault : (vs : List Variable) (want : Want) (t : Term) (s : Source) (line : ℕ) (g : SourceFault) → Plain t ≡ s
    → NoMemoryOr (λ f. (f.line ≡ line) × (typed_for vs want (Plain t) ≡ Err f.code)) g → NoMemoryOr (λ f. (f.line ≡ line) × (typed_for vs want s ≡ Err f.code)) g
leaf_fault vs want t s line g e (inl m) = inl m
leaf_fault vs want t s line g e (inr h) = inr (h.0, ap (typed_for vs want) (sym e) ∙ h.1)

-- what a place takes has its kind
pub typed_kind : (vs : List Variable) (want : Want) (s : Source) (r : Tree) → typed_for vs want s ≡ Ok r → kind_of (kinds_of vs) r ≡ Some (wanted_kind want)
typed_kind vs want s r h = (typed_for_fine vs want s r h).typed

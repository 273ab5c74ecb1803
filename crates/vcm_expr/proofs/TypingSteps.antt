-- Operands that are typed, one part after the other, and faults that pass on.
use Rattle.std.proofs.Common.{◌≡◌, inl, inr, ℕ, suc, ◌+◌, ◌<◌, ◌≤◌, List, [], ◌∷◌, length, drop, get_or, Err, refl, sym, ap, ◌∙◌, subst, arith, length-append}
use Rattle.std.proofs.lemmas.List.{at_drop_more, at_drop_all}
use Rattle.vcm_lines.specs.Fault.{NoMemoryOr}
use Rattle.vcm_lines.specs.declared.fault.FaultCode.{FaultCode}
use Rattle.vcm_lines.specs.declared.fault.SourceFault.{SourceFault}
use Rattle.vcm_spec.specs.declared.expression.BinaryOp.{BinaryOp}
use Rattle.vcm_spec.specs.declared.expression.Item.{Item}
use Rattle.vcm_spec.specs.Expression.{Tree, spelling}
use Rattle.vcm_spec.specs.Setup.{Variable}
use Rattle.vcm_expr.specs.declared.expression.Prefix.{Prefix}
use Rattle.vcm_expr.specs.declared.expression.Term.{Term}
use Rattle.vcm_expr.specs.declared.expression.Piece.{Piece}
use Rattle.vcm_expr.specs.declared.expression.Piece.TheVariants.{Number, Truth, Variable as Named, Front, Between}
use Rattle.vcm_expr.specs.declared.typing.OpenOperand.{OpenOperand}
use Rattle.vcm_expr.specs.Source.{Source, Plain}
use Rattle.vcm_expr.specs.Typing.{leaf_of, prefixed_by, pair_by, and_then, typed_of}
use Rattle.vcm_expr.specs.Source.{parts}
use Rattle.vcm_expr.specs.inner.Pieces.{with_piece, with_pieces}
use Rattle.vcm_expr.specs.inner.Trees.{Spelled}
use Rattle.vcm_expr.specs.inner.Typings.{AreTyped, AllTyped, Fails}
use Rattle.vcm_expr.proofs.PieceLemmas.{one_is}

all_typed : (vs : List Variable) (es : List Source) (os : List OpenOperand) (before now : List Item) → AreTyped vs es os before now → AllTyped vs es
all_typed vs [] os before now h = tt
all_typed vs (e ∷ es) [] before now h = absurd h
all_typed vs (e ∷ es) (o ∷ os) before now h = ((record { tree = h.1.tree; kind = o.kind }, h.1.is), all_typed vs es os before h.0 h.3)

-- a leaf that is refused
pub leaf_fails : (vs : List Variable) (t : Term) (es : List Source) (os : List OpenOperand) (before now : List Item) (code : FaultCode)
    → leaf_of vs t ≡ Err code → AreTyped vs es os before now → Fails vs code (Plain t ∷ es)
leaf_fails vs t es os before now code e h = inl (e, all_typed vs es os before now h)

-- a sign that doesn't take its operand
front_fails : (vs : List Variable) (op : Prefix) (es : List Source) (a : OpenOperand) (os : List OpenOperand) (before now : List Item) (code : FaultCode)
    → ((t : Tree) → prefixed_by op t a.kind ≡ Err code) → AreTyped vs es (a ∷ os) before now → Fails vs code (with_piece (Front op) es)
front_fails vs op [] a os before now code f h = absurd h
front_fails vs op (e ∷ es) a os before now code f h = inl (ap (λ o. and_then o (prefixed_by op)) h.1.is ∙ f h.1.tree, all_typed vs es os before h.0 h.3)

pub front_told : (vs : List Variable) (op : Prefix) (a : OpenOperand) (os left : List OpenOperand) (now : List Item) (line : ℕ) (g : SourceFault) → os ≡ a ∷ left
    → NoMemoryOr (λ f. (f.line ≡ line) × ((t : Tree) → prefixed_by op t a.kind ≡ Err f.code)) g
    → NoMemoryOr (λ f. (f.line ≡ line) × ((es : List Source) (before : List Item) → AreTyped vs es os before now → Fails vs f.code (with_piece (Front op) es))) g
front_told vs op a os left now line g e (inl m) = inl m
front_told vs op a os left now line g e (inr h) =
    inr (h.0, λ es before t. front_fails vs op es a left before now g.code h.1 (subst (λ x. AreTyped vs es x before now) e t))

-- an operator that doesn't take its operands
between_fails : (vs : List Variable) (op : BinaryOp) (es : List Source) (a b : OpenOperand) (os : List OpenOperand) (before now : List Item) (code : FaultCode)
    → ((t u : Tree) → pair_by op t a.kind u b.kind ≡ Err code) → AreTyped vs es (b ∷ a ∷ os) before now → Fails vs code (with_piece (Between op) es)
between_fails vs op [] a b os before now code f h = absurd h
between_fails vs op (e ∷ []) a b os before now code f h = absurd h.3
between_fails vs op (d ∷ e ∷ es) a b os before now code f h =
    inl (
      ap (λ o. and_then o (λ t k. and_then (typed_of vs d) (pair_by op t k))) h.3.1.is ∙ ap (λ o. and_then o (pair_by op h.3.1.tree a.kind)) h.1.is
          ∙ f h.3.1.tree h.1.tree,
      all_typed vs es os before h.3.0 h.3.3,
    )

pub between_told : (vs : List Variable) (op : BinaryOp) (a b : OpenOperand) (os mid left : List OpenOperand) (now : List Item) (line : ℕ) (g : SourceFault) → os ≡ b ∷ mid → mid ≡ a ∷ left
    → NoMemoryOr (λ f. (f.line ≡ line) × ((t u : Tree) → pair_by op t a.kind u b.kind ≡ Err f.code)) g
    → NoMemoryOr (λ f. (f.line ≡ line) × ((es : List Source) (before : List Item) → AreTyped vs es os before now → Fails vs f.code (with_piece (Between op) es))) g
between_told vs op a b os mid left now line g e d (inl m) = inl m
between_told vs op a b os mid left now line g e d (inr h) =
    inr (h.0, λ es before t. between_fails vs op es a b left before now g.code h.1 (subst (λ x. AreTyped vs es x before now) (e ∙ ap (λ x. b ∷ x) d) t))

-- the topmost operand begins within the items
starts_within : (vs : List Variable) (es : List Source) (b : OpenOperand) (os : List OpenOperand) (before now : List Item) → AreTyped vs es (b ∷ os) before now → b.start ≤ length now
starts_within vs [] b os before now h = absurd h
starts_within vs (e ∷ es) b os before now h =
    let whole = ap length h.1.items in
    omega (arith, h.2, whole, length-append h.0 (spelling h.1.tree))

pub start_within : (vs : List Variable) (es : List Source) (b : OpenOperand) (os left : List OpenOperand) (before now : List Item) → os ≡ b ∷ left → AreTyped vs es os before now → b.start ≤ length now
start_within vs es b os left before now e h = starts_within vs es b left before now (subst (λ x. AreTyped vs es x before now) e h)

-- as many operands wait as expressions
operands_waiting : (vs : List Variable) (es : List Source) (os : List OpenOperand) (before now : List Item) → AreTyped vs es os before now → length es ≡ length os
operands_waiting vs [] [] before now h = refl
operands_waiting vs [] (o ∷ os) before now h = absurd h
operands_waiting vs (e ∷ es) [] before now h = absurd h
operands_waiting vs (e ∷ es) (o ∷ os) before now h = ap suc (operands_waiting vs es os before h.0 h.3)

-- there is room for a leaf
pub leaf_room : (vs : List Variable) (t : Term) (es : List Source) (os : List OpenOperand) (before now : List Item) → AreTyped vs es os before now → length (Plain t ∷ es) ≤ 32 → length os < 32
leaf_room vs t es os before now h le = omega (arith, operands_waiting vs es os before now h, le)

-- a fault passes on
fails_piece : (vs : List Variable) (code : FaultCode) (p : Piece) (es : List Source) → Fails vs code es → Fails vs code (with_piece p es)
fails_piece vs code (Number n) es h = inr h
fails_piece vs code (Truth b) es h = inr h
fails_piece vs code (Named name e) es h = inr h
fails_piece vs code (Front op) [] h = absurd h
fails_piece vs code (Front op) (e ∷ es) (inl h) = inl (ap (λ o. and_then o (prefixed_by op)) h.0, h.1)
fails_piece vs code (Front op) (e ∷ es) (inr h) = inr h
fails_piece vs code (Between op) [] h = absurd h
fails_piece vs code (Between op) (d ∷ []) h = h
fails_piece vs code (Between op) (d ∷ e ∷ es) (inl h) =
    let p = h.1.0 in
    inl (ap (λ o. and_then o (λ t k. and_then (typed_of vs d) (pair_by op t k))) p.1 ∙ ap (λ o. and_then o (pair_by op p.0.tree p.0.kind)) h.0, h.1.1)
fails_piece vs code (Between op) (d ∷ e ∷ es) (inr (inl h)) = inl (ap (λ o. and_then o (λ t k. and_then (typed_of vs d) (pair_by op t k))) h.0, h.1)
fails_piece vs code (Between op) (d ∷ e ∷ es) (inr (inr h)) = inr h

fails_pieces : (vs : List Variable) (code : FaultCode) (ps : List Piece) (es : List Source) → Fails vs code es → Fails vs code (with_pieces ps es)
fails_pieces vs code [] es h = h
fails_pieces vs code (p ∷ ps) es h = fails_pieces vs code ps (with_piece p es) (fails_piece vs code p es h)

only_fails : (vs : List Variable) (code : FaultCode) (e : Source) → Fails vs code (e ∷ []) → typed_of vs e ≡ Err code
only_fails vs code e (inl h) = h.0
only_fails vs code e (inr h) = absurd h

-- what the parts to come make of the stack is cut at the next one
pub piece_next : (ps : List Piece) (i : ℕ) (d : Piece) (es : List Source) → i < length ps → with_pieces ps [] ≡ with_pieces (drop i ps) es
    → with_pieces ps [] ≡ with_pieces (drop (i + 1) ps) (with_piece (get_or ps i d) es)
piece_next ps i d es h e = e ∙ at_drop_more (λ qs. with_pieces qs es) ps i d h

-- the exit where one part is refused
pub typed_told : (vs : List Variable) (ps : List Piece) (i : ℕ) (p : Piece) (es : List Source) (os : List OpenOperand) (before now : List Item) (line : ℕ)
    (g : SourceFault) → i < length ps → p ≡ get_or ps i p
    → with_pieces ps [] ≡ with_pieces (drop i ps) es → AreTyped vs es os before now
    → NoMemoryOr (λ f. (f.line ≡ line) × ((es : List Source) (before : List Item) → AreTyped vs es os before now → Fails vs f.code (with_piece p es))) g
    → NoMemoryOr (λ f. (f.line ≡ line) × ((e : Source) → ps ≡ parts e → typed_of vs e ≡ Err f.code)) g
typed_told vs ps i p es os before now line g h here e t (inl m) = inl m
typed_told vs ps i p es os before now line g h here e t (inr q) =
    inr (
      q.0,
      λ x is.
          let on = piece_next ps i p es h e ∙ ap (λ r. with_pieces (drop (i + 1) ps) (with_piece r es)) (sym here) in
          let there = sym on ∙ one_is x ps is in
          only_fails vs g.code x (subst (λ s. Fails vs g.code s) there (fails_pieces vs g.code (drop (i + 1) ps) (with_piece p es) (q.1 es before t))),
    )

-- behind all parts the only operand is the expression
last_is : (vs : List Variable) (e : Source) (o : OpenOperand) (os : List OpenOperand) (before now : List Item) → AreTyped vs (e ∷ []) (o ∷ os) before now → Spelled (typed_of vs e) before now o.kind
last_is vs e o [] before now h = subst (λ m. Spelled (typed_of vs e) m now o.kind) h.3 h.1
last_is vs e o (p ∷ os) before now h = absurd h.3

pub typed_last : (vs : List Variable) (ps : List Piece) (i : ℕ) (es : List Source) (o : OpenOperand) (os left : List OpenOperand) (before now : List Item) → length ps ≤ i
    → with_pieces ps [] ≡ with_pieces (drop i ps) es → AreTyped vs es os before now → os ≡ o ∷ left → (e : Source) → ps ≡ parts e → Spelled (typed_of vs e) before now o.kind
typed_last vs ps i es o os left before now h run t top e is =
    let there : es ≡ e ∷ [] = sym (run ∙ at_drop_all (λ qs. with_pieces qs es) ps i h) ∙ one_is e ps is in
    last_is vs e o left before now (subst (λ x. AreTyped vs (e ∷ []) x before now) top (subst (λ s. AreTyped vs s os before now) there t))

pub typed_some : (vs : List Variable) (ps : List Piece) (i : ℕ) (es : List Source) (os : List OpenOperand) (before now : List Item) → length ps ≤ i
    → with_pieces ps [] ≡ with_pieces (drop i ps) es → AreTyped vs es os before now → os ≡ [] → (e : Source) → ps ≡ parts e → ⊥
typed_some vs ps i es os before now h run t none e is =
    let there : es ≡ e ∷ [] = sym (run ∙ at_drop_all (λ qs. with_pieces qs es) ps i h) ∙ one_is e ps is in
    subst (λ x. AreTyped vs (e ∷ []) x before now) none (subst (λ s. AreTyped vs s os before now) there t)

-- How many expressions wait while the parts of one are gone through: never more than it is deep.
use Rattle.std.proofs.Common.{◌≡◌, ℕ, ◌+◌, ◌<◌, ◌≤◌, max, true, List, [], ◌∷◌, length, drop, get_or, sym, ap, ◌∙◌, arith}
use Rattle.std.specs.Prelude.{nat_le, ◌&&◌}
use Rattle.std.proofs.lemmas.Bool.{and_parts}
use Rattle.std.proofs.lemmas.List.{at_drop_more}
use Rattle.vcm_expr.specs.declared.expression.Piece.{Piece}
use Rattle.vcm_expr.specs.declared.expression.Piece.TheVariants.{Number, Truth, Variable, Front, Between}
use Rattle.vcm_expr.specs.Source.{Source, Plain, Prefixed, Pair, parts, depth_of, nodes_of, is_small}
use Rattle.vcm_expr.specs.inner.Pieces.{with_piece, with_pieces}
use Rattle.vcm_expr.proofs.PieceLemmas.{one_is}

-- how deep an expression is at least that is made of these, the topmost first
abbrev reach : List Source → ℕ
reach [] = 0
reach (e ∷ es) = max (length es + depth_of e) (reach es)

some_depth : (e : Source) → 0 < depth_of e
some_depth (Plain t) = omega arith
some_depth (Prefixed op a) = omega arith
some_depth (Pair op a b) = omega arith

reach_height : (es : List Source) → length es ≤ reach es
reach_height [] = omega arith
reach_height (e ∷ es) = omega (arith, some_depth e)

reach_piece : (p : Piece) (es : List Source) → reach es ≤ reach (with_piece p es)
reach_piece (Number n) es = omega arith
reach_piece (Truth b) es = omega arith
reach_piece (Variable name e) es = omega arith
reach_piece (Front op) [] = omega arith
reach_piece (Front op) (e ∷ es) = omega arith
reach_piece (Between op) [] = omega arith
reach_piece (Between op) (f ∷ []) = omega arith
reach_piece (Between op) (f ∷ e ∷ es) = omega arith

reach_pieces : (ps : List Piece) (es : List Source) → reach es ≤ reach (with_pieces ps es)
reach_pieces [] es = omega arith
reach_pieces (p ∷ ps) es = omega (arith, reach_piece p es, reach_pieces ps (with_piece p es))

-- so there is room on a stack of 32 for what one more part leaves there
pub room_for : (e : Source) (ps : List Piece) (i : ℕ) (p : Piece) (es : List Source) → i < length ps → p ≡ get_or ps i p
    → with_pieces ps [] ≡ with_pieces (drop i ps) es → ps ≡ parts e → is_small e ≡ true → length (with_piece p es) ≤ 32
room_for e ps i p es lt here run is small =
    let whole = run ∙ at_drop_more (λ qs. with_pieces qs es) ps i p lt ∙ ap (λ r. with_pieces (drop (i + 1) ps) (with_piece r es)) (sym here) in
    let last : reach (with_pieces (drop (i + 1) ps) (with_piece p es)) ≡ 0 + depth_of e = ap reach (sym whole ∙ one_is e ps is) ∙ omega arith in
    let shallow : depth_of e ≤ 32 = within (depth_of e) (nodes_of e) small in
    omega (arith, last, shallow, reach_pieces (drop (i + 1) ps) (with_piece p es), reach_height (with_piece p es))
  where
    within : (d n : ℕ) → (nat_le d 32 && nat_le n 512) ≡ true → d ≤ 32
    within d n h = let q = and_parts (nat_le d 32) (nat_le n 512) h in grind arith

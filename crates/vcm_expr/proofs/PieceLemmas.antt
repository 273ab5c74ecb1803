-- Parts in postfix order give the expressions back.
use Rattle.std.proofs.Common.{◌≡◌, Some, ℕ, ◌+◌, ◌≤◌, max, true, List, [], ◌∷◌, ◌++◌, refl, sym, ap, ◌∙◌, subst, append_assoc, arith}
use Rattle.std.specs.Prelude.{nat_le, ◌&&◌}
use Rattle.std.proofs.lemmas.List.{append-nil}
use Rattle.vcm_expr.specs.declared.expression.Term.{Term}
use Rattle.vcm_expr.specs.declared.expression.Prefix.{Prefix}
use Rattle.vcm_spec.specs.declared.expression.BinaryOp.{BinaryOp}
use Rattle.vcm_expr.specs.declared.expression.Size.{Size}
use Rattle.vcm_expr.specs.declared.expression.Piece.{Piece}
use Rattle.vcm_expr.specs.declared.expression.Term.TheVariants.{Number, Truth, Variable}
use Rattle.vcm_expr.specs.declared.expression.Piece.TheVariants.{Front, Between}
use Rattle.vcm_expr.specs.Source.{Source, Plain, Prefixed, Pair, depth_of, nodes_of, leaf_in, IsSize}
use Rattle.vcm_expr.specs.Source.{parts, leaf_piece}
use Rattle.vcm_expr.specs.inner.Pieces.{all_parts, with_piece, with_pieces, top_of}

-- a leaf is put on the stack by its part
with_leaf : (t : Term) (es : List Source) → with_piece (leaf_piece t) es ≡ Plain t ∷ es
with_leaf (Number n) es = refl
with_leaf (Truth b) es = refl
with_leaf (Variable name e) es = refl

-- the parts of an expression put it on the stack
with_parts : (e : Source) (rest : List Piece) (es : List Source) → with_pieces (parts e ++ rest) es ≡ with_pieces rest (e ∷ es)
with_parts (Plain t) rest es = ap (λ s. with_pieces rest s) (with_leaf t es)
with_parts (Prefixed op a) rest es =
    ap (λ ps. with_pieces ps es) (append_assoc (parts a) (Front op ∷ []) rest) ∙ with_parts a (Front op ∷ rest) es
with_parts (Pair op a b) rest es =
    ap (λ ps. with_pieces ps es) (append_assoc (parts a) (parts b ++ Between op ∷ []) rest ∙ ap (λ ps. parts a ++ ps) (append_assoc (parts b) (Between op ∷ []) rest))
    ∙ with_parts a (parts b ++ Between op ∷ rest) es
    ∙ with_parts b (Between op ∷ rest) (a ∷ es)

-- and those of a stack give the stack
with_all_parts : (es : List Source) (rest : List Piece) → with_pieces (all_parts es ++ rest) [] ≡ with_pieces rest es
with_all_parts [] rest = refl
with_all_parts (e ∷ es) rest =
    ap (λ ps. with_pieces ps []) (append_assoc (all_parts es) (parts e) rest) ∙ with_all_parts es (parts e ++ rest) ∙ with_parts e rest es

pub stack_is : (es : List Source) (ps : List Piece) → ps ≡ all_parts es → with_pieces ps [] ≡ es
stack_is es ps e = ap (λ qs. with_pieces qs []) (e ∙ sym (append-nil (all_parts es))) ∙ with_all_parts es []

pub one_is : (e : Source) (ps : List Piece) → ps ≡ parts e → with_pieces ps [] ≡ e ∷ []
one_is e ps h = stack_is (e ∷ []) ps h

pub first_is : (e : Source) (ps : List Piece) → ps ≡ parts e → top_of (with_pieces ps []) ≡ e
first_is e ps h = ap top_of (one_is e ps h)

pub plain_is : (t : Term) (e : Source) → Some t ≡ leaf_in e → Plain t ≡ e
plain_is t (Plain u) h = let same : t ≡ u = cc in ap (λ x. Plain x) same
plain_is t (Prefixed op a) h = absurd cc
plain_is t (Pair op a b) h = absurd cc

pub parts_again : (e : Source) (ps : List Piece) → ps ≡ parts e → ps ≡ parts (top_of (with_pieces ps []))
parts_again e ps h = h ∙ ap parts (sym (first_is e ps h))

pub sized_again : (e : Source) (ps : List Piece) (s : Size) → ps ≡ parts e → IsSize s e → IsSize s (top_of (with_pieces ps []))
sized_again e ps s h z = subst (λ f. IsSize s f) (sym (first_is e ps h)) z

-- what a stack is after one more part
pub leaf_more : (t : Term) (es : List Source) (old new : List Piece) → old ≡ all_parts es → new ≡ old ++ leaf_piece t ∷ [] → new ≡ all_parts (Plain t ∷ es)
leaf_more t es old new h e = e ∙ ap (λ ps. ps ++ leaf_piece t ∷ []) h

pub front_more : (op : Prefix) (e : Source) (es : List Source) (old new : List Piece) → old ≡ all_parts (e ∷ es) → new ≡ old ++ Front op ∷ [] → new ≡ all_parts (Prefixed op e ∷ es)
front_more op e es old new h is = is ∙ ap (λ ps. ps ++ Front op ∷ []) h ∙ append_assoc (all_parts es) (parts e) (Front op ∷ [])

pub between_more : (op : BinaryOp) (e f : Source) (es : List Source) (old new : List Piece) → old ≡ all_parts (f ∷ e ∷ es) → new ≡ old ++ Between op ∷ [] → new ≡ all_parts (Pair op e f ∷ es)
between_more op e f es old new h is =
    is ∙ ap (λ ps. ps ++ Between op ∷ []) h ∙ append_assoc (all_parts es ++ parts e) (parts f) (Between op ∷ [])
    ∙ append_assoc (all_parts es) (parts e) (parts f ++ Between op ∷ [])

pub other_more : (e : Source) (es : List Source) (old new ps : List Piece) → old ≡ all_parts es → ps ≡ parts e → new ≡ old ++ ps → new ≡ all_parts (e ∷ es)
other_more e es old new ps h g is = is ∙ ap (λ qs. qs ++ ps) h ∙ ap (λ qs. all_parts es ++ qs) g

pub all_again : (es : List Source) (ps : List Piece) → ps ≡ all_parts es → ps ≡ all_parts (with_pieces ps [])
all_again es ps h = h ∙ ap all_parts (sym (stack_is es ps h))

-- the same of a stack as it is seen
pub leaf_view : (t : Term) (now : List Source) (old new : List Piece) → with_pieces old [] ≡ now → old ≡ all_parts (with_pieces old [])
    → new ≡ old ++ leaf_piece t ∷ [] → with_pieces new [] ≡ Plain t ∷ now
leaf_view t now old new v h e = stack_is (Plain t ∷ now) new (leaf_more t now old new (h ∙ ap all_parts v) e)

pub leaf_holds : (t : Term) (old new : List Piece) → old ≡ all_parts (with_pieces old []) → new ≡ old ++ leaf_piece t ∷ [] → new ≡ all_parts (with_pieces new [])
leaf_holds t old new h e = all_again (Plain t ∷ with_pieces old []) new (leaf_more t (with_pieces old []) old new h e)

pub front_view : (op : Prefix) (e : Source) (es : List Source) (old new : List Piece) → with_pieces old [] ≡ e ∷ es → old ≡ all_parts (with_pieces old [])
    → new ≡ old ++ Front op ∷ [] → with_pieces new [] ≡ Prefixed op e ∷ es
front_view op e es old new v h is = stack_is (Prefixed op e ∷ es) new (front_more op e es old new (h ∙ ap all_parts v) is)

pub front_holds : (op : Prefix) (e : Source) (es : List Source) (old new : List Piece) → with_pieces old [] ≡ e ∷ es → old ≡ all_parts (with_pieces old [])
    → new ≡ old ++ Front op ∷ [] → new ≡ all_parts (with_pieces new [])
front_holds op e es old new v h is = all_again (Prefixed op e ∷ es) new (front_more op e es old new (h ∙ ap all_parts v) is)

pub between_view : (op : BinaryOp) (e f : Source) (es : List Source) (old new : List Piece) → with_pieces old [] ≡ f ∷ e ∷ es
    → old ≡ all_parts (with_pieces old []) → new ≡ old ++ Between op ∷ [] → with_pieces new [] ≡ Pair op e f ∷ es
between_view op e f es old new v h is = stack_is (Pair op e f ∷ es) new (between_more op e f es old new (h ∙ ap all_parts v) is)

pub between_holds : (op : BinaryOp) (e f : Source) (es : List Source) (old new : List Piece) → with_pieces old [] ≡ f ∷ e ∷ es
    → old ≡ all_parts (with_pieces old []) → new ≡ old ++ Between op ∷ [] → new ≡ all_parts (with_pieces new [])
between_holds op e f es old new v h is = all_again (Pair op e f ∷ es) new (between_more op e f es old new (h ∙ ap all_parts v) is)

pub other_view : (e : Source) (now : List Source) (old new ps : List Piece) → with_pieces old [] ≡ now → old ≡ all_parts (with_pieces old []) → ps ≡ parts e
    → new ≡ old ++ ps → with_pieces new [] ≡ e ∷ now
other_view e now old new ps v h g is = stack_is (e ∷ now) new (other_more e now old new ps (h ∙ ap all_parts v) g is)

pub other_holds : (e : Source) (old new ps : List Piece) → old ≡ all_parts (with_pieces old []) → ps ≡ parts e → new ≡ old ++ ps → new ≡ all_parts (with_pieces new [])
other_holds e old new ps h g is = all_again (e ∷ with_pieces old []) new (other_more e (with_pieces old []) old new ps h g is)

-- sizes
small_is : (d n : ℕ) → d ≤ 32 → n ≤ 512 → (nat_le d 32 && nat_le n 512) ≡ true
small_is d n h g = grind arith

sized : (s : Size) (e : Source) → s.depth ≡ depth_of e → s.nodes ≡ nodes_of e → s.depth ≤ 32 → s.nodes ≤ 512 → IsSize s e
sized s e d n h g =
    record {
      depth = d;
      nodes = n;
      small = small_is (depth_of e) (nodes_of e) (subst (λ x. x ≤ 32) d h) (subst (λ x. x ≤ 512) n g);
    }

pub front_sized : (s a : Size) (op : Prefix) (e : Source) → s.depth ≡ a.depth + 1 → s.nodes ≡ a.nodes + 1 → s.depth ≤ 32 → s.nodes ≤ 512 → IsSize a e → IsSize s (Prefixed op e)
front_sized s a op e d n h g z = sized s (Prefixed op e) (d ∙ ap (λ x. x + 1) z.depth) (n ∙ ap (λ x. x + 1) z.nodes) h g

pub between_sized : (s a b : Size) (op : BinaryOp) (e f : Source) → s.depth ≡ max a.depth b.depth + 1 → s.nodes ≡ a.nodes + b.nodes + 1 → s.depth ≤ 32
    → s.nodes ≤ 512 → IsSize a e → IsSize b f → IsSize s (Pair op e f)
between_sized s a b op e f d n h g y z =
    sized s (Pair op e f) (d ∙ ap (λ x. max x b.depth + 1) y.depth ∙ ap (λ x. max (depth_of e) x + 1) z.depth) (n ∙ ap (λ x. x + b.nodes + 1) y.nodes ∙ ap (λ x. nodes_of e + x + 1) z.nodes) h g

-- Steps of an expression that is put together again.
use Rattle.std.proofs.Common.{◌≡◌, inl, inr, ℕ, suc, ◌+◌, ◌<◌, ◌≤◌, max, false, List, [], ◌∷◌, length, drop, get_or, Some, refl, sym, ap, ◌∙◌, subst, arith}
use Rattle.std.specs.Prelude.{nat_le, ◌&&◌}
use Rattle.std.proofs.lemmas.List.{at_drop_more, at_drop_all}
use Rattle.vcm_lines.specs.Fault.{NoMemoryOr}
use Rattle.vcm_lines.specs.declared.fault.FaultCode.TheVariants.{TooDeep}
use Rattle.vcm_lines.specs.declared.fault.SourceFault.{SourceFault}
use Rattle.vcm_spec.specs.declared.expression.BinaryOp.{BinaryOp}
use Rattle.vcm_expr.specs.declared.expression.Term.{Term}
use Rattle.vcm_expr.specs.declared.expression.Prefix.{Prefix}
use Rattle.vcm_expr.specs.declared.expression.Piece.{Piece}
use Rattle.vcm_expr.specs.declared.expression.Piece.TheVariants.{Number, Truth, Variable, Front, Between}
use Rattle.vcm_expr.specs.declared.expression.Size.{Size}
use Rattle.vcm_expr.specs.Source.{Source, Plain, Prefixed, Pair, parts, depth_of, nodes_of, leaf_in, is_small, IsSize}
use Rattle.vcm_expr.specs.inner.Pieces.{with_piece, with_pieces}
use Rattle.vcm_expr.proofs.PieceLemmas.{one_is, plain_is}
use Rattle.vcm_substitution.specs.Substitution.{Scope, put, put_term}
use Rattle.vcm_substitution.specs.Sizes.{IsTooDeep}
use Rattle.vcm_substitution.specs.inner.Putting.{Puts, Big}

-- a leaf that stands alone
pub put_alone : (sc : Scope) (t : Term) (e : Source) → Some t ≡ leaf_in e → put_term sc t ≡ put sc e
put_alone sc t e h = ap (λ x. put sc x) (plain_is t e h)

-- the topmost expressions are there
pub top_there : (sc : Scope) (es now : List Source) (a : Size) (sizes left : List Size) → sizes ≡ a ∷ left → Puts sc es now sizes → (e : Source) × (rest : List Source) × (now ≡ e ∷ rest) × IsSize a e
top_there sc es now a sizes left is h = there es now (subst (λ ss. Puts sc es now ss) is h)
  where
    there : (es now : List Source) → Puts sc es now (a ∷ left) → (e : Source) × (rest : List Source) × (now ≡ e ∷ rest) × IsSize a e
    there [] [] h = absurd h
    there [] (n ∷ ns) h = absurd h
    there (e ∷ es) [] h = absurd h
    there (e ∷ es) (n ∷ ns) h = (n, ns, refl, subst (λ x. IsSize a x) (sym h.0) h.1)

pub two_there : (sc : Scope) (es now : List Source) (a b : Size) (sizes mid left : List Size) → sizes ≡ b ∷ mid → mid ≡ a ∷ left → Puts sc es now sizes
    → (e : Source) × (f : Source) × (rest : List Source) × (now ≡ f ∷ e ∷ rest) × IsSize a e × IsSize b f
two_there sc es now a b sizes mid left is more h = there es now (subst (λ ss. Puts sc es now ss) (is ∙ ap (λ ss. b ∷ ss) more) h)
  where
    there : (es now : List Source) → Puts sc es now (b ∷ a ∷ left) → (e : Source) × (f : Source) × (rest : List Source) × (now ≡ f ∷ e ∷ rest) × IsSize a e × IsSize b f
    there [] [] h = absurd h
    there [] (n ∷ ns) h = absurd h
    there (f ∷ es) [] h = absurd h
    there (f ∷ []) (n ∷ []) h = absurd h.2
    there (f ∷ []) (n ∷ m ∷ ns) h = absurd h.2
    there (f ∷ e ∷ es) (n ∷ []) h = absurd h.2
    there (f ∷ e ∷ es) (n ∷ m ∷ ns) h = (m, n, ns, refl, subst (λ x. IsSize a x) (sym h.2.0) h.2.1, subst (λ x. IsSize b x) (sym h.0) h.1)

-- as many sizes wait as expressions
sizes_waiting : (sc : Scope) (es now : List Source) (sizes : List Size) → Puts sc es now sizes → length es ≡ length sizes
sizes_waiting sc [] [] [] h = refl
sizes_waiting sc [] [] (s ∷ ss) h = absurd h
sizes_waiting sc [] (n ∷ ns) ss h = absurd h
sizes_waiting sc (e ∷ es) [] ss h = absurd h
sizes_waiting sc (e ∷ es) (n ∷ ns) [] h = absurd h
sizes_waiting sc (e ∷ es) (n ∷ ns) (s ∷ ss) h = ap suc (sizes_waiting sc es ns ss h.2)

-- there is room for a leaf's
pub leaf_room : (sc : Scope) (t : Term) (es now : List Source) (sizes : List Size) → Puts sc es now sizes → length (Plain t ∷ es) ≤ 32 → length sizes < 32
leaf_room sc t es now sizes h le = omega (arith, sizes_waiting sc es now sizes h, le)

-- an operator between the topmost two
pub between_puts : (sc : Scope) (op : BinaryOp) (es now new : List Source) (a b s : Size) (sizes mid left more : List Size) → sizes ≡ b ∷ mid → mid ≡ a ∷ left
    → ((e f : Source) (rest : List Source) → now ≡ f ∷ e ∷ rest → IsSize a e → IsSize b f → (new ≡ Pair op e f ∷ rest) × IsSize s (Pair op e f)) → more ≡ s ∷ left
    → Puts sc es now sizes → Puts sc (with_piece (Between op) es) new more
between_puts sc op es now new a b s sizes mid left more is next made m h = there es now made (subst (λ ss. Puts sc es now ss) (is ∙ ap (λ ss. b ∷ ss) next) h)
  where
    there : (es now : List Source) → ((e f : Source) (rest : List Source) → now ≡ f ∷ e ∷ rest → IsSize a e → IsSize b f → (new ≡ Pair op e f ∷ rest)
        × IsSize s (Pair op e f)) → Puts sc es now (b ∷ a ∷ left) → Puts sc (with_piece (Between op) es) new more
    there [] [] made h = absurd h
    there [] (n ∷ ns) made h = absurd h
    there (f ∷ es) [] made h = absurd h
    there (f ∷ []) (n ∷ []) made h = absurd h.2
    there (f ∷ []) (n ∷ m ∷ ns) made h = absurd h.2
    there (f ∷ e ∷ es) (n ∷ []) made h = absurd h.2
    there (f ∷ e ∷ es) (n ∷ k ∷ ns) made h =
        let y = subst (λ x. IsSize a x) (sym h.2.0) h.2.1 in
        let z = subst (λ x. IsSize b x) (sym h.0) h.1 in
        let j = made k n ns refl y z in
        let same : Pair op k n ≡ Pair op (put sc e) (put sc f) = ap (λ x. Pair op x n) h.2.0 ∙ ap (λ x. Pair op (put sc e) x) h.0 in
        subst (λ q. Puts sc (Pair op e f ∷ es) q more) (sym j.0) (subst (λ ss. Puts sc (Pair op e f ∷ es) (Pair op k n ∷ ns) ss) (sym m) (same, subst (λ x. IsSize s x) same j.1, h.2.2))

-- what is too large stays so
big_more : (d n e m : ℕ) → d ≤ e → n ≤ m → (nat_le d 32 && nat_le n 512) ≡ false → (nat_le e 32 && nat_le m 512) ≡ false
big_more d n e m h g is = grind arith

big_front : (op : Prefix) (a : Source) → is_small a ≡ false → is_small (Prefixed op a) ≡ false
big_front op a h = big_more (depth_of a) (nodes_of a) (depth_of a + 1) (nodes_of a + 1) (omega arith) (omega arith) h

big_left : (op : BinaryOp) (a b : Source) → is_small a ≡ false → is_small (Pair op a b) ≡ false
big_left op a b h = big_more (depth_of a) (nodes_of a) (max (depth_of a) (depth_of b) + 1) (nodes_of a + nodes_of b + 1) (omega arith) (omega arith) h

big_right : (op : BinaryOp) (a b : Source) → is_small b ≡ false → is_small (Pair op a b) ≡ false
big_right op a b h = big_more (depth_of b) (nodes_of b) (max (depth_of a) (depth_of b) + 1) (nodes_of a + nodes_of b + 1) (omega arith) (omega arith) h

big_piece : (sc : Scope) (p : Piece) (es : List Source) → Big sc es → Big sc (with_piece p es)
big_piece sc (Number n) es h = inr h
big_piece sc (Truth b) es h = inr h
big_piece sc (Variable name e) es h = inr h
big_piece sc (Front op) [] h = absurd h
big_piece sc (Front op) (e ∷ es) (inl h) = inl (big_front op (put sc e) h)
big_piece sc (Front op) (e ∷ es) (inr h) = inr h
big_piece sc (Between op) [] h = absurd h
big_piece sc (Between op) (f ∷ []) h = h
big_piece sc (Between op) (f ∷ e ∷ es) (inl h) = inl (big_right op (put sc e) (put sc f) h)
big_piece sc (Between op) (f ∷ e ∷ es) (inr (inl h)) = inl (big_left op (put sc e) (put sc f) h)
big_piece sc (Between op) (f ∷ e ∷ es) (inr (inr h)) = inr h

big_pieces : (sc : Scope) (ps : List Piece) (es : List Source) → Big sc es → Big sc (with_pieces ps es)
big_pieces sc [] es h = h
big_pieces sc (p ∷ ps) es h = big_pieces sc ps (with_piece p es) (big_piece sc p es h)

only_big : (sc : Scope) (e : Source) → Big sc (e ∷ []) → is_small (put sc e) ≡ false
only_big sc e (inl h) = h
only_big sc e (inr h) = absurd h

-- the exit where one part makes an expression too large
pub put_told : (sc : Scope) (ps : List Piece) (i : ℕ) (p : Piece) (es now : List Source) (sizes : List Size) (e : Source) (line : ℕ) (g : SourceFault)
    → i < length ps → p ≡ get_or ps i p → ps ≡ parts e
    → with_pieces ps [] ≡ with_pieces (drop i ps) es → Puts sc es now sizes
    → NoMemoryOr (λ f. (f ≡ record { code = TooDeep; line = line }) × ((es : List Source) → Puts sc es now sizes → Big sc (with_piece p es))) g
    → NoMemoryOr (IsTooDeep line (is_small (put sc e))) g
put_told sc ps i p es now sizes e line g h here is run t (inl m) = inl m
put_told sc ps i p es now sizes e line g h here is run t (inr q) =
    let on = run ∙ at_drop_more (λ qs. with_pieces qs es) ps i p h ∙ ap (λ r. with_pieces (drop (i + 1) ps) (with_piece r es)) (sym here) in
    let there = sym on ∙ one_is e ps is in
    inr (q.0, only_big sc e (subst (λ s. Big sc s) there (big_pieces sc (drop (i + 1) ps) (with_piece p es) (q.1 es t))))

at_end : (ps : List Piece) (i : ℕ) (es : List Source) (e : Source) → length ps ≤ i → with_pieces ps [] ≡ with_pieces (drop i ps) es → ps ≡ parts e → es ≡ e ∷ []
at_end ps i es e h run is = sym (run ∙ at_drop_all (λ qs. with_pieces qs es) ps i h) ∙ one_is e ps is

pub put_ends : (sc : Scope) (ps : List Piece) (i : ℕ) (es now : List Source) (s : Size) (sizes left : List Size) (e : Source) → length ps ≤ i
    → with_pieces ps [] ≡ with_pieces (drop i ps) es → Puts sc es now sizes → sizes ≡ s ∷ left → ps ≡ parts e → (now ≡ put sc e ∷ []) × IsSize s (put sc e)
put_ends sc ps i es now s sizes left e h run t top is =
    ends now left (subst (λ ss. Puts sc (e ∷ []) now ss) top (subst (λ x. Puts sc x now sizes) (at_end ps i es e h run is) t))
  where
    ends : (now : List Source) (left : List Size) → Puts sc (e ∷ []) now (s ∷ left) → (now ≡ put sc e ∷ []) × IsSize s (put sc e)
    ends [] left h = absurd h
    ends (n ∷ []) [] h = (ap (λ x. x ∷ []) h.0, h.1)
    ends (n ∷ []) (s ∷ ss) h = absurd h.2
    ends (n ∷ m ∷ ns) left h = absurd h.2

pub put_some : (sc : Scope) (ps : List Piece) (i : ℕ) (es now : List Source) (sizes : List Size) (e : Source) → length ps ≤ i
    → with_pieces ps [] ≡ with_pieces (drop i ps) es → Puts sc es now sizes → sizes ≡ [] → ps ≡ parts e → ⊥
put_some sc ps i es now sizes e h run t none is =
    no now (subst (λ ss. Puts sc (e ∷ []) now ss) none (subst (λ x. Puts sc x now sizes) (at_end ps i es e h run is) t))
  where
    no : (now : List Source) → Puts sc (e ∷ []) now [] → ⊥
    no [] h = h
    no (n ∷ ns) h = h

-- What validity says of one statement and its expressions.
use Rattle.std.proofs.Common.{◌≡◌, ℕ, zero, suc, List, [], ◌∷◌, ◌++◌, length, Some, slice_get, refl, ap, subst}
use Rattle.std.specs.Prelude.{map}
use Rattle.vcm_num.specs.declared.number.Kind.{Kind}
use Rattle.vcm_spec.specs.declared.expression.Item.{Item}
use Rattle.vcm_spec.specs.Expression.{HasKind}
use Rattle.vcm_spec.specs.Setup.{Variable, Tables}
use Rattle.vcm_spec.specs.Fitting.{kinds}
use Rattle.vcm_code.specs.declared.code.Code.{Code}
use Rattle.vcm_code.specs.Valid.{IsValid}
use Rattle.vcm_code.specs.Code.{Op, CodeStatement}
use Rattle.vcm_code.specs.Shape.{Place, Said, Filled, places, Parted, parted, taken_apart, over_places, over_parted}
use Rattle.vcm_code.specs.Shape as at
use Rattle.vcm_code.specs.Checks.{Counts, counts_of, AllHold, place_checks, OpFits}
use Rattle.vcm_loader.specs.Expressions.{place_expressions, expressions}
use Rattle.vcm_code.proofs.Checked.{hold_front, hold_back, fits_at}

-- each of these has a kind
abbrev pub Typed : List Kind → List (List Item) → Type 0
Typed ks [] = Unit {0}
Typed ks (e ∷ es) = ((k : Kind) × HasKind ks e k) × Typed ks es

typed_append : (ks : List Kind) (ds es : List (List Item)) → Typed ks ds → Typed ks es → Typed ks (ds ++ es)
typed_append ks [] es h g = g
typed_append ks (d ∷ ds) es h g = (h.0, typed_append ks ds es h.1 g)

-- each expression has a kind where its place has what it wants
place_typed : (t : Counts) (p : Place) (x : Said p) → AllHold (place_checks t p x) → Typed t.kinds (place_expressions p x)
place_typed t (at.items k) e h = ((k, h.1.0), tt)
place_typed t (at.three k) e h = ((k, h.1.0), ((k, h.1.1.1.0), ((k, h.1.1.1.1.1.0), tt)))
place_typed t at.assigned o h = ((h.1.1.0.0, h.1.1.0.2), tt)
place_typed t _ x h = tt

filled_typed : (t : Counts) (ps : List Place) (f : Filled ps) → AllHold (over_places (place_checks t) ps f) → Typed t.kinds (over_places place_expressions ps f)
filled_typed t [] f h = tt
filled_typed t (p ∷ []) f h = place_typed t p f h
filled_typed t (p ∷ q ∷ ps) f h =
    let here = place_checks t p f.0 in
    let behind = over_places (place_checks t) (q ∷ ps) f.1 in
    typed_append t.kinds (place_expressions p f.0) (over_places place_expressions (q ∷ ps) f.1) (place_typed t p f.0 (hold_front here behind h)) (filled_typed t (q ∷ ps) f.1 (hold_back here behind h))

parted_typed : (t : Counts) (p : Parted) → AllHold (over_parted (place_checks t) p) → Typed t.kinds (over_parted place_expressions p)
parted_typed t (parted w f) h = filled_typed t (places w) f h

-- and so each expression of a statement that fits
expressions_typed : (tables : Tables) (count : ℕ) (o : Op) → OpFits tables count o → Typed (kinds tables) (expressions o)
expressions_typed tables count o h = parted_typed (counts_of tables count) (taken_apart o) h

typed_at : (ks : List Kind) (es : List (List Item)) (i : ℕ) (e : List Item) → Typed ks es → slice_get es i ≡ Some e → (k : Kind) × HasKind ks e k
typed_at ks [] i e h f = absurd cc
typed_at ks (d ∷ es) zero e h f = let same : d ≡ e = cc in subst (λ (is : List Item). (k : Kind) × HasKind ks is k) same h.0
typed_at ks (d ∷ es) (suc i) e h f = typed_at ks es i e h.1 f

-- an expression of a valid code has a kind
pub valid_typed : (c : Code) (n place : ℕ) (s : CodeStatement) (e : List Item) → IsValid c → slice_get c.statements n ≡ Some s
    → slice_get (expressions s.op) place ≡ Some e → (k : Kind) × HasKind (kinds c.tables) e k
valid_typed c n place s e h f g =
    typed_at (kinds c.tables) (expressions s.op) place e (expressions_typed c.tables (length c.statements) s.op (fits_at c.tables (length c.statements) c.statements n s h.fit f)) g

kinds_all : (vs : List Variable) → length (map (λ (v : Variable). v.kind) vs) ≡ length vs
kinds_all [] = refl
kinds_all (v ∷ vs) = ap suc (kinds_all vs)

-- each variable has a kind
pub kinds_length : (c : Code) → length (kinds c.tables) ≡ length c.tables.variables
kinds_length c = kinds_all c.tables.variables

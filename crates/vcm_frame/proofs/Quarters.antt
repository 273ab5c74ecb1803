-- Turns after a quarter turn, and the turn back by its columns.
use Rattle.std.proofs.Common.{◌≡◌, ◌∙◌, ℕ, zero, suc, ◌<◌, Bool, true, ◌||◌, not, refl, sym, ap, subst, arith}
use Rattle.std.specs.Prelude.{IsTrue}
use Rattle.vcm_num.specs.declared.axis.Axis.{Axis}
use Rattle.vcm_num.specs.declared.axis.Axis.TheVariants.{PlusX, PlusY, PlusZ}
use Rattle.vcm_spec.specs.Frame.{rows, product, quarter, quarters, is_turn, turn_back, direction}
use Rattle.vcm_spec.proofs.Frames.{every, every_at, is_same_turn, same_turn, or_second}
use Rattle.vcm_spec.proofs.Turns.{quarters_turn}
use Rattle.vcm_frame.specs.inner.Rows.{unit_row, turn_of, times}

one_quarter : (axis : ℕ) → axis < 3 → quarters axis 1 ≡ quarter axis
one_quarter zero l = refl
one_quarter (suc zero) l = refl
one_quarter (suc (suc zero)) l = refl
one_quarter (suc (suc (suc k))) l = absurd (omega arith)

pub after_quarter_is : (a b c p q r : Axis) (axis : ℕ) → unit_row p ≡ times (unit_row a) (quarter axis) → unit_row q ≡ times (unit_row b) (quarter axis)
    → unit_row r ≡ times (unit_row c) (quarter axis) → turn_of p q r ≡ product (turn_of a b c) (quarter axis)
after_quarter_is a b c p q r axis e f g = λ i. rows (e i) (f i) (g i)

pub after_quarter_turn : (a b c p q r : Axis) (axis : ℕ) → axis < 3 → IsTrue (is_turn (turn_of a b c)) → unit_row p ≡ times (unit_row a) (quarter axis)
    → unit_row q ≡ times (unit_row b) (quarter axis) → unit_row r ≡ times (unit_row c) (quarter axis) → IsTrue (is_turn (turn_of p q r))
after_quarter_turn a b c p q r axis l h e f g =
    subst (λ t. IsTrue (is_turn t)) (ap (product (turn_of a b c)) (one_quarter axis l) ∙ sym (after_quarter_is a b c p q r axis e f g)) (quarters_turn (turn_of a b c) axis 1 h)

abbrev test : Axis → Axis → Axis → Bool
test a b c = not (is_turn (turn_of a b c))
    || is_same_turn (turn_back (turn_of a b c)) (turn_of (direction (turn_of a b c) PlusX) (direction (turn_of a b c) PlusY) (direction (turn_of a b c) PlusZ))

all : every (λ a. every (λ b. every (λ c. test a b c))) ≡ true
all = refl

pub columns_are : (a b c : Axis) → is_turn (turn_of a b c) ≡ true
    → turn_back (turn_of a b c) ≡ turn_of (direction (turn_of a b c) PlusX) (direction (turn_of a b c) PlusY) (direction (turn_of a b c) PlusZ)
columns_are a b c e =
    same_turn _ _ (or_second (is_turn (turn_of a b c)) _ (every_at (λ z. test a b z) (every_at (λ y. every (λ z. test a y z)) (every_at (λ x. every (λ y. every (λ z. test x y z))) all a) b) c) e)

-- Where a turn takes a direction: all 1,296 cases.
use Rattle.std.proofs.Common.{◌≡◌, Bool, true, ◌&&◌, ◌||◌, not, ◌==◌, refl}
use Rattle.std.specs.Prelude.{if◌then◌else◌}
use Rattle.vcm_num.specs.declared.axis.Axis.{Axis}
use Rattle.vcm_num.specs.declared.axis.Axis.TheVariants.{PlusX, MinusX, PlusY, MinusY, PlusZ, MinusZ}
use Rattle.vcm_num.specs.Axis.{axis_of, is_forward}
use Rattle.vcm_spec.specs.Frame.{is_turn, direction}
use Rattle.vcm_spec.proofs.Frames.{every, every_at, or_second}
use Rattle.vcm_frame.specs.inner.Rows.{turn_of, taken}

abbrev same : Axis → Axis → Bool
same d e = (axis_of d == axis_of e) && (if is_forward d then is_forward e else not (is_forward e))

same_is : (d e : Axis) → same d e ≡ true → d ≡ e
same_is PlusX PlusX h = refl
same_is PlusX MinusX h = absurd (cc h)
same_is PlusX PlusY h = absurd (cc h)
same_is PlusX MinusY h = absurd (cc h)
same_is PlusX PlusZ h = absurd (cc h)
same_is PlusX MinusZ h = absurd (cc h)
same_is MinusX PlusX h = absurd (cc h)
same_is MinusX MinusX h = refl
same_is MinusX PlusY h = absurd (cc h)
same_is MinusX MinusY h = absurd (cc h)
same_is MinusX PlusZ h = absurd (cc h)
same_is MinusX MinusZ h = absurd (cc h)
same_is PlusY PlusX h = absurd (cc h)
same_is PlusY MinusX h = absurd (cc h)
same_is PlusY PlusY h = refl
same_is PlusY MinusY h = absurd (cc h)
same_is PlusY PlusZ h = absurd (cc h)
same_is PlusY MinusZ h = absurd (cc h)
same_is MinusY PlusX h = absurd (cc h)
same_is MinusY MinusX h = absurd (cc h)
same_is MinusY PlusY h = absurd (cc h)
same_is MinusY MinusY h = refl
same_is MinusY PlusZ h = absurd (cc h)
same_is MinusY MinusZ h = absurd (cc h)
same_is PlusZ PlusX h = absurd (cc h)
same_is PlusZ MinusX h = absurd (cc h)
same_is PlusZ PlusY h = absurd (cc h)
same_is PlusZ MinusY h = absurd (cc h)
same_is PlusZ PlusZ h = refl
same_is PlusZ MinusZ h = absurd (cc h)
same_is MinusZ PlusX h = absurd (cc h)
same_is MinusZ MinusX h = absurd (cc h)
same_is MinusZ PlusY h = absurd (cc h)
same_is MinusZ MinusY h = absurd (cc h)
same_is MinusZ PlusZ h = absurd (cc h)
same_is MinusZ MinusZ h = refl

abbrev test : Axis → Axis → Axis → Axis → Bool
test a b c d = not (is_turn (turn_of a b c)) || same (taken a b c d) (direction (turn_of a b c) d)

all : every (λ a. every (λ b. every (λ c. every (λ d. test a b c d)))) ≡ true
all = refl

pub taken_is : (a b c d : Axis) → is_turn (turn_of a b c) ≡ true → taken a b c d ≡ direction (turn_of a b c) d
taken_is a b c d e =
    same_is _ _ (or_second (is_turn (turn_of a b c)) _ (every_at (λ u. test a b c u) (every_at (λ z. every (λ u. test a b z u)) (every_at (λ y. every (λ z. every (λ u. test a y z u)))
    (every_at (λ x. every (λ y. every (λ z. every (λ u. test x y z u)))) all a) b) c) d) e)

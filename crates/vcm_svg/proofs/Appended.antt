-- Texts and other lists of several calls, one after another.
use Rattle.std.proofs.Common.{◌≡◌, List, ◌++◌, ◌∙◌, ap}
use Rattle.std.specs.Prelude.{Result, OnOk}
use Rattle.vcm_svg.proofs.Putting.{put_then}

-- the text of what is the same
pub text_same : {X A : Type 0} (o p : List X) (f : A → List X) (x y : A) → x ≡ y → p ≡ o ++ f x → p ≡ o ++ f y
text_same o p f x y e h = h ∙ ap (λ z. o ++ f z) e

-- the same of a last call
pub last_same : {X A B E : Type 0} (r : Result B E) (o p : List X) (f : A → List X) (x y : A) → x ≡ y → OnOk r (p ≡ o ++ f x) → OnOk r (p ≡ o ++ f y)
last_same r o p f x y e h = rw (← e) h

pub two : {X A E : Type 0} (r : Result A E) (o p m a b : List X) → p ≡ o ++ a → OnOk r (m ≡ p ++ b) → OnOk r (m ≡ o ++ (a ++ b))
two r o p m a b e h = put_then r o a p m b e h

pub three : {X A E : Type 0} (r : Result A E) (o p q m a b d : List X) → p ≡ o ++ a → q ≡ p ++ b → OnOk r (m ≡ q ++ d)
    → OnOk r (m ≡ o ++ (a ++ (b ++ d)))
three r o p q m a b d e f h = two r o p m a (b ++ d) e (two r p q m b d f h)

pub four : {X A E : Type 0} (r : Result A E) (o p q s m a b d g : List X) → p ≡ o ++ a → q ≡ p ++ b → s ≡ q ++ d → OnOk r (m ≡ s ++ g)
    → OnOk r (m ≡ o ++ (a ++ (b ++ (d ++ g))))
four r o p q s m a b d g e f i h = two r o p m a (b ++ (d ++ g)) e (three r p q s m b d g f i h)

pub five : {X A E : Type 0} (r : Result A E) (o p q s t m a b d g j : List X) → p ≡ o ++ a → q ≡ p ++ b → s ≡ q ++ d → t ≡ s ++ g
    → OnOk r (m ≡ t ++ j) → OnOk r (m ≡ o ++ (a ++ (b ++ (d ++ (g ++ j)))))
five r o p q s t m a b d g j e f i k h = two r o p m a (b ++ (d ++ (g ++ j))) e (four r p q s t m b d g j f i k h)

pub six : {X A E : Type 0} (r : Result A E) (o p q s t u m a b d g j l : List X) → p ≡ o ++ a → q ≡ p ++ b → s ≡ q ++ d → t ≡ s ++ g
    → u ≡ t ++ j → OnOk r (m ≡ u ++ l) → OnOk r (m ≡ o ++ (a ++ (b ++ (d ++ (g ++ (j ++ l))))))
six r o p q s t u m a b d g j l e f i k n h = two r o p m a (b ++ (d ++ (g ++ (j ++ l)))) e (five r p q s t u m b d g j l f i k n h)

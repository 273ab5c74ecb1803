-- Texts of several calls, one after another.
use Rattle.std.proofs.Common.{◌≡◌, List, ◌++◌, ◌∙◌, ap, append_assoc}
use Rattle.std.specs.Prelude.{Result, Ok, Err, OnOk}

pub two : {X A E : Type 0} (r : Result A E) (o p m a b : List X) → p ≡ o ++ a → OnOk r (m ≡ p ++ b) → OnOk r (m ≡ o ++ (a ++ b))
two (Ok x) o p m a b e h = h ∙ ap (λ l. l ++ b) e ∙ append_assoc o a b
two (Err x) o p m a b e h = h

pub three : {X A E : Type 0} (r : Result A E) (o p q m a b d : List X) → p ≡ o ++ a → q ≡ p ++ b → OnOk r (m ≡ q ++ d)
    → OnOk r (m ≡ o ++ (a ++ (b ++ d)))
three r o p q m a b d e f h = two r o p m a (b ++ d) e (two r p q m b d f h)

pub four : {X A E : Type 0} (r : Result A E) (o p q s m a b d g : List X) → p ≡ o ++ a → q ≡ p ++ b → s ≡ q ++ d → OnOk r (m ≡ s ++ g)
    → OnOk r (m ≡ o ++ (a ++ (b ++ (d ++ g))))
four r o p q s m a b d g e f i h = two r o p m a (b ++ (d ++ g)) e (three r p q s m b d g f i h)

-- three pairs, and a last one
pub pairs : {X A E : Type 0} (r : Result A E) (o p q s m a b d g j l n : List X) → p ≡ o ++ (a ++ b) → q ≡ p ++ (d ++ g) → s ≡ q ++ (j ++ l) → OnOk r (m ≡ s ++ n)
    → OnOk r (m ≡ o ++ (a ++ (b ++ (d ++ (g ++ (j ++ (l ++ n)))))))
pairs r o p q s m a b d g j l n e f i h = simp append_assoc at (four r o p q s m (a ++ b) (d ++ g) (j ++ l) n e f i h)

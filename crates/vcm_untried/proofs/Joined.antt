-- Bytes that are appended one behind the other.
use Rattle.std.proofs.Common.{◌≡◌, ℕ, List, ◌++◌, ap, ◌∙◌, append_assoc}

pub three : (old o1 o2 o3 a n z : List ℕ) → o1 ≡ old ++ a → o2 ≡ o1 ++ n → o3 ≡ o2 ++ z → o3 ≡ old ++ (a ++ (n ++ z))
three old o1 o2 o3 a n z e1 e2 e3 =
    e3 ∙ ap (λ l. l ++ z) (e2 ∙ ap (λ l. l ++ n) e1) ∙ append_assoc (old ++ a) n z ∙ append_assoc old a (n ++ z)

pub four : (old o1 o2 o3 o4 a n b d g : List ℕ) → o1 ≡ old ++ a → o2 ≡ o1 ++ n → o3 ≡ o2 ++ (b ++ d) → o4 ≡ o3 ++ g
    → o4 ≡ old ++ (a ++ (n ++ (b ++ (d ++ g))))
four old o1 o2 o3 o4 a n b d g e1 e2 e3 e4 =
    e4 ∙ ap (λ l. l ++ g) (three old o1 o2 o3 a n (b ++ d) e1 e2 e3)
    ∙ append_assoc old (a ++ (n ++ (b ++ d))) g
    ∙ ap (λ l. old ++ l) (append_assoc a (n ++ (b ++ d)) g
    ∙ ap (λ l. a ++ l) (append_assoc n (b ++ d) g ∙ ap (λ l. n ++ l) (append_assoc b d g)))

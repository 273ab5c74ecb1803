-- Lists that are appended one after another.
use Rattle.std.proofs.Common.{◌≡◌, List, ◌++◌, ◌∙◌, ap, append_assoc}
use Rattle.std.specs.Prelude.{Result, Ok, Err, OnOk}

-- what was appended before, and then what this call appends
pub put_then : {X A E : Type 0} (r : Result A E) (o a n m b : List X) → n ≡ o ++ a → OnOk r (m ≡ n ++ b) → OnOk r (m ≡ o ++ (a ++ b))
put_then (Ok x) o a n m b e h = h ∙ ap (λ l. l ++ b) e ∙ append_assoc o a b
put_then (Err x) o a n m b e h = h

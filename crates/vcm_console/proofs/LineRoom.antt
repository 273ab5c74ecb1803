-- The room of a line.
use Rattle.std.proofs.Common.{◌≡◌, ℕ, suc, ◌+◌, ◌<◌, ◌≤◌, List, [], ◌∷◌, ◌++◌, length, take, set, sym, ap, ◌∙◌, arith, length-append, length-take}
use Rattle.std.proofs.lemmas.List.{take_all, take-append-le}
use Rattle.std.proofs.Math.Seq.{take-suc-set}

pub pushed : (bytes now : List ℕ) (n b : ℕ) → length bytes ≡ 258 → n < 258 → take n bytes ≡ now → take (n + 1) (set bytes n b) ≡ take 258 (now ++ b ∷ [])
pushed bytes now n b e l is =
    let k : n + 1 ≡ suc n = omega arith in
    let long : length now ≡ n = sym (ap length is) ∙ omega (arith, length-take n bytes, e) in
    let short : length (now ++ b ∷ []) ≤ 258 = omega (arith, length-append now (b ∷ []), long) in
    ap (λ m. take m (set bytes n b)) k ∙ take-suc-set bytes n b (omega (arith, e)) ∙ ap (λ l. l ++ b ∷ []) is ∙ sym (take_all 258 (now ++ b ∷ []) short)

pub full : (bytes now : List ℕ) (n b : ℕ) → length bytes ≡ 258 → 258 ≤ n → take n bytes ≡ now → now ≡ take 258 (now ++ b ∷ [])
full bytes now n b e l is =
    let long : length now ≡ 258 = sym (ap length is) ∙ omega (arith, length-take n bytes, e) in
    sym (take-append-le 258 now (b ∷ []) (omega (arith, long)) ∙ take_all 258 now (omega (arith, long)))

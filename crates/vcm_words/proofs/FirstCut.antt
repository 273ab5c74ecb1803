-- The first mark in some bytes.
use Rattle.std.proofs.Common.{◌≡◌, ℕ, zero, suc, ◌+◌, ◌<◌, ◌≤◌, ◌==◌, Bool, true, false, List, [], ◌∷◌, length, take, drop, get_or, Some, None, refl, ap, ◌∙◌, arith}
use Rattle.std.specs.Prelude.{if◌then◌else◌}
use Rattle.std.specs.List.{position, position_or_len}
use Rattle.std.proofs.lemmas.List.Quantifiers.{position-Some}
use Rattle.std.proofs.lemmas.List.Sums.{fails_before_first}
use Rattle.std.proofs.lemmas.Bool.{ltb-false}
use Rattle.vcm_words.specs.Cutting.{onto, split}

some_or_none : (b : Bool) (n : ℕ) → (if b then Some n else None) ≡ None → b ≡ false
some_or_none true n e = cc
some_or_none false n e = refl

uncut : (mark : ℕ) (bs : List ℕ) → ((k : ℕ) → k < length bs → (get_or bs k 0 == mark) ≡ false) → split mark bs ≡ bs ∷ []
uncut mark [] h = refl
uncut mark (b ∷ bs) h = rw (h 0 (omega arith), uncut mark bs (λ k l. h (suc k) (omega arith))) refl

cut_at : (mark : ℕ) (bs : List ℕ) (n : ℕ) → n < length bs → (get_or bs n 0 == mark) ≡ true → ((k : ℕ) → k < n → (get_or bs k 0 == mark) ≡ false)
    → split mark bs ≡ take n bs ∷ split mark (drop (n + 1) bs)
cut_at mark [] n l e h = absurd (omega arith)
cut_at mark (b ∷ bs) zero l e h = ap (λ t. onto t b (split mark bs)) e
cut_at mark (b ∷ bs) (suc n) l e h =
    let more : suc n + 1 ≡ suc (n + 1) = omega arith in
    ap (λ t. onto t b (split mark bs)) (h 0 (omega arith)) ∙ ap (onto false b) (cut_at mark bs n (omega arith) e (λ k m. h (suc k) (omega arith))) ∙ rw more refl

pub cut_none : (mark : ℕ) (bs : List ℕ) → position (λ b. b == mark) bs ≡ None → split mark bs ≡ bs ∷ []
cut_none mark bs e =
    let all : length bs ≤ position_or_len (λ b. b == mark) bs = ltb-false _ _ (some_or_none _ _ e) in
    uncut mark bs (λ k l. fails_before_first (λ b. b == mark) bs k 0 (omega arith))

pub cut_some : (mark : ℕ) (bs : List ℕ) (n : ℕ) → position (λ b. b == mark) bs ≡ Some n → split mark bs ≡ take n bs ∷ split mark (drop (n + 1) bs)
cut_some mark bs n e = let p = position-Some (λ b. b == mark) bs n 0 e in cut_at mark bs n p.0 p.1 p.2

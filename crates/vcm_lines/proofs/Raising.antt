-- Letters put in upper case, and the run of bytes that a line keeps.
use Rattle.std.proofs.Common.{◌≡◌, ℕ, zero, suc, ◌+◌, ◌<◌, Bool, true, false, List, [], ◌∷◌, ◌++◌, length, get_or, slice_set, take, drop, refl, ap, add-one, append_assoc, arith}
use Rattle.std.specs.Prelude.{map}
use Rattle.std.specs.List.{take_while, prefix_len}
use Rattle.std.proofs.lemmas.List.{append-nil}
use Rattle.vcm_lines.specs.Bytes.{is_blank, is_plain, upper}
use Rattle.vcm_lines.specs.inner.Taking.{is_bare}
use Rattle.vcm_lines.proofs.Scanning.{IsScanned, step_byte}

raised_at : (o : List ℕ) (i : ℕ) → i < length o → get_or (map upper (take i o) ++ drop i o) i 0 ≡ get_or o i 0
raised_at [] i lt = absurd (omega arith)
raised_at (b ∷ bs) zero lt = refl
raised_at (b ∷ bs) (suc i) lt = raised_at bs i (omega arith)

raised_more : (o : List ℕ) (i : ℕ) → i < length o → slice_set (map upper (take i o) ++ drop i o) i (upper (get_or o i 0)) ≡ map upper (take (suc i) o) ++ drop (suc i) o
raised_more [] i lt = absurd (omega arith)
raised_more (b ∷ bs) zero lt = refl
raised_more (b ∷ bs) (suc i) lt = ap (λ (l : List ℕ). upper b ∷ l) (raised_more bs i (omega arith))

-- One more byte is raised.
pub raised_step : (o bytes : List ℕ) (i b : ℕ) → i < length o → bytes ≡ map upper (take i o) ++ drop i o → b ≡ upper (get_or bytes i 0)
    → slice_set bytes i b ≡ map upper (take (i + 1) o) ++ drop (i + 1) o
raised_step o bytes i b lt e f =
    let at : b ≡ upper (get_or o i 0) = rw (← raised_at o i lt, ← e) f in
    rw (e, at, add-one) (raised_more o i lt)

abbrev BareFacts : ℕ → Type 0
BareFacts b = (b ≡ 36 → ⊥) × (b ≡ 39 → ⊥) × (is_blank b ≡ false) × (is_plain b ≡ true)

bare_facts : (b : ℕ) → is_bare b ≡ true → BareFacts b
bare_facts b e = (grind arith, grind arith, grind arith, grind arith)

pub unbare : (b : ℕ) → is_bare b ≡ false → (b ≡ 36 → ⊥) → (b ≡ 39 → ⊥) → is_blank b ≡ false → is_plain b ≡ false
unbare b e dollar quote solid = grind arith

abbrev AreScanned : (line old bytes : List ℕ) (continued : Bool) (rest : List ℕ) → Type 0
AreScanned line old bytes continued rest = IsScanned line old (bytes ++ map upper (take_while is_bare rest)) continued (drop (length (take_while is_bare rest)) rest)

kept_first : (b : ℕ) (bs : List ℕ) → is_bare b ≡ true → take_while is_bare (b ∷ bs) ≡ b ∷ take_while is_bare bs
kept_first b bs e =
    let more : prefix_len is_bare (b ∷ bs) ≡ suc (prefix_len is_bare bs) = rw e (omega arith) in
    ap (λ (n : ℕ). take n (b ∷ bs)) more

none_first : (b : ℕ) (bs : List ℕ) → is_bare b ≡ false → take_while is_bare (b ∷ bs) ≡ []
none_first b bs e = rw e refl

by_first : (line old bytes : List ℕ) (continued : Bool) (b : ℕ) (bs : List ℕ) (t : Bool) → is_bare b ≡ t → continued ≡ false
    → ((new : List ℕ) → IsScanned line old new continued bs → AreScanned line old new continued bs) → IsScanned line old bytes continued (b ∷ bs) → AreScanned line old bytes continued (b ∷ bs)
by_first line old bytes continued b bs true e fresh go s =
    let f = bare_facts b e in
    let more = go (bytes ++ upper b ∷ []) (step_byte line old bytes continued (b ∷ bs) _ (omega arith) fresh f.0 f.1 f.2 f.3 refl s) in
    rw (kept_first b bs e) (rw append_assoc at more)
by_first line old bytes continued b bs false e fresh go s = rw (none_first b bs e) (rw append-nil s)

-- the bare bytes at the front are kept
pub step_bare : (line old bytes : List ℕ) (continued : Bool) (rest : List ℕ) → continued ≡ false → IsScanned line old bytes continued rest → AreScanned line old bytes continued rest
step_bare line old bytes continued [] fresh s = rw append-nil s
step_bare line old bytes continued (b ∷ bs) fresh s = by_first line old bytes continued b bs _ refl fresh (λ new t. step_bare line old new continued bs fresh t) s

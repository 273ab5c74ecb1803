-- A line's first segment.
use Rattle.std.proofs.Common.{◌≡◌, ℕ, zero, suc, ◌+◌, ◌<◌, ◌≤◌, Bool, true, false, cond, eqb, List, [], ◌∷◌, ◌++◌, length, get_or, take, drop, Some, None, refl, ap, add-one, arith}
use Rattle.std.specs.Prelude.{not}
use Rattle.std.specs.List.{list_all, position, position_or_len}
use Rattle.std.proofs.lemmas.Bool.{eq-eqb, eqb-true, eqb-false, ltb-false}
use Rattle.std.proofs.lemmas.List.Quantifiers.{position-Some}
use Rattle.std.proofs.lemmas.List.Sums.{fails_before_first}
use Rattle.vcm_lines.specs.Bytes.{is_inner}
use Rattle.vcm_lines.specs.declared.fault.FaultCode.TheVariants.{BadByte, BadSyntax}
use Rattle.vcm_lines.specs.Segments.{Plain, Quoted, Open, Comment, segments_from, segments_of}
use Rattle.vcm_lines.specs.Leftmost.{leftmost_fault}
use Rattle.vcm_lines.specs.inner.Taking.{TakesSegment}

pub neq-eqb : (b c : ℕ) → (b ≡ c → ⊥) → eqb b c ≡ false
neq-eqb b c ne = grind arith

pub segments_none : segments_of [] ≡ []
unfolding segments_from
segments_none = refl

pub segments_quote : (bs : List ℕ) → segments_of (39 ∷ bs) ≡ segments_from true bs
unfolding segments_from
segments_quote [] = refl
segments_quote (b ∷ bs) = refl

pub segments_comment : (bs : List ℕ) → segments_of (36 ∷ 36 ∷ bs) ≡ Comment bs ∷ []
unfolding segments_from
segments_comment bs = refl

pub segments_dollar : (bs : List ℕ) → (0 < length bs → get_or bs 0 0 ≡ 36 → ⊥) → segments_of (36 ∷ bs) ≡ Plain 36 ∷ segments_of bs
unfolding segments_from
segments_dollar [] ne = refl
segments_dollar (b ∷ bs) ne = rw (neq-eqb b 36 (ne (omega arith))) refl

pub segments_plain : (b : ℕ) (bs : List ℕ) → (b ≡ 39 → ⊥) → (b ≡ 36 → ⊥) → segments_of (b ∷ bs) ≡ Plain b ∷ segments_of bs
unfolding segments_from
segments_plain b [] q d = rw (neq-eqb b 39 q) refl
segments_plain b (c ∷ bs) q d = rw (neq-eqb b 39 q, neq-eqb b 36 d) refl

pub closed : (bs : List ℕ) (n : ℕ) → n < length bs → ((k : ℕ) → k < n → get_or bs k 0 ≡ 39 → ⊥) → get_or bs n 0 ≡ 39 → segments_from true bs ≡ Quoted (take n bs) ∷ segments_of (drop (suc n) bs)
unfolding segments_from
closed [] n lt before at = absurd (omega arith)
closed (b ∷ bs) zero lt before at = rw (eq-eqb b 39 at) refl
closed (b ∷ bs) (suc n) lt before at =
    let rest = closed bs n (omega arith) (λ k h. before (suc k) (omega arith)) at in
    rw (neq-eqb b 39 (before 0 (omega arith)), rest) refl

pub unclosed : (bs : List ℕ) → ((k : ℕ) → k < length bs → get_or bs k 0 ≡ 39 → ⊥) → segments_from true bs ≡ Open bs ∷ []
unfolding segments_from
unclosed [] before = refl
unclosed (b ∷ bs) before =
    let rest = unclosed bs (λ k h. before (suc k) (omega arith)) in
    rw (neq-eqb b 39 (before 0 (omega arith)), rest) refl

pub some_or_none : (b : Bool) (n : ℕ) → cond b (Some n) None ≡ None → b ≡ false
some_or_none true n e = absurd cc
some_or_none false n e = refl

pub closed_at : (bs : List ℕ) (n : ℕ) → position (λ b. eqb b 39) bs ≡ Some n → segments_from true bs ≡ Quoted (take n bs) ∷ segments_of (drop (n + 1) bs)
closed_at bs n e =
    let p = position-Some (λ b. eqb b 39) bs n 0 e in
    rw add-one (closed bs n p.0 (λ k h. eqb-false _ _ (p.2 k h)) (eqb-true _ _ p.1))

pub unclosed_at : (bs : List ℕ) → position (λ b. eqb b 39) bs ≡ None → segments_from true bs ≡ Open bs ∷ []
unclosed_at bs e =
    let all : length bs ≤ position_or_len (λ b. eqb b 39) bs = ltb-false _ _ (some_or_none _ _ e) in
    unclosed bs (λ k h. eqb-false _ _ (fails_before_first (λ b. eqb b 39) bs k 0 (omega arith)))

-- The first segment of these is known.
pub taken_text : (bs old new : List ℕ) (n : ℕ) → position (λ b. eqb b 39) bs ≡ Some n → list_all is_inner (take n bs) ≡ true
    → new ≡ old ++ (39 ∷ take n bs ++ 39 ∷ []) → TakesSegment (segments_from true bs) old new (drop (n + 1) bs)
taken_text bs old new n e inner added = record { segment = Quoted (take n bs); first = closed_at bs n e; bytes = ap not inner; closed = refl; undollared = refl; added = added }

pub bad_text : (bs : List ℕ) (n : ℕ) → position (λ b. eqb b 39) bs ≡ Some n → list_all is_inner (take n bs) ≡ false → leftmost_fault (segments_from true bs) ≡ Some BadByte
bad_text bs n e outer = rw (closed_at bs n e, outer) refl

pub open_text : (bs : List ℕ) → position (λ b. eqb b 39) bs ≡ None → leftmost_fault (segments_from true bs) ≡ Some BadSyntax
open_text bs e = rw (unclosed_at bs e) refl

-- Reading a line segment by segment, whatever faults it has.
use Rattle.std.proofs.Common.{◌≡◌, ℕ, ◌+◌, ◌<◌, Bool, true, false, eqb, List, [], ◌∷◌, ◌++◌, length, get_or, take, drop, Some, None, nat_eq, refl, sym, ap, ◌∙◌, append_assoc, arith}
use Rattle.std.specs.Prelude.{◌||◌, if◌then◌else◌}
use Rattle.std.specs.List.{list_any, starts_with, position}
use Rattle.std.proofs.lemmas.List.{append-nil}
use Rattle.std.proofs.lemmas.Bool.{and_parts, eqb-true}
use Rattle.vcm_lines.specs.Bytes.{is_blank, upper}
use Rattle.vcm_lines.specs.Segments.{Segment, Plain, Quoted, Open, Comment, segments_from, segments_of, text_of, is_dollar, continues}
use Rattle.vcm_lines.proofs.SegmentLemmas.{neq-eqb, segments_none, segments_quote, segments_comment, segments_dollar, segments_plain, closed_at, unclosed_at}
use Rattle.vcm_sentences.specs.inner.Putting.{PutsSegment}

-- What is known once the segments in front of the rest of a line are read: what they leave stands behind the old bytes, and `goes` says that a
-- dollar was among them.
pub record IsPut (line old bytes : List ℕ) (goes : Bool) (rest : List ℕ) : Type 0 where
  pub text : bytes ++ text_of rest ≡ old ++ text_of line
  pub dollar : (goes || list_any is_dollar (segments_of rest)) ≡ continues line

or_assoc : (a b c : Bool) → ((a || b) || c) ≡ (a || (b || c))
or_assoc true b c = refl
or_assoc false b c = refl

or_nothing : (goes : Bool) → (goes || false) ≡ goes
or_nothing true = refl
or_nothing false = refl

pub put_more : (line old bytes : List ℕ) (goes dollar : Bool) (rest new after : List ℕ) → PutsSegment (segments_of rest) dollar bytes new after
    → IsPut line old bytes goes rest → IsPut line old new (goes || dollar) after
put_more line old bytes goes dollar rest new after t s = record {
  text = rw (t.added, append_assoc) (rw t.first at s.text);
  dollar = or_assoc goes dollar _ ∙ (rw (t.first, t.dollar) at s.dollar);
}

pub put_text_done : (line old bytes : List ℕ) (goes : Bool) (rest : List ℕ) → length rest ≡ 0 → IsPut line old bytes goes rest → bytes ≡ old ++ text_of line
put_text_done line old bytes goes [] none s = sym (append-nil bytes) ∙ (rw segments_none at s.text)
put_text_done line old bytes goes (b ∷ bs) none s = absurd (omega arith)

pub put_dollar_done : (line old bytes : List ℕ) (goes : Bool) (rest : List ℕ) → length rest ≡ 0 → IsPut line old bytes goes rest → goes ≡ continues line
put_dollar_done line old bytes goes [] none s = sym (or_nothing goes) ∙ (rw segments_none at s.dollar)
put_dollar_done line old bytes goes (b ∷ bs) none s = absurd (omega arith)

-- the text that is closed
pub text_put : (bs old new : List ℕ) (n : ℕ) → position (λ b. eqb b 39) bs ≡ Some n → new ≡ old ++ (39 ∷ take n bs ++ 39 ∷ [])
    → PutsSegment (segments_from true bs) false old new (drop (n + 1) bs)
text_put bs old new n e added = record { segment = Quoted (take n bs); first = closed_at bs n e; dollar = refl; added = added }

-- its bytes are added in three steps
pub text_added : (old first second new text : List ℕ) → first ≡ old ++ 39 ∷ [] → second ≡ first ++ text → new ≡ second ++ 39 ∷ [] → new ≡ old ++ (39 ∷ text ++ 39 ∷ [])
text_added old first second new text e f g = rw (g, f, e) (append_assoc (old ++ 39 ∷ []) text (39 ∷ []) ∙ append_assoc old (39 ∷ []) (text ++ 39 ∷ []))

-- the one that isn't
pub open_put : (bs old : List ℕ) → position (λ b. eqb b 39) bs ≡ None → PutsSegment (segments_from true bs) false old old []
open_put bs old e = record { segment = Open bs; first = unclosed_at bs e ∙ ap (λ (ps : List Segment). Open bs ∷ ps) (sym segments_none); dollar = refl; added = sym (append-nil old) }

-- ---- the first segment, by its first bytes

pub quote_put : (line old new rest : List ℕ) → 0 < length line → get_or line 0 0 ≡ 39 → PutsSegment (segments_from true (drop 1 line)) false old new rest
    → PutsSegment (segments_of line) false old new rest
quote_put [] old new rest some at t = absurd (omega arith)
quote_put (b ∷ bs) old new rest some at t = rw (at, segments_quote) t

pub plain_put : (line old new : List ℕ) → 0 < length line → (get_or line 0 0 ≡ 39 → ⊥) → (get_or line 0 0 ≡ 36 → ⊥)
    → new ≡ old ++ (if is_blank (get_or line 0 0) then [] else upper (get_or line 0 0) ∷ []) → PutsSegment (segments_of line) false old new (drop 1 line)
plain_put [] old new some quote dollar added = absurd (omega arith)
plain_put (b ∷ bs) old new some quote dollar added = record {
  segment = Plain b;
  first = segments_plain b bs quote dollar;
  dollar = neq-eqb b 36 dollar;
  added = rw (neq-eqb b 36 dollar, or_nothing) added;
}

abbrev one_dollar : List ℕ
one_dollar = 36 ∷ []

second_dollar : (bs : List ℕ) → starts_with nat_eq bs one_dollar ≡ true → bs ≡ 36 ∷ drop 1 bs
second_dollar [] e = absurd cc
second_dollar (c ∷ bs) e = let q = and_parts (eqb 36 c) _ e in rw (← eqb-true 36 c q.0) refl

no_dollar : (bs : List ℕ) → starts_with nat_eq bs one_dollar ≡ false → 0 < length bs → get_or bs 0 0 ≡ 36 → ⊥
no_dollar [] e some at = absurd (omega arith)
no_dollar (b ∷ bs) e some at = let f : starts_with nat_eq (36 ∷ bs) one_dollar ≡ false = rw at at e in absurd cc

pub comment_put : (line old : List ℕ) → 0 < length line → get_or line 0 0 ≡ 36 → starts_with nat_eq (drop 1 line) one_dollar ≡ true
    → PutsSegment (segments_of line) false old old []
comment_put [] old some at comment = absurd (omega arith)
comment_put (b ∷ bs) old some at comment = record {
  segment = Comment (drop 1 bs);
  first = ap (λ (d : ℕ). segments_of (d ∷ bs)) at ∙ ap (λ (cs : List ℕ). segments_of (36 ∷ cs)) (second_dollar bs comment) ∙ segments_comment (drop 1 bs)
      ∙ ap (λ (ps : List Segment). Comment (drop 1 bs) ∷ ps) (sym segments_none);
  dollar = refl;
  added = sym (append-nil old);
}

pub dollar_put : (line old : List ℕ) → 0 < length line → get_or line 0 0 ≡ 36 → starts_with nat_eq (drop 1 line) one_dollar ≡ false
    → PutsSegment (segments_of line) true old old (drop 1 line)
dollar_put [] old some at comment = absurd (omega arith)
dollar_put (b ∷ bs) old some at comment = record {
  segment = Plain 36;
  first = ap (λ (d : ℕ). segments_of (d ∷ bs)) at ∙ segments_dollar bs (no_dollar bs comment);
  dollar = refl;
  added = sym (append-nil old);
}

-- Reading a line segment by segment.
use Rattle.std.proofs.Common.{◌≡◌, ℕ, ◌+◌, ◌<◌, Bool, true, false, cond, eqb, List, [], ◌∷◌, ◌++◌, length, get_or, take, drop, Option, Some, None, nat_eq, inl}
use Rattle.std.proofs.Common.{inr, subst, refl, sym, ap, ◌∙◌, append_assoc, arith}
use Rattle.std.specs.Prelude.{◌||◌, ◌&&◌, not}
use Rattle.std.specs.List.{list_any, list_all, starts_with, position}
use Rattle.std.specs.Option.{option_or}
use Rattle.vcm_lines.specs.Bytes.{is_blank, is_plain, is_inner, upper}
use Rattle.std.proofs.lemmas.Bool.{or_cases, and_parts, eqb-true, cases_eq}
use Rattle.std.proofs.lemmas.List.{append-nil}
use Rattle.vcm_lines.specs.Segments.{Segment, Plain, Quoted, Open, Comment, segments_from, segments_of, kept, text_of, has_bad_byte, is_open, is_dollar, is_skipped, continues}
use Rattle.vcm_lines.specs.Leftmost.{leftmost_fault}
use Rattle.vcm_lines.specs.inner.Taking.{TakesSegment}
use Rattle.vcm_lines.specs.declared.fault.FaultCode.{FaultCode}
use Rattle.vcm_lines.specs.declared.fault.FaultCode.TheVariants.{BadByte, BadSyntax}
use Rattle.vcm_lines.specs.Fault.{NoMemoryOr}
use Rattle.vcm_lines.specs.declared.fault.SourceFault.{SourceFault}
use Rattle.vcm_lines.proofs.SegmentLemmas.{neq-eqb, segments_none, segments_quote, segments_comment, segments_dollar, segments_plain, closed_at, unclosed_at}

-- the fault of a dollar that is read, of what stands behind it
abbrev stray_fault : Bool → List Segment → Option FaultCode
stray_fault continued behind = cond (continued && not (list_all is_skipped behind)) (Some BadSyntax) None

-- What is known once the segments in front of the rest of a line are read: they have no fault, their bytes stand behind
-- the old ones, and `continued` says that a dollar was among them.
pub record IsScanned (line old bytes : List ℕ) (continued : Bool) (rest : List ℕ) : Type 0 where
  pub text : bytes ++ text_of rest ≡ old ++ text_of line
  pub left : option_or (stray_fault continued (segments_of rest)) (leftmost_fault (segments_of rest)) ≡ leftmost_fault (segments_of line)
  pub dollar : (continued || list_any is_dollar (segments_of rest)) ≡ continues line

-- a segment that falls away
pub scan_skips : (line old bytes : List ℕ) (continued : Bool) (rest after : List ℕ) (p : Segment) → segments_of rest ≡ p ∷ segments_of after
    → has_bad_byte p ≡ false → is_open p ≡ false → is_dollar p ≡ false → is_skipped p ≡ true → kept p ≡ []
    → IsScanned line old bytes continued rest → IsScanned line old bytes continued after
scan_skips line old bytes continued rest after p e bad unclosed dollar skipped nothing s = record {
  text = rw (e, nothing) at s.text;
  left = rw (e, skipped, dollar, bad, unclosed) at s.left;
  dollar = rw (e, dollar) at s.dollar;
}

-- a segment that is kept
pub scan_takes : (line old bytes : List ℕ) (continued : Bool) (rest after new : List ℕ) → continued ≡ false → TakesSegment (segments_of rest) bytes new after
    → IsScanned line old bytes continued rest → IsScanned line old new continued after
scan_takes line old bytes continued rest after new fresh t s = rw fresh record {
  text = rw (t.added, append_assoc) (rw t.first at s.text);
  left = rw (fresh, t.first, t.undollared, t.bytes, t.closed) at s.left;
  dollar = rw (fresh, t.first, t.undollared) at s.dollar;
}

-- the dollar that ends the line
pub scan_ends : (line old bytes : List ℕ) (continued : Bool) (rest after : List ℕ) (p : Segment) → continued ≡ false → segments_of rest ≡ p ∷ segments_of after
    → has_bad_byte p ≡ false → is_open p ≡ false → is_dollar p ≡ true → kept p ≡ []
    → IsScanned line old bytes continued rest → IsScanned line old bytes true after
scan_ends line old bytes continued rest after p fresh e bad unclosed dollar nothing s = record {
  text = rw (e, nothing) at s.text;
  left = rw (fresh, e, dollar, bad, unclosed) at s.left;
  dollar = rw (fresh, e, dollar) at s.dollar;
}

-- a fault of the rest, where no dollar was read
pub scan_breaks : (line old bytes : List ℕ) (continued : Bool) (rest : List ℕ) (code : FaultCode) → continued ≡ false
    → leftmost_fault (segments_of rest) ≡ Some code → IsScanned line old bytes continued rest → leftmost_fault (segments_of line) ≡ Some code
scan_breaks line old bytes continued rest code fresh broken s = sym (rw fresh at s.left) ∙ broken

-- something behind a dollar
pub scan_strays : (line old bytes : List ℕ) (continued : Bool) (rest : List ℕ) (p : Segment) (ps : List Segment) → continued ≡ true → segments_of rest ≡ p ∷ ps
    → is_skipped p ≡ false → IsScanned line old bytes continued rest → leftmost_fault (segments_of line) ≡ Some BadSyntax
scan_strays line old bytes continued rest p ps after_dollar e stands s = sym (rw (after_dollar, e, stands) at s.left)

and_nothing : (continued : Bool) → (continued && false) ≡ false
and_nothing true = refl
and_nothing false = refl

or_nothing : (continued : Bool) → (continued || false) ≡ continued
or_nothing true = refl
or_nothing false = refl

pub scan_unbroken : (line old bytes : List ℕ) (continued : Bool) → IsScanned line old bytes continued [] → leftmost_fault (segments_of line) ≡ None
scan_unbroken line old bytes continued s = sym (rw (segments_none, and_nothing) at s.left)

pub scan_text : (line old bytes : List ℕ) (continued : Bool) → IsScanned line old bytes continued [] → bytes ≡ old ++ text_of line
scan_text line old bytes continued s = sym (append-nil bytes) ∙ (rw segments_none at s.text)

pub scan_continues : (line old bytes : List ℕ) (continued : Bool) → IsScanned line old bytes continued [] → continued ≡ continues line
scan_continues line old bytes continued s = sym (or_nothing continued) ∙ (rw segments_none at s.dollar)

-- ---- the first segment of what is left, by its first bytes

abbrev dollars : List ℕ
dollars = 36 ∷ 36 ∷ []

by_end : (bs : List ℕ) (o : Option ℕ) → position (λ b. eqb b 39) bs ≡ o → (p : Segment) × (ps : List Segment) × (segments_from true bs ≡ p ∷ ps) × (is_skipped p ≡ false)
by_end bs (Some n) e = (Quoted (take n bs), segments_of (drop (n + 1) bs), closed_at bs n e, refl)
by_end bs None e = (Open bs, [], unclosed_at bs e, refl)

first_of_text : (bs : List ℕ) → (p : Segment) × (ps : List Segment) × (segments_from true bs ≡ p ∷ ps) × (is_skipped p ≡ false)
first_of_text bs = by_end bs _ refl

abbrev BlankFacts : ℕ → Type 0
BlankFacts b = (b ≡ 39 → ⊥) × (b ≡ 36 → ⊥) × (is_plain b ≡ true)

blank_facts : (b : ℕ) → is_blank b ≡ true → BlankFacts b
blank_facts b h = elim (or_cases _ _ h) [
  | inl e ↦ subst BlankFacts (sym (eqb-true b 32 e)) ((λ e. omega arith), (λ e. omega arith), refl)
  | inr e ↦ subst BlankFacts (sym (eqb-true b 9 e)) ((λ e. omega arith), (λ e. omega arith), refl)
]

no_short : (b : ℕ) → starts_with nat_eq (b ∷ []) dollars ≡ true → ⊥
no_short b e = let p = and_parts (eqb 36 b) _ e in absurd cc

comment_is : (rest : List ℕ) → starts_with nat_eq rest dollars ≡ true → rest ≡ 36 ∷ 36 ∷ drop 2 rest
comment_is [] e = absurd cc
comment_is (b ∷ []) e = absurd (no_short b e)
comment_is (b ∷ c ∷ bs) e = let p = and_parts (eqb 36 b) _ e in let q = and_parts (eqb 36 c) _ p.1 in rw (← eqb-true 36 b p.0, ← eqb-true 36 c q.0) refl

no_comment : (bs : List ℕ) → starts_with nat_eq (36 ∷ bs) dollars ≡ false → 0 < length bs → get_or bs 0 0 ≡ 36 → ⊥
no_comment [] e some at = absurd (omega arith)
no_comment (b ∷ bs) e some at = let f : starts_with nat_eq (36 ∷ 36 ∷ bs) dollars ≡ false = rw at at e in absurd cc

pub step_blank : (line old bytes : List ℕ) (continued : Bool) (rest : List ℕ) → 0 < length rest → is_blank (get_or rest 0 0) ≡ true
    → IsScanned line old bytes continued rest → IsScanned line old bytes continued (drop 1 rest)
step_blank line old bytes continued [] some blank s = absurd (omega arith)
step_blank line old bytes continued (b ∷ bs) some blank s =
    let f = blank_facts b blank in
    scan_skips line old bytes continued (b ∷ bs) bs (Plain b) (segments_plain b bs f.0 f.1) (ap not f.2) refl (neq-eqb b 36 f.1) blank (rw blank refl) s

pub step_comment : (line old bytes : List ℕ) (continued : Bool) (rest : List ℕ) → starts_with nat_eq rest dollars ≡ true
    → list_all is_inner (drop 2 rest) ≡ true → IsScanned line old bytes continued rest → IsScanned line old bytes continued []
step_comment line old bytes continued rest comment inner s =
    let e : segments_of rest ≡ Comment (drop 2 rest) ∷ segments_of [] = ap segments_of (comment_is rest comment) ∙ segments_comment (drop 2 rest)
    ∙ ap (λ (ps : List Segment). Comment (drop 2 rest) ∷ ps) (sym segments_none) in
    scan_skips line old bytes continued rest [] (Comment (drop 2 rest)) e (ap not inner) refl refl refl refl s

pub bad_comment : (line old bytes : List ℕ) (continued : Bool) (rest : List ℕ) → starts_with nat_eq rest dollars ≡ true
    → list_all is_inner (drop 2 rest) ≡ false → IsScanned line old bytes continued rest → leftmost_fault (segments_of line) ≡ Some BadByte
bad_comment line old bytes continued rest comment outer s =
    let e : segments_of rest ≡ Comment (drop 2 rest) ∷ [] = ap segments_of (comment_is rest comment) ∙ segments_comment (drop 2 rest) in
    sym (rw (e, and_nothing, outer) at s.left)

pub step_dollar : (line old bytes : List ℕ) (continued : Bool) (rest : List ℕ) → 0 < length rest → starts_with nat_eq rest dollars ≡ false → continued ≡ false
    → get_or rest 0 0 ≡ 36 → IsScanned line old bytes continued rest → IsScanned line old bytes true (drop 1 rest)
step_dollar line old bytes continued [] some comment fresh at s = absurd (omega arith)
step_dollar line old bytes continued (b ∷ bs) some comment fresh at s =
    let p : segments_of (b ∷ bs) ≡ Plain 36 ∷ segments_of bs = ap (λ (d : ℕ). segments_of (d ∷ bs)) at ∙ segments_dollar bs (no_comment bs (rw at at comment)) in
    scan_ends line old bytes continued (b ∷ bs) bs (Plain 36) fresh p refl refl refl refl s

pub step_text : (line old bytes : List ℕ) (continued : Bool) (rest new left : List ℕ) → 0 < length rest → continued ≡ false → get_or rest 0 0 ≡ 39
    → TakesSegment (segments_from true (drop 1 rest)) bytes new left → IsScanned line old bytes continued rest → IsScanned line old new continued left
step_text line old bytes continued [] new left some fresh at t s = absurd (omega arith)
step_text line old bytes continued (b ∷ bs) new left some fresh at t s = scan_takes line old bytes continued (b ∷ bs) left new fresh (rw (at, segments_quote) t) s

pub text_breaks : (line old bytes : List ℕ) (continued : Bool) (rest : List ℕ) (code : FaultCode) → 0 < length rest → continued ≡ false → get_or rest 0 0 ≡ 39
    → leftmost_fault (segments_from true (drop 1 rest)) ≡ Some code → IsScanned line old bytes continued rest → leftmost_fault (segments_of line) ≡ Some code
text_breaks line old bytes continued [] code some fresh at broken s = absurd (omega arith)
text_breaks line old bytes continued (b ∷ bs) code some fresh at broken s = scan_breaks line old bytes continued (b ∷ bs) code fresh (rw (at, segments_quote) broken) s

pub step_byte : (line old bytes : List ℕ) (continued : Bool) (rest new : List ℕ) → 0 < length rest → continued ≡ false → (get_or rest 0 0 ≡ 36 → ⊥)
    → (get_or rest 0 0 ≡ 39 → ⊥) → is_blank (get_or rest 0 0) ≡ false → is_plain (get_or rest 0 0) ≡ true → new ≡ bytes ++ upper (get_or rest 0 0) ∷ []
    → IsScanned line old bytes continued rest → IsScanned line old new continued (drop 1 rest)
step_byte line old bytes continued [] new some fresh dollar quote solid plain added s = absurd (omega arith)
step_byte line old bytes continued (b ∷ bs) new some fresh dollar quote solid plain added s =
    scan_takes line old bytes continued (b ∷ bs) bs new fresh
    (record {
      segment = Plain b;
      first = segments_plain b bs quote dollar;
      bytes = ap not plain;
      closed = refl;
      undollared = neq-eqb b 36 dollar;
      added =
          rw (solid, neq-eqb b 36 dollar) added;
    }) s

pub bad_plain : (line old bytes : List ℕ) (continued : Bool) (rest : List ℕ) → 0 < length rest → continued ≡ false → (get_or rest 0 0 ≡ 36 → ⊥)
    → (get_or rest 0 0 ≡ 39 → ⊥) → is_plain (get_or rest 0 0) ≡ false → IsScanned line old bytes continued rest
    → leftmost_fault (segments_of line) ≡ Some BadByte
bad_plain line old bytes continued [] some fresh dollar quote outer s = absurd (omega arith)
bad_plain line old bytes continued (b ∷ bs) some fresh dollar quote outer s =
    scan_breaks line old bytes continued (b ∷ bs) BadByte fresh (rw (segments_plain b bs quote dollar, neq-eqb b 36 dollar, outer) refl) s

pub stands_stray : (line old bytes : List ℕ) (continued : Bool) (rest : List ℕ) → 0 < length rest → continued ≡ true → is_blank (get_or rest 0 0) ≡ false
    → starts_with nat_eq rest dollars ≡ false → IsScanned line old bytes continued rest → leftmost_fault (segments_of line) ≡ Some BadSyntax
stands_stray line old bytes continued [] some after_dollar solid comment s = absurd (omega arith)
stands_stray line old bytes continued (b ∷ bs) some after_dollar solid comment s = elim (cases_eq b 39) [
  | inl e ↦ let p = first_of_text bs in scan_strays line old bytes continued (b ∷ bs) p.0 p.1 after_dollar (ap (λ (d : ℕ). segments_of (d ∷ bs)) e ∙ segments_quote bs ∙ p.2) p.3 s
  | inr quote ↦ elim (cases_eq b 36) [
    | inl e ↦ scan_strays line old bytes continued (b ∷ bs) (Plain 36) (segments_of bs) after_dollar
        (ap (λ (d : ℕ). segments_of (d ∷ bs)) e ∙ segments_dollar bs (no_comment bs (rw e at comment))) refl s
    | inr dollar ↦ scan_strays line old bytes continued (b ∷ bs) (Plain b) (segments_of bs) after_dollar (segments_plain b bs quote dollar) solid s
  ]
]

pub scan_done : (line old bytes : List ℕ) (continued : Bool) (rest : List ℕ) → length rest < 1 → IsScanned line old bytes continued rest → IsScanned line old bytes continued []
scan_done line old bytes continued [] none s = s
scan_done line old bytes continued (b ∷ bs) none s = absurd (omega arith)

-- the exit at a text that is refused
pub text_refused : (line old bytes : List ℕ) (continued : Bool) (rest : List ℕ) (number : ℕ) (f : SourceFault) → 0 < length rest → continued ≡ false
    → get_or rest 0 0 ≡ 39 → IsScanned line old bytes continued rest
    → NoMemoryOr (λ f. (f.line ≡ number) × (leftmost_fault (segments_from true (drop 1 rest)) ≡ Some f.code)) f
    → NoMemoryOr (λ f. (f.line ≡ number) × (leftmost_fault (segments_of line) ≡ Some f.code)) f
text_refused line old bytes continued rest number f some fresh at s (inl e) = inl e
text_refused line old bytes continued rest number f some fresh at s (inr p) = inr (p.0, text_breaks line old bytes continued rest f.code some fresh at p.1 s)

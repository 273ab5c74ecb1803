-- The lines of spans.
use Rattle.std.proofs.Common.{◌≡◌, ℕ, zero, suc, ◌+◌, ◌-◌, ◌≤◌, Bool, true, false, ◌&&◌, nat_eq, List, [], ◌∷◌, ◌++◌, refl, sym, ap, ◌∙◌, arith, append_assoc}
use Rattle.std.specs.Prelude.{if◌then◌else◌}
use Rattle.std.proofs.lemmas.List.{append-nil}
use Rattle.vcm_untried.specs.declared.about.About.{About}
use Rattle.vcm_untried.specs.declared.rows.Row.{Row}
use Rattle.vcm_untried.specs.declared.spans.Span.{Span}
use Rattle.vcm_untried.specs.About.{same}
use Rattle.vcm_untried.specs.Spans.{alone, joins, longer, one_line, add_span, spans_from}
use Rattle.vcm_untried.specs.Laws.{Counted, lines_from, lines_of, all_lines, rows_about, SpansAreLines}

abbrev counted : ℕ → ℕ → Counted
counted line count = record { line = line; count = count }

-- no span ends before it begins
abbrev AreSpans : List Span → Type 0
AreSpans [] = Unit {0}
AreSpans (s ∷ spans) = (s.first ≤ s.last) × AreSpans spans

lines_more : (line count k next : ℕ) → next ≡ line + k → lines_from line count (suc k) ≡ lines_from line count k ++ counted next count ∷ []
lines_more line count zero next e = ap (λ n. counted n count ∷ []) (let q : line ≡ next = omega (arith, e) in q)
lines_more line count (suc k) next e = ap (λ l. counted line count ∷ l) (lines_more (suc line) count k next (omega (arith, e)))

three : (x y z : Bool) → (x && (y && z)) ≡ true → (x ≡ true) × (y ≡ true) × (z ≡ true)
three true true true e = (refl, refl, refl)
three true true false e = (let f : false ≡ true = e in absurd cc)
three true false z e = (let f : false ≡ true = e in absurd cc)
three false y z e = (let f : false ≡ true = e in absurd cc)

one_alone : (line count : ℕ) → all_lines (alone line count ∷ []) ≡ counted line count ∷ []
one_alone line count = ap (λ k. lines_from line count k ++ []) (let e : line + 1 - line ≡ suc zero = omega arith in e)

module _ (s : Span) (line count : ℕ) (is : s.first ≤ s.last) where
  longer_lines : joins s line count ≡ true → all_lines (longer s line ∷ []) ≡ lines_of s ++ counted line count ∷ []
  longer_lines e =
      let p = three (nat_eq (s.last + 1) line) (nat_eq s.count 1) (nat_eq count 1) e in
      let a = p.0 in
      let b = p.1 in
      let c = p.2 in
      let next : s.last + 1 ≡ line = grind (arith, a) in
      let once : s.count ≡ count = (let x : s.count ≡ 1 = grind (arith, b) in let y : count ≡ 1 = grind (arith, c) in omega (arith, x, y)) in
      let k = s.last + 1 - s.first in
      append-nil (lines_from s.first s.count (line + 1 - s.first))
      ∙ ap (lines_from s.first s.count) (let q : line + 1 - s.first ≡ suc k = omega (arith, next, is) in q)
      ∙ lines_more s.first s.count k line (omega (arith, next, is))
      ∙ ap (λ n. lines_of s ++ counted line n ∷ []) once

  one_lines : all_lines (one_line s line count) ≡ lines_of s ++ counted line count ∷ []
  one_lines = by (joins s line count) refl
    where
      by : (b : Bool) → joins s line count ≡ b → all_lines (if b then longer s line ∷ [] else s ∷ alone line count ∷ []) ≡ lines_of s ++ counted line count ∷ []
      by true e = longer_lines e
      by false e = ap (λ l. lines_of s ++ l) (one_alone line count)

  one_spans : AreSpans (one_line s line count)
  one_spans = by (joins s line count) refl
    where
      by : (b : Bool) → joins s line count ≡ b → AreSpans (if b then longer s line ∷ [] else s ∷ alone line count ∷ [])
      by true e =
          let a = (three (nat_eq (s.last + 1) line) (nat_eq s.count 1) (nat_eq count 1) e).0 in
          let next : s.last + 1 ≡ line = grind (arith, a) in
          (omega (arith, next, is), tt)
      by false e = (is, (omega arith, tt))

add_spans : (spans : List Span) (line count : ℕ) → AreSpans spans → AreSpans (add_span spans line count)
add_spans [] line count h = (omega arith, tt)
add_spans (s ∷ []) line count h = one_spans s line count h.0
add_spans (s ∷ t ∷ spans) line count h = (h.0, add_spans (t ∷ spans) line count h.1)

add_lines : (spans : List Span) (line count : ℕ) → AreSpans spans → all_lines (add_span spans line count) ≡ all_lines spans ++ counted line count ∷ []
add_lines [] line count h = one_alone line count
add_lines (s ∷ []) line count h = one_lines s line count h.0 ∙ ap (λ l. l ++ counted line count ∷ []) (sym (append-nil (lines_of s)))
add_lines (s ∷ t ∷ spans) line count h =
    ap (λ l. lines_of s ++ l) (add_lines (t ∷ spans) line count h.1) ∙ sym (append_assoc (lines_of s) (all_lines (t ∷ spans)) (counted line count ∷ []))

from_lines : (what : About) (spans : List Span) (rows : List Row) → AreSpans spans → all_lines (spans_from what spans rows) ≡ all_lines spans ++ rows_about what rows
from_lines what spans [] h = sym (append-nil (all_lines spans))
from_lines what spans (r ∷ rows) h = by (same r.about what) (from_lines what (add_span spans r.line r.count) rows (add_spans spans r.line r.count h)) (from_lines what spans rows h)
  where
    by : (b : Bool) → all_lines (spans_from what (add_span spans r.line r.count) rows) ≡ all_lines (add_span spans r.line r.count) ++ rows_about what rows
        → all_lines (spans_from what spans rows) ≡ all_lines spans ++ rows_about what rows
        → all_lines (spans_from what (if b then add_span spans r.line r.count else spans) rows)
        ≡ all_lines spans ++ (if b then counted r.line r.count ∷ rows_about what rows else rows_about what rows)
    by true e f =
        e ∙ ap (λ l. l ++ rows_about what rows) (add_lines spans r.line r.count h)
        ∙ append_assoc (all_lines spans) (counted r.line r.count ∷ []) (rows_about what rows)
    by false e f = f

pub spans_are_lines : SpansAreLines
spans_are_lines what rows = from_lines what [] rows tt

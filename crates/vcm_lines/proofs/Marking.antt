-- The lines of a statement's bytes, which are kept once it has more than one line.
use Rattle.std.proofs.Common.{◌≡◌, ℕ, zero, suc, ◌+◌, ◌-◌, ◌<◌, ◌≤◌, List, [], ◌∷◌, ◌++◌, length, get_or, take, replicate, Option, Some, inl, inr, refl, sym, ap, ◌∙◌, arith}
use Rattle.std.specs.Option.{option_map_or}
use Rattle.std.proofs.lemmas.Bool.{cases_lt}
use Rattle.std.proofs.lemmas.Grind.{get_or_default_zero}
use Rattle.std.proofs.lemmas.List.{append-nil, take_all, get_or-replicate, get_or_append_left, get_or-append_right, length-append}
use Rattle.vcm_lines.specs.Statements.{KeptLine, bytes_of, byte_lines, first_line, IsLogical}
use Rattle.vcm_lines.specs.Words.{AreWords}
use Rattle.vcm_lines.specs.declared.logical.Logical.{Logical}
use Rattle.vcm_lines.specs.inner.Holding.{span_of, marks_of, line_of_each, resized, marked, Holds}
use Rattle.vcm_lines.specs.declared.lines.Unfinished.{Unfinished}
use Rattle.vcm_lines.proofs.Joining.{length-byte_lines, bytes_of_push, byte_lines_push, span_push, first_or}

-- ---- reading them

nothing_kept : (ls : List ℕ) (line k : ℕ) → length ls ≤ k → get_or ls k line ≡ line
nothing_kept [] line k past = refl
nothing_kept (l ∷ ls) line zero past = absurd (omega arith)
nothing_kept (l ∷ ls) line (suc k) past = nothing_kept ls line k (omega arith)

past_kept : (ls : List ℕ) (line n k : ℕ) → k < n → length ls ≤ k → get_or ls k line ≡ get_or (line_of_each ls line n) k 0
past_kept ls line n k lt past =
    nothing_kept ls line k past
    ∙ sym (get_or-append_right ls (replicate (n - length ls) line) (length ls) k 0 refl past ∙ get_or-replicate (n - length ls) (k - length ls) line 0 (omega arith))

-- The line of a byte is the one that is kept, or else the one that stands for all.
pub line_read : (ls : List ℕ) (line n k : ℕ) → k < n → get_or ls k line ≡ get_or (line_of_each ls line n) k 0
line_read ls line n k lt = elim (cases_lt k (length ls)) [
  | inl kept ↦ get_or_default_zero ls k line kept ∙ sym (get_or_append_left ls (replicate (n - length ls) line) 0 k kept)
  | inr past ↦ past_kept ls line n k lt past
]

all_kept : (ls : List ℕ) (line n : ℕ) → length ls ≡ n → line_of_each ls line n ≡ ls
all_kept ls line n e = let none : n - length ls ≡ 0 = omega arith in rw none (append-nil ls)

none_kept : (line n : ℕ) → line_of_each [] line n ≡ replicate n line
none_kept line n = let all : n - 0 ≡ n = omega arith in rw all refl

-- What is kept of a statement, and its first line, give the line of each byte.
each_line : (r : KeptLine) (rows : List KeptLine) → line_of_each (marks_of (r ∷ rows)) r.line (length (bytes_of (r ∷ rows))) ≡ byte_lines (r ∷ rows)
each_line r [] = none_kept r.line (length (bytes_of (r ∷ []))) ∙ ap (λ (n : ℕ). replicate n r.line) (ap length (append-nil r.bytes)) ∙ sym (append-nil (replicate (length r.bytes) r.line))
each_line r (s ∷ rows) = all_kept (byte_lines (r ∷ s ∷ rows)) r.line (length (bytes_of (r ∷ s ∷ rows))) (length-byte_lines (r ∷ s ∷ rows))

-- ---- keeping them

resized_more : (ls : List ℕ) (n added line : ℕ) → n ≡ length ls + added → resized ls n line ≡ ls ++ replicate added line
resized_more ls n added line e =
    let all : take n ls ≡ ls = take_all n ls (omega arith) in
    let more : n - length ls ≡ added = omega arith in
    rw (all, more) refl

-- the lines of all bytes so far
filled : (r : KeptLine) (rows : List KeptLine) → resized (marks_of (r ∷ rows)) (length (bytes_of (r ∷ rows))) r.line ≡ byte_lines (r ∷ rows)
filled r [] =
    resized_more [] (length (bytes_of (r ∷ []))) (length r.bytes) r.line
    (let e : length (r.bytes ++ []) ≡ length r.bytes = ap length (append-nil r.bytes) in omega (arith, e))
    ∙ sym (append-nil (replicate (length r.bytes) r.line))
filled r (s ∷ rows) =
    let e = length-byte_lines (r ∷ s ∷ rows) in
    resized_more (byte_lines (r ∷ s ∷ rows)) (length (bytes_of (r ∷ s ∷ rows))) 0 r.line (omega (arith, e)) ∙ append-nil (byte_lines (r ∷ s ∷ rows))

marks_two : (q : KeptLine) (rows : List KeptLine) (r : KeptLine) → marks_of (q ∷ (rows ++ r ∷ [])) ≡ byte_lines (q ∷ (rows ++ r ∷ []))
marks_two q [] r = refl
marks_two q (s ∷ rows) r = refl

-- One kept line more is marked.
marked_more : (rows : List KeptLine) (r : KeptLine) (had n : ℕ) → had ≡ length (bytes_of rows) → n ≡ had + length r.bytes
    → marked (marks_of rows) (span_of rows) had n r.line ≡ marks_of (rows ++ r ∷ [])
marked_more [] r had n e f = refl
marked_more (q ∷ rows) r had n e f =
    let all = length-byte_lines (q ∷ rows) in
    let full : resized (marks_of (q ∷ rows)) had q.line ≡ byte_lines (q ∷ rows) = rw e (filled q rows) in
    ap (λ (ls : List ℕ). resized ls n r.line) full ∙ resized_more (byte_lines (q ∷ rows)) n (length r.bytes) r.line (omega (arith, all, e, f)) ∙ sym (byte_lines_push (q ∷ rows) r)
    ∙ sym (marks_two q rows r)

pub holds_more : (u v : Unfinished) (rows : List KeptLine) (r : KeptLine) (had n : ℕ) → had ≡ length u.bytes.items → n ≡ length v.bytes.items
    → v.bytes.items ≡ u.bytes.items ++ r.bytes → v.lines.items ≡ marked u.lines.items u.span had n r.line → v.span ≡ Some (first_or u.span r.line, r.line)
    → Holds u rows → Holds v (rows ++ r ∷ [])
holds_more u v rows r had n from to bytes lines span h =
    let before : had ≡ length (bytes_of rows) = from ∙ ap length h.bytes in
    let behind : n ≡ had + length r.bytes = to ∙ ap length bytes ∙ length-append u.bytes.items r.bytes ∙ ap (λ (k : ℕ). k + length r.bytes) (sym from) in
    record {
      bytes = bytes ∙ ap (λ (t : List ℕ). t ++ r.bytes) h.bytes ∙ sym (bytes_of_push rows r);
      lines = lines ∙ ap (λ (ls : List ℕ). marked ls u.span had n r.line) h.lines ∙ ap (λ (s : Option (ℕ × ℕ)). marked (marks_of rows) s had n r.line) h.span ∙ marked_more rows r had n before behind;
      span = span ∙ ap (λ (s : Option (ℕ × ℕ)). Some (first_or s r.line, r.line)) h.span ∙ sym (span_push rows r);
    }

spanned : (rows : List KeptLine) (first last : ℕ) → span_of rows ≡ Some (first, last) → line_of_each (marks_of rows) first (length (bytes_of rows)) ≡ byte_lines rows
spanned [] first last e = absurd cc
spanned (r ∷ rows) first last e =
    let is : r.line ≡ first = ap (λ (o : Option (ℕ × ℕ)). option_map_or (λ s. s.0) o 0) e in
    ap (λ (n : ℕ). line_of_each (marks_of (r ∷ rows)) n (length (bytes_of (r ∷ rows)))) (sym is) ∙ each_line r rows

-- The lines that are kept, and the first line, are those of the bytes.
holds_lines : (u : Unfinished) (rows : List KeptLine) (first last : ℕ) → u.span ≡ Some (first, last) → Holds u rows → line_of_each u.lines.items first (length u.bytes.items) ≡ byte_lines rows
holds_lines u rows first last e h = rw (h.lines, h.bytes) (spanned rows first last (sym h.span ∙ e))

first_is : (rows : List KeptLine) (first last : ℕ) → span_of rows ≡ Some (first, last) → first ≡ first_line rows
first_is [] first last e = absurd cc
first_is (r ∷ rows) first last e = sym (ap (λ (o : Option (ℕ × ℕ)). option_map_or (λ s. s.0) o 0) e)

-- A statement that is made of what is kept is that of its kept lines.
pub logical_made : (u : Unfinished) (rows : List KeptLine) (l : Logical) (first last : ℕ) → u.span ≡ Some (first, last) → l.line ≡ first → l.text ≡ u.bytes.items
    → AreWords (line_of_each u.lines.items first (length u.bytes.items)) u.bytes.items 0 l.words → Holds u rows → IsLogical rows l
logical_made u rows l first last e line text words h = record {
  line = line ∙ first_is rows first last (sym h.span ∙ e);
  text = text ∙ h.bytes;
  words = rw (← holds_lines u rows first last e h, text) words;
}

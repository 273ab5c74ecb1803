-- Lines as they are listed.
use Rattle.std.specs.Prelude.{ℕ, ◌+◌, Bool, ◌&&◌, nat_eq, if◌then◌else◌, List, [], ◌∷◌}
use Rattle.vcm_untried.specs.declared.about.About.{About}
use Rattle.vcm_untried.specs.declared.rows.Row.{Row}
use Rattle.vcm_untried.specs.declared.spans.Span.{Span}
use Rattle.vcm_untried.specs.About.{same}

-- one line alone
abbrev pub alone : ℕ → ℕ → Span
alone line count = record { first = line; last = line; count = count }

-- a line joins those before it: it is the next one, and each of them counts once
abbrev pub joins : Span → ℕ → ℕ → Bool
joins s line count = nat_eq (s.last + 1) line && (nat_eq s.count 1 && nat_eq count 1)

-- the same lines up to this one
abbrev pub longer : Span → ℕ → Span
longer s line = record { first = s.first; last = line; count = s.count }

-- a span, and one line more
abbrev pub one_line : Span → ℕ → ℕ → List Span
one_line s line count = if joins s line count then longer s line ∷ [] else s ∷ alone line count ∷ []

-- these lines, and one more
abbrev pub add_span : List Span → ℕ → ℕ → List Span
add_span [] line count = alone line count ∷ []
add_span (s ∷ []) line count = one_line s line count
add_span (s ∷ t ∷ spans) line count = s ∷ add_span (t ∷ spans) line count

-- these lines, and those of which rows report this
abbrev pub spans_from : About → List Span → List Row → List Span
spans_from about spans [] = spans
spans_from about spans (r ∷ rows) = spans_from about (if same r.about about then add_span spans r.line r.count else spans) rows

-- the lines of which rows report this
abbrev pub spans_of : About → List Row → List Span
spans_of about rows = spans_from about [] rows

-- Statements about texts, with the number of each text in its place.
use Rattle.std.specs.Prelude.{ℕ, ℤ, zero, suc, pos, ◌-◌, nat_eq, nat_le, nat_lt, codes, ◌&&◌, ◌||◌, not, Bool, true, false, is_some, if◌then◌else◌, List, [], ◌∷◌, ◌++◌, map, Option, Some, None}
use Rattle.std.specs.List.{list_any, list_all, filter}
use Rattle.std.specs.Str.{bytes_eq}
use Rattle.vcm_num.specs.declared.number.Kind.TheVariants as kinds
use Rattle.vcm_num.specs.declared.number.Literal.TheVariants.{Int}
use Rattle.vcm_lines.specs.declared.logical.Logical.{Logical}
use Rattle.vcm_lines.specs.declared.phrase.Cutter.TheVariants.{AtComma}
use Rattle.vcm_lines.specs.Lexemes.{Lexeme, Run, Quoted}
use Rattle.vcm_lines.specs.Cuts.{before, after}
use Rattle.vcm_expr.specs.declared.expression.Term.TheVariants.{Number, Variable}
use Rattle.vcm_expr.specs.Source.{Source, Plain}
use Rattle.vcm_events.specs.declared.event.Event.TheVariants.{CaseValue, CaseBegins}
use Rattle.vcm_events.specs.Events.{event_form, gained}
use Rattle.vcm_events.specs.Unknown.{unknown}
use Rattle.vcm_forms.specs.declared.statement.Form.{Form}
use Rattle.vcm_forms.specs.declared.statement.Form.TheVariants.{Declaration, Case}
use Rattle.vcm_heads.specs.declared.heads.Mark.TheVariants as marks
use Rattle.vcm_heads.specs.Steps.{◌>>=◌}
use Rattle.vcm_heads.specs.Heads.{past, past_word, run_at, found_or, assigned_at, major_of}
use Rattle.vcm_heads.specs.Rows.{words_of}
use Rattle.vcm_compared.specs.declared.texts.Held.{Held}
use Rattle.vcm_compared.specs.declared.texts.Texts.{Texts}
use Rattle.vcm_compared.specs.declared.puts.Part.{Part}
use Rattle.vcm_compared.specs.declared.puts.Part.TheVariants as part
use Rattle.vcm_compared.specs.declared.puts.Scan.{Scan}
use Rattle.vcm_compared.specs.declared.puts.TheConstants.{MOST_VALUES, DEEPEST}
use Rattle.vcm_compared.specs.Texts.{held_named, number_for, place_of, held_in}

-- ---- assignments

-- a number, as an expression
abbrev pub whole : ℕ → Source
whole n = Plain (Number (Int (pos n)))

-- a variable whose texts are no longer than this
abbrev pub variable_for : ℕ → Held → Option Source
variable_for most h = if nat_le h.most most then Some (Plain (Variable h.name 0)) else None

-- what is assigned to a variable whose texts have so many letters: a text, or a variable
abbrev pub value_of : Texts → ℕ → List Lexeme → Option Source
value_of t most (Quoted x ∷ []) = do
  n ← number_for t most x
  Some (whole n)
value_of t most (Run w ∷ []) = do
  h ← held_named w t.held
  variable_for most h
value_of t most ws = None

-- the value of an assignment to a variable of texts
abbrev pub assignment_of : Texts → List Lexeme → Option Source
assignment_of t ws = do
  v ← assigned_at ws
  h ← held_named v.0 t.held
  r ← past_word (codes "ASSIGN") v.1
  s ← past marks.Slash r
  value_of t h.most s

-- ---- cases

-- the text that a field is
abbrev pub text_in : List Lexeme → Option (List ℕ)
text_in (Quoted x ∷ []) = Some x
text_in ws = None

-- texts with those of fields behind them, of which there are so many at most
unfoldable pub texts_onto : ℕ → List (List ℕ) → Option (List Lexeme) → Option (List (List ℕ))
texts_onto n xs None = Some xs
texts_onto zero xs (Some ws) = None
texts_onto (suc n) xs (Some ws) = do
  x ← text_in (before AtComma ws)
  texts_onto n (xs ++ x ∷ []) (after AtComma ws)

-- the texts of a CASE of texts alone
abbrev pub case_texts : List Lexeme → Option (List (List ℕ))
case_texts ws = do
  r ← past_word (codes "CASE") ws
  fields ← past marks.Slash r
  texts_onto MOST_VALUES [] (Some fields)

-- whether a CASE has a text
abbrev pub is_text_case : List Lexeme → Bool
is_text_case ws = is_some (case_texts ws)

-- the place of a text, 0 where it has none
abbrev pub number_in : Texts → List ℕ → ℤ
number_in t x = pos (found_or 0 (place_of 1 t.literals x))

-- the values of a CASE behind the first
abbrev pub more_values : Texts → List (List ℕ) → List Form
more_values t xs = map (λ x. event_form CaseValue (number_in t x)) xs

-- a CASE of texts: the number of the first one, and the others
abbrev pub cases_by : Texts → List (List ℕ) → List Form
cases_by t [] = []
cases_by t (x ∷ xs) = Case (number_in t x) ∷ more_values t xs

-- the same of its words, or else this
abbrev pub cases_or : Texts → ℤ → Option (List (List ℕ)) → List Form
cases_or t n None = Case n ∷ []
cases_or t n (Some xs) = cases_by t xs

-- ---- choices

-- what a statement is of a SELECT
abbrev pub part_of : List ℕ → Part
part_of major =
    if bytes_eq major (codes "SELECT") then part.Opens
    else if bytes_eq major (codes "ENDSEL") then part.Closes
    else if bytes_eq major (codes "CASE") then part.Values
    else part.Rest

-- whether a variable whose texts have so many letters may be compared with a text
abbrev pub is_comparable : Texts → ℕ → List ℕ → Bool
is_comparable t most x = is_some (number_for t most x)

-- the same of these
abbrev pub are_comparable : Texts → ℕ → Option (List (List ℕ)) → Bool
are_comparable t most None = false
are_comparable t most (Some xs) = list_all (is_comparable t most) xs

-- one SELECT more is open; the deepest aren't counted
abbrev pub deeper : ℕ → ℕ
deeper n = if nat_lt n DEEPEST then suc n else n

-- behind an ENDSEL
abbrev pub closed : Scan → Scan
closed s = if nat_eq s.depth 0 then record s { is_open = false } else record s { depth = s.depth - 1 }

-- behind a CASE
abbrev pub valued : Texts → ℕ → Scan → List Lexeme → Scan
valued t most s ws =
    if nat_eq s.depth 0 then record s { is_followed = s.is_followed && are_comparable t most (case_texts ws); has_texts = s.has_texts || is_text_case ws } else s

-- behind a statement, by what it is of a SELECT
abbrev pub scanned_by : Texts → ℕ → Scan → Part → List Lexeme → Scan
scanned_by t most s part.Opens ws = record s { depth = deeper s.depth }
scanned_by t most s part.Closes ws = closed s
scanned_by t most s part.Values ws = valued t most s ws
scanned_by t most s part.Rest ws = s

-- behind a statement, as long as the SELECT is open
abbrev pub scanned : Texts → ℕ → Scan → Logical → Scan
scanned t most s l = if s.is_open then scanned_by t most s (part_of (major_of (words_of l))) (words_of l) else s

-- behind statements
abbrev pub scan_from : Texts → ℕ → Scan → List Logical → Scan
scan_from t most s [] = s
scan_from t most s (l ∷ ls) = scan_from t most (scanned t most s l) ls

-- a SELECT that begins
abbrev pub begun : Scan
begun = record { depth = 0; is_open = true; is_followed = true; has_texts = false }

-- whether a SELECT ends, and each CASE of it is one of texts that the variable may be compared with
abbrev pub is_counted_choice : Scan → Bool
is_counted_choice s = s.is_followed && not s.is_open

-- the variable with a name, where no word stands behind that
abbrev pub alone_in : Texts → List ℕ → List Lexeme → Option Held
alone_in t name [] = held_named name t.held
alone_in t name (w ∷ ws) = None

-- the variable of a SELECT
abbrev pub chosen_variable : Texts → List Lexeme → Option Held
chosen_variable t ws = do
  r ← past_word (codes "SELECT") ws
  s ← past marks.Slash r
  v ← run_at s
  alone_in t v.0 v.1

-- the value of a SELECT of something else: it isn't known where a CASE has a text
abbrev pub choice_lost : Scan → Option Source
choice_lost s = if s.has_texts then Some unknown else None

-- the value of a SELECT of a variable, with the statements behind it: the variable where each CASE is followed, and what isn't known where one has a text
abbrev pub choice_by : Texts → List Logical → Option Held → Option Source
choice_by t below None = choice_lost (scan_from t 0 begun below)
choice_by t below (Some h) =
    if is_counted_choice (scan_from t h.most begun below) then Some (Plain (Variable h.name 0)) else choice_lost (scan_from t h.most begun below)

-- the same of its words
abbrev pub choice_of : Texts → List Lexeme → List Logical → Option Source
choice_of t ws below = choice_by t below (chosen_variable t ws)

-- ---- declarations

-- whether a variable is counted
abbrev pub is_held : Texts → Held → Bool
is_held t h = is_some (held_named h.name t.held)

-- the names of variables
abbrev pub names_of : List Held → List (List ℕ)
names_of hs = map (λ h. h.name) hs

-- a declaration of whole numbers, if there are any
abbrev pub declared_as : List (List ℕ) → List Form
declared_as [] = []
declared_as (n ∷ ns) = Declaration kinds.Int (n ∷ ns) ∷ []

-- the declaration of those variables of a statement that are counted
abbrev pub declaration_of : Texts → List Lexeme → List Form
declaration_of t ws = declared_as (names_of (filter (is_held t) (held_in ws)))

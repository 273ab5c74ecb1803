-- A CASE with several values, which the language has with one alone.
use Rattle.std.specs.Prelude.{ℕ, ℤ, zero, suc, pos, ◌-ℤ◌, int_le, ◌&&◌, codes, Bool, true, false, not, is_some, if◌then◌else◌, List, [], ◌∷◌, ◌++◌, map, Option, Some, None}
use Rattle.std.specs.Str.{bytes_eq}
use Rattle.vcm_num.specs.declared.number.Literal.TheVariants.{Int}
use Rattle.vcm_lines.specs.Lexemes.{Lexeme}
use Rattle.vcm_expr.specs.declared.expression.Piece.{Piece}
use Rattle.vcm_expr.specs.declared.expression.Piece.TheVariants.{Number as Digits}
use Rattle.vcm_expr.specs.Source.{parts}
use Rattle.vcm_forms.specs.declared.statement.Form.{Form}
use Rattle.vcm_forms.specs.declared.statement.Form.TheVariants.{Case}
use Rattle.vcm_heads.specs.declared.heads.Mark.TheVariants as marks
use Rattle.vcm_heads.specs.Steps.{◌>>=◌}
use Rattle.vcm_heads.specs.Heads.{past, major_of, behind_of}
use Rattle.vcm_heads.specs.declared.rows.Row.{Row}
use Rattle.vcm_heads.specs.declared.rows.Row.TheVariants as row
use Rattle.vcm_events.specs.declared.event.Event.TheVariants.{CaseValue, CaseBegins}
use Rattle.vcm_events.specs.Events.{event_form, gained}
use Rattle.vcm_compared.specs.Puts.{is_text_case}
use Rattle.vcm_said.specs.declared.cases.TheConstants.{MOST_OTHERS}
use Rattle.vcm_said.specs.Places.{expression_at, is_minus}

-- a whole number with these parts behind it: none, or a minus
abbrev pub whole_behind : ℤ → List Piece → Option ℤ
whole_behind n [] = Some n
whole_behind n (p ∷ ps) = if is_minus (p ∷ ps) && int_le (pos 0) n then Some (pos 0 -ℤ n) else None

-- the whole number that the parts of an expression are
abbrev pub whole_in : List Piece → Option ℤ
whole_in (Digits (Int n) ∷ ps) = whole_behind n ps
whole_in ps = None

-- the value that the first of fields is, and the fields behind it
abbrev pub value_at : Option (List Lexeme) → Option (ℤ × Option (List Lexeme))
value_at fields = do
  e ← expression_at fields
  n ← whole_in (parts e.0)
  Some (n, e.1)

-- values with those of fields behind them, of which there are so many at most
unfoldable pub values_onto : ℕ → List ℤ → Option (List Lexeme) → Option (List ℤ)
values_onto n ns None = Some ns
values_onto zero ns (Some ws) = None
values_onto (suc n) ns (Some ws) = do
  v ← value_at (Some ws)
  values_onto n (ns ++ v.0 ∷ []) v.1

-- the values of fields: the first one, and the others
abbrev pub values_in : Option (List Lexeme) → Option (ℤ × List ℤ)
values_in fields = do
  v ← value_at fields
  vs ← values_onto MOST_OTHERS [] v.1
  Some (v.0, vs)

-- values that were found, or else 0 in place of texts, which have no number here
abbrev pub values_or : Option (ℤ × List ℤ) → Bool → Option (ℤ × List ℤ)
values_or (Some v) texts = Some v
values_or None true = Some (pos 0, [])
values_or None false = None

-- the values of a CASE
abbrev pub values_of : List Lexeme → Option (ℤ × List ℤ)
values_of ws = if bytes_eq (major_of ws) (codes "CASE") then values_or (values_in (past marks.Slash (behind_of ws))) (is_text_case ws) else None

-- one value more of a CASE
abbrev pub case_value : ℤ → Form
case_value n = event_form CaseValue n

-- a CASE with these values: the first one, the others, and then its block
abbrev pub several : Option (ℤ × List ℤ) → List Form
several None = []
several (Some v) = Case v.0 ∷ (map case_value v.1 ++ gained CaseBegins ∷ [])

-- CASE and DFTCAS, of the language or with several values
abbrev pub case_said : Option Form → Option (ℤ × List ℤ) → List Form
case_said (Some f) ns = f ∷ gained CaseBegins ∷ []
case_said None ns = several ns

-- whether a statement that is none of the language is refused: it shapes the program, and is no CASE of several values or of texts
abbrev pub is_shaping : Row → List Lexeme → Bool
is_shaping row.Shape ws = true
is_shaping row.Case ws = not (is_some (values_of ws))
is_shaping r ws = false

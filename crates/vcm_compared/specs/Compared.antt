-- What becomes of statements about variables of texts: they are put as statements about whole numbers.
use Rattle.std.specs.Prelude.{ℕ, nat_eq, ◌||◌, Bool, true, false, is_some, if◌then◌else◌, List, [], ◌∷◌, ◌++◌, map, take, drop, Option, Some, None}
use Rattle.std.specs.List.{list_any, flat_map}
use Rattle.vcm_lines.specs.declared.logical.Logical.{Logical}
use Rattle.vcm_lines.specs.Lexemes.{Lexeme}
use Rattle.vcm_forms.specs.declared.statement.Form.{Form}
use Rattle.vcm_forms.specs.declared.statement.Form.TheVariants as form
use Rattle.vcm_forms.specs.declared.statement.Statement.{Statement}
use Rattle.vcm_heads.specs.Heads.{found_or}
use Rattle.vcm_heads.specs.Rows.{words_of}
use Rattle.vcm_compared.specs.declared.texts.Texts.{Texts}
use Rattle.vcm_compared.specs.Texts.{char_at}
use Rattle.vcm_compared.specs.Tests.{test_of}
use Rattle.vcm_compared.specs.Puts.{assignment_of, is_text_case, case_texts, cases_or, choice_of, declaration_of}
use Rattle.vcm_compared.specs.Counted.{counted}

-- whether a statement declares variables of texts, or is a CASE of texts
abbrev pub is_about_texts : Logical → Bool
is_about_texts l = is_some (char_at (words_of l)) || is_text_case (words_of l)

-- whether a text has such a statement
abbrev pub has_texts : List Logical → Bool
has_texts ls = list_any is_about_texts ls

-- whether a statement declares nothing: one that declares variables of texts alone
abbrev pub declares_nothing : Form → Bool
declares_nothing (form.Declaration k []) = true
declares_nothing f = false

-- what becomes of a declaration
abbrev pub put_declared : Texts → List Lexeme → Form → List Form
put_declared t ws f = if declares_nothing f then declaration_of t ws else f ∷ []

-- what becomes of a statement, by its words and the statements behind it
abbrev pub put_form : Texts → List Lexeme → List Logical → Form → List Form
put_form t ws ls (form.Assignment target e) = form.Assignment target (found_or e (assignment_of t ws)) ∷ []
put_form t ws ls (form.Test e) = form.Test (found_or e (test_of t ws)) ∷ []
put_form t ws ls (form.Choose e) = form.Choose (found_or e (choice_of t ws ls)) ∷ []
put_form t ws ls (form.Case n) = cases_or t n (case_texts ws)
put_form t ws ls f = put_declared t ws f

-- the statements from the one on a line on
abbrev pub from_line : ℕ → List Logical → List Logical
from_line line [] = []
from_line line (l ∷ ls) = if nat_eq l.line line then l ∷ ls else from_line line ls

-- what becomes of a statement that the first of these lines says
abbrev pub compared_form : Texts → List Logical → Form → List Form
compared_form t [] f = f ∷ []
compared_form t (l ∷ ls) f = put_form t (words_of l) ls f

-- forms as statements of a line
abbrev pub on_line : ℕ → List Form → List Statement
on_line line fs = map (λ f. record { line = line; form = f }) fs

-- what becomes of a statement
abbrev pub compared_statement : Texts → List Logical → Statement → List Statement
compared_statement t ls s = on_line s.line (compared_form t (from_line s.line ls) s.form)

-- what becomes of statements, of which the first two open the text
abbrev pub compared_all : Texts → List Logical → List Statement → List Statement
compared_all t ls ss = take 2 ss ++ flat_map (compared_statement t ls) (drop 2 ss)

-- the same where a text speaks of texts
abbrev pub compared_if : Bool → List (List ℕ) → List Logical → List Statement → List Statement
compared_if false given ls ss = ss
compared_if true given ls ss = compared_all (counted given ls) ls ss

-- the statements that the lines of a text say, where variables of texts that are compared with literals alone are whole numbers; with texts that are given as answers
abbrev pub compared : List (List ℕ) → List Logical → List Statement → List Statement
compared given ls ss = compared_if (has_texts ls) given ls ss

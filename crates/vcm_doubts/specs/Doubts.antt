-- What of a text is read in two ways.
use Rattle.std.specs.Prelude.{ℕ, ◌-◌, ◌&&◌, ◌||◌, not, nat_eq, codes, Bool, true, false, if◌then◌else◌, List, [], ◌∷◌, ◌++◌, map, length, take, Option, Some, None}
use Rattle.std.specs.List.{list_any, filter, flat_map, starts_with}
use Rattle.std.specs.Str.{bytes_eq}
use Rattle.vcm_lines.specs.declared.logical.Logical.{Logical}
use Rattle.vcm_lines.specs.Bytes.{upper}
use Rattle.vcm_lines.specs.Lexemes.{Lexeme, Run, Quoted, Open}
use Rattle.vcm_forms.specs.declared.statement.Parameter.{Parameter}
use Rattle.vcm_forms.specs.declared.statement.Form.{Form}
use Rattle.vcm_forms.specs.declared.statement.Form.TheVariants.{Declaration, Assignment, Query, Test, Otherwise, TestEnd, Repeat, RepeatEnd, Choose, Case, CaseEnd, Default, ChooseEnd, Feature, Measure, Report, Shift, Rotation, Restore, Mark, Leap, Call, Macro, MacroEnd}
use Rattle.vcm_forms.specs.declared.statement.Statement.{Statement}
use Rattle.vcm_macro.specs.Order.{is_open_behind}
use Rattle.vcm_heads.specs.declared.rows.Row.{Row}
use Rattle.vcm_heads.specs.declared.rows.Row.TheVariants.{Other}
use Rattle.vcm_heads.specs.Heads.{major_of, behind_of, first_field}
use Rattle.vcm_heads.specs.Rows.{row_in, words_of, own_behind}
use Rattle.vcm_doubts.specs.declared.loose.Place.{Place}
use Rattle.vcm_doubts.specs.declared.loose.Place.TheVariants.{InLabel, BehindHead, Elsewhere}
use Rattle.vcm_doubts.specs.Spellings.{spelled_twice}

-- a jump label: its name, and the blocks that it stands in, the outermost first
pub record Marked : Type 0 where
  pub name : List ℕ
  pub blocks : List ℕ

-- what a text leaves in doubt: the names that it spells in two ways, whether a parameter of a macro is one of these, the variables that its macros share with
-- other programs, the variables that statements within macros set, whether a parameter is one of these, the parameters that macros have in quotes, and without them in no label, and
-- whether a word of it may split a block; and the jump labels that it has
pub record Doubts : Type 0 where
  pub spelled : List (List ℕ)
  pub twofold : Bool
  pub shared : List (List ℕ)
  pub set : List (List ℕ)
  pub parameters : Bool
  pub loose : List (List ℕ)
  pub splits : Bool
  pub labels : List Marked

-- whether a name is one of these
abbrev pub is_among : List (List ℕ) → List ℕ → Bool
is_among names name = list_any (bytes_eq name) names

-- ---- variables that are set within macros

-- the variable that a statement sets, if it sets one
abbrev pub sets : Form → List (List ℕ)
sets (Assignment t value) = t.name ∷ []
sets (Query t side l word) = t.name ∷ []
sets (Repeat r) = r.variable.name ∷ []
sets f = []

-- these names, where a MACRO is open
abbrev pub where_open : Bool → List (List ℕ) → List (List ℕ)
where_open true names = names
where_open false names = []

-- the variables that statements within macros set
abbrev pub set_within : Bool → List Statement → List (List ℕ)
set_within opened [] = []
set_within opened (s ∷ ss) = where_open opened (sets s.form) ++ set_within (is_open_behind opened s.form) ss

-- whether one of the parameters is among these names
abbrev pub is_one_set : List (List ℕ) → List Parameter → Bool
is_one_set names ps = list_any (λ p. is_among names p.name) ps

-- whether a statement is a MACRO with a parameter among these names
abbrev pub sets_parameter : List (List ℕ) → Form → Bool
sets_parameter names (Macro name ps) = is_one_set names ps
sets_parameter names f = false

-- whether one of the statements is
abbrev pub sets_parameters : List (List ℕ) → List Statement → Bool
sets_parameters names ss = list_any (λ s. sets_parameter names s.form) ss

-- ---- parameters in quotes

-- the text of a word in quotes, in upper case
abbrev pub quoted_by : Lexeme → List (List ℕ)
quoted_by (Quoted x) = map upper x ∷ []
quoted_by w = []

-- the parameters in quotes of the macro that is open behind a statement
abbrev pub quoted_behind : List (List ℕ) → List Lexeme → List (List ℕ)
quoted_behind names ws =
    if bytes_eq (major_of ws) (codes "MACRO") then flat_map quoted_by ws
    else if bytes_eq (major_of ws) (codes "ENDMAC") then []
    else names

-- whether a word begins labels, as F of F(NAME): in their parentheses a parameter in quotes stands for a name
abbrev pub begins_label : List ℕ → Bool
begins_label w =
    bytes_eq w (codes "F") || (bytes_eq w (codes "FA") || (bytes_eq w (codes "D") || (bytes_eq w (codes "DA") || (bytes_eq w (codes "DAT")
    || (bytes_eq w (codes "M") || (bytes_eq w (codes "S") || (bytes_eq w (codes "T") || bytes_eq w (codes "TA"))))))))

-- where the word behind one stands
abbrev pub place_behind : Place → Lexeme → Place
place_behind p (Run w) = if begins_label w then BehindHead else Elsewhere
place_behind BehindHead Open = InLabel
place_behind p w = Elsewhere

-- a word that is among these names, and stands in no label
abbrev pub loose_by : List (List ℕ) → Place → Lexeme → List (List ℕ)
loose_by names InLabel w = []
loose_by names p (Run w) = if is_among names w then w ∷ [] else []
loose_by names p w = []

-- the words from such a place on that are among these names, and stand in no label
abbrev pub loose_words : List (List ℕ) → Place → List Lexeme → List (List ℕ)
loose_words names p [] = []
loose_words names p (w ∷ ws) = loose_by names p w ++ loose_words names (place_behind p w) ws

-- the parameters that a macro has in quotes, and whose names stand in its body without them, in no label
abbrev pub loose_from : List (List ℕ) → List Logical → List (List ℕ)
loose_from names [] = []
loose_from names (l ∷ ls) = loose_words names Elsewhere (words_of l) ++ loose_from (quoted_behind names (words_of l)) ls

-- ---- variables that are shared

-- whether words declare variables that other programs and macros share
abbrev pub is_sharing : List Lexeme → Bool
is_sharing ws =
    bytes_eq (major_of ws) (codes "DECL")
    && (bytes_eq (first_field (behind_of ws)) (codes "GLOBAL") || bytes_eq (first_field (behind_of ws)) (codes "COMMON"))

-- the lines of statements that declare such variables
abbrev pub sharing_lines : List Logical → List ℕ
sharing_lines [] = []
sharing_lines (l ∷ ls) = (if is_sharing (words_of l) then l.line ∷ [] else []) ++ sharing_lines ls

-- the variables of a declaration
abbrev pub declared_by : Form → List (List ℕ)
declared_by (Declaration kind names) = names
declared_by f = []

-- the variables that statements within macros declare on these lines
abbrev pub shared_within : List ℕ → Bool → List Statement → List (List ℕ)
shared_within lines opened [] = []
shared_within lines opened (s ∷ ss) =
    (if list_any (nat_eq s.line) lines then where_open opened (declared_by s.form) else []) ++ shared_within lines (is_open_behind opened s.form) ss

-- ---- words that may split a block

-- how words begin that split a block in other languages
abbrev pub splitters : List (List ℕ)
splitters = codes "ELSE" ∷ codes "WHEN" ∷ codes "UNTIL" ∷ codes "LOOP" ∷ codes "NEXT" ∷ codes "END" ∷ []

-- whether a word begins as one of them
abbrev pub begins_as_splitter : List ℕ → Bool
begins_as_splitter word = list_any (starts_with nat_eq word) splitters

-- whether there are no words
abbrev pub is_nothing : List Lexeme → Bool
is_nothing [] = true
is_nothing (w ∷ ws) = false

-- whether words that go by no row may split a block: they begin so, or their first stands alone
abbrev pub is_splitting : Row → List Lexeme → Bool
is_splitting Other ws = begins_as_splitter (major_of ws) || is_nothing (behind_of ws)
is_splitting row ws = false

-- whether one of these statements may split a block; the machine's own say nothing
abbrev pub splits_from : Bool → List Logical → Bool
splits_from own [] = false
splits_from own (l ∷ ls) =
    (not own && is_splitting (row_in (words_of l)) (words_of l)) || splits_from (own_behind own (words_of l)) ls

-- ---- jump labels

-- the blocks without the innermost
abbrev pub without_last : List ℕ → List ℕ
without_last blocks = take (length blocks - 1) blocks

-- the blocks that are open behind a statement on a line, each by the line at which it begins; a macro stands in no other block
abbrev pub open_behind : List ℕ → ℕ → Form → List ℕ
open_behind blocks line (Test c) = blocks ++ line ∷ []
open_behind blocks line (Choose c) = blocks ++ line ∷ []
open_behind blocks line (Repeat r) = blocks ++ line ∷ []
open_behind blocks line (Case n) = blocks ++ line ∷ []
open_behind blocks line Default = blocks ++ line ∷ []
open_behind blocks line Otherwise = without_last blocks ++ line ∷ []
open_behind blocks line TestEnd = without_last blocks
open_behind blocks line ChooseEnd = without_last blocks
open_behind blocks line RepeatEnd = without_last blocks
open_behind blocks line CaseEnd = without_last blocks
open_behind blocks line (Macro name ps) = line ∷ []
open_behind blocks line MacroEnd = 0 ∷ []
open_behind blocks line f = blocks

-- the jump label that a statement in these blocks is
abbrev pub marked_by : List ℕ → Form → List Marked
marked_by blocks (Mark name) = record { name = name; blocks = blocks } ∷ []
marked_by blocks f = []

-- the jump labels of statements, the first in these blocks
abbrev pub marked_from : List ℕ → List Statement → List Marked
marked_from blocks [] = []
marked_from blocks (s ∷ ss) = marked_by blocks s.form ++ marked_from (open_behind blocks s.line s.form) ss

-- outside of macros all stands in one block, that of line 0
abbrev pub outermost : List ℕ
outermost = 0 ∷ []

-- whether a label is the one of this name, in one of these blocks
abbrev pub is_reached : List ℕ → List ℕ → Marked → Bool
is_reached blocks name l = bytes_eq name l.name && starts_with nat_eq blocks l.blocks

-- whether a jump in these blocks goes to a label in one of them: none leads into a block
abbrev pub is_in_reach : List Marked → List ℕ → List ℕ → Bool
is_in_reach labels blocks name = list_any (is_reached blocks name) labels

-- ---- names

-- the names of parameters
abbrev pub parameter_names : List Parameter → List (List ℕ)
parameter_names ps = map (λ p. p.name) ps

-- the name that a statement has: of a variable, a feature, a frame, a macro or a jump label
abbrev pub name_of : Form → Option (List ℕ)
name_of (Assignment t value) = Some t.name
name_of (Repeat r) = Some r.variable.name
name_of (Feature l p axis) = Some l
name_of (Measure l) = Some l
name_of (Report side l) = Some l
name_of (Shift l os) = Some l
name_of (Rotation l axis n) = Some l
name_of (Restore l) = Some l
name_of (Mark name) = Some name
name_of (Leap name) = Some name
name_of (Call name args) = Some name
name_of f = None

-- a name, or none
abbrev pub listed_name : Option (List ℕ) → List (List ℕ)
listed_name None = []
listed_name (Some name) = name ∷ []

-- the names that a statement has: one, those of a declaration, of a question, or of a macro and its parameters
abbrev pub names_by : Form → List (List ℕ)
names_by (Declaration kind names) = names
names_by (Query t side l word) = t.name ∷ l ∷ []
names_by (Macro name ps) = name ∷ parameter_names ps
names_by f = listed_name (name_of f)

-- the names that statements have
abbrev pub names_in : List Statement → List (List ℕ)
names_in ss = flat_map (λ s. names_by s.form) ss

-- the names of statements that a text spells in two ways; its words may be spelled as one likes
abbrev pub twice_in : List ℕ → List Statement → List (List ℕ)
twice_in text ss = filter (is_among (names_in ss)) (spelled_twice text)

-- ---- all of it

-- what a text leaves in doubt, whose statements say this
unfoldable pub doubts_of : List ℕ → List Logical → List Statement → Doubts
doubts_of text ls ss = record {
  spelled = twice_in text ss;
  twofold = sets_parameters (twice_in text ss) ss;
  shared = shared_within (sharing_lines ls) false ss;
  set = set_within false ss;
  parameters = sets_parameters (set_within false ss) ss;
  loose = loose_from [] ls;
  splits = splits_from false ls;
  labels = marked_from outermost ss;
}

-- What may stand at one place of a statement, each as a reader of the words that stand there.
use Rattle.std.specs.Prelude.{ℕ, ◌&&◌, ◌||◌, nat_le, if◌then◌else◌, Bool, codes, List, [], ◌∷◌, length, Option, Some, Result, Ok, Err}
use Rattle.std.specs.List.{list_all}
use Rattle.std.specs.Str.{bytes_eq}
use Rattle.vcm_num.specs.Words.{look_up}
use Rattle.vcm_num.specs.declared.number.Kind.{Kind}
use Rattle.vcm_num.specs.declared.number.Kind.TheVariants.{Int as IntKind, Real as RealKind, Bool as BoolKind}
use Rattle.vcm_lines.specs.declared.fault.FaultCode.{FaultCode}
use Rattle.vcm_lines.specs.declared.fault.FaultCode.TheVariants.{BadSyntax, Unsupported}
use Rattle.vcm_lines.specs.Lexemes.{Lexeme, Run, Quoted, Open, Close, is_spelled}
use Rattle.vcm_lines.specs.Cuts.{last_of, front_of}
use Rattle.vcm_spec.specs.Results.{◌>>=◌}
use Rattle.vcm_spec.specs.TextBytes.{is_text}
use Rattle.vcm_spec.specs.declared.words.FrameAxis.{FrameAxis}
use Rattle.vcm_spec.specs.declared.words.FrameAxis.TheVariants as axes
use Rattle.vcm_spec.specs.declared.words.Setting.{Setting}
use Rattle.vcm_spec.specs.declared.words.Setting.TheVariants as settings
use Rattle.vcm_spec.specs.declared.words.Source.{Source as FeatureSource}
use Rattle.vcm_spec.specs.declared.words.Source.TheVariants.{Nominal, Actual}
use Rattle.vcm_items.specs.NameBytes.{is_name, is_variable_name}
use Rattle.vcm_expr.specs.Source.{Source}
use Rattle.vcm_expr.specs.Parsing.{expr_of}
use Rattle.vcm_syntax.specs.declared.heads.Letter.{Letter}
use Rattle.vcm_syntax.specs.declared.heads.Letter.TheVariants as letters
use Rattle.vcm_syntax.specs.declared.heads.Prefix.{Prefix}
use Rattle.vcm_syntax.specs.declared.heads.Prefix.TheVariants.{Bare, Assigned, Titled}
use Rattle.vcm_forms.specs.declared.statement.Target.{Target}
use Rattle.vcm_forms.specs.declared.statement.Coordinates.{Coordinates}
use Rattle.vcm_forms.specs.Statements.{as_read}
use Rattle.vcm_lines.specs.Fault.{or_fault}
use Rattle.vcm_syntax.specs.Readers.{alone, field}

-- ---- before the major word

-- nothing
abbrev pub bare_of : Prefix → Result (Unit {0}) FaultCode
bare_of Bare = Ok tt
bare_of _ = Err BadSyntax

-- the label of a title with this letter
abbrev pub titled_of : Letter → Prefix → Result (List ℕ) FaultCode
titled_of letters.F (Titled (Some letters.F) l) = Ok l
titled_of letters.D (Titled (Some letters.D) l) = Ok l
titled_of letters.M (Titled (Some letters.M) l) = Ok l
titled_of letters.S (Titled (Some letters.S) l) = Ok l
titled_of letters.V (Titled (Some letters.V) l) = Ok l
titled_of _ _ = Err BadSyntax

-- the variable that gets a value
abbrev pub target_of : Prefix → Result Target FaultCode
target_of (Assigned v) = Ok (as_read v)
target_of _ = Err BadSyntax

-- ---- words

-- this very word; the code is that of another word
abbrev pub word_of : List ℕ → FaultCode → List Lexeme → Result (Unit {0}) FaultCode
word_of wanted other (Run w ∷ ws) = if bytes_eq w wanted then alone tt ws else Err other
word_of wanted other _ = Err BadSyntax

-- a word that stands for something; the code is that of another word
abbrev pub choice_of : {A : Type 0} → (List ℕ → Option A) → FaultCode → List Lexeme → Result A FaultCode
choice_of find other (Run w ∷ ws) = do
  x ← or_fault other (find w)
  alone x ws
choice_of find other _ = Err BadSyntax

-- one word, whichever it is
abbrev pub single_of : List Lexeme → Result (Unit {0}) FaultCode
single_of (Run w ∷ []) = Ok tt
single_of _ = Err BadSyntax

-- the words of the kinds of variables
abbrev pub kind_word : List ℕ → Option Kind
kind_word w = look_up ((codes "INTGR", IntKind) ∷ (codes "LONG", IntKind) ∷ (codes "REAL", RealKind) ∷ (codes "DOUBLE", RealKind)
    ∷ (codes "BOOL", BoolKind) ∷ []) w

-- a kind; other kinds are left out
abbrev pub kind_of : List Lexeme → Result Kind FaultCode
kind_of ws = choice_of kind_word Unsupported ws

-- the words of the settings
abbrev pub setting_word : List ℕ → Option Setting
setting_word w = look_up ((codes "APPRCH", settings.Approach) ∷ (codes "RETRCT", settings.Retract) ∷ (codes "SEARCH", settings.Search)
    ∷ (codes "DEPTH", settings.Depth) ∷ []) w

-- a setting; other settings are left out
abbrev pub setting_of : List Lexeme → Result Setting FaultCode
setting_of ws = choice_of setting_word Unsupported ws

-- the words of the axes about which a frame is turned
abbrev pub axis_word : List ℕ → Option FrameAxis
axis_word w = look_up ((codes "XAXIS", axes.X) ∷ (codes "YAXIS", axes.Y) ∷ (codes "ZAXIS", axes.Z) ∷ []) w

-- the axis of a turn
abbrev pub axis_of : List Lexeme → Result FrameAxis FaultCode
axis_of ws = choice_of axis_word BadSyntax ws

-- the word of Cartesian coordinates; that of polar ones is left out
abbrev pub system_of : List Lexeme → Result (Unit {0}) FaultCode
system_of (Run w ∷ ws) =
    if bytes_eq w (codes "CART") then alone tt ws else Err (if bytes_eq w (codes "POL") then Unsupported else BadSyntax)
system_of _ = Err BadSyntax

-- whether a word is that of a scope; all scopes mean the same
abbrev pub is_scope : List ℕ → Bool
is_scope w = bytes_eq w (codes "COMMON") || bytes_eq w (codes "GLOBAL") || bytes_eq w (codes "LOCAL")

-- the fields behind the word of a scope, which may be left out
abbrev pub unscoped : List (List Lexeme) → List (List Lexeme)
unscoped ((Run w ∷ []) ∷ fs) = if is_scope w then fs else (Run w ∷ []) ∷ fs
unscoped fs = fs

-- the lengths of GOTO: the fields behind the word of Cartesian coordinates, where it stands and three or more follow it
abbrev pub lengths_in : List (List Lexeme) → List (List Lexeme)
lengths_in ((Run w ∷ []) ∷ fs) = if nat_le 3 (length fs) && bytes_eq w (codes "CART") then fs else (Run w ∷ []) ∷ fs
lengths_in fs = fs

-- ---- texts

-- one text, whichever it is
abbrev pub any_text_of : List Lexeme → Result (Unit {0}) FaultCode
any_text_of (Quoted t ∷ []) = Ok tt
any_text_of _ = Err BadSyntax

-- what TEXT shows: a text of at most 1,024 bytes, each of which may stand in one
abbrev pub message_of : List Lexeme → Result (List ℕ) FaultCode
message_of (Quoted t ∷ []) = if is_text t then Ok t else Err BadSyntax
message_of _ = Err BadSyntax

-- fields that aren't used: anything, but no dotted word that there isn't
abbrev pub unused_of : List (List Lexeme) → Result (Unit {0}) FaultCode
unused_of fs = if list_all (list_all is_spelled) fs then Ok tt else Err BadSyntax

-- ---- names

-- a variable's name
abbrev pub variable_of : List Lexeme → Result (List ℕ) FaultCode
variable_of (Run w ∷ []) = if is_variable_name w then Ok w else Err BadSyntax
variable_of _ = Err BadSyntax

-- the variable that counts rounds
abbrev pub index_of : List Lexeme → Result Target FaultCode
index_of ws = do
  v ← variable_of ws
  Ok (as_read v)

-- a label in parentheses
abbrev pub aim_of : List Lexeme → Result (List ℕ) FaultCode
aim_of (Open ∷ Run l ∷ Close ∷ []) = if is_name l then Ok l else Err BadSyntax
aim_of _ = Err BadSyntax

-- a label behind this letter, in parentheses
abbrev pub named_of : List ℕ → List Lexeme → Result (List ℕ) FaultCode
named_of letter (Run w ∷ Open ∷ Run l ∷ Close ∷ []) = if bytes_eq w letter && is_name l then Ok l else Err BadSyntax
named_of letter _ = Err BadSyntax

-- the letters of a feature as it was declared, and as it was measured
abbrev pub source_word : List ℕ → Option FeatureSource
source_word w = look_up ((codes "F", Nominal) ∷ (codes "FA", Actual) ∷ []) w

-- a feature as it was declared or as it was measured, and its label
abbrev pub source_of : List Lexeme → Result (FeatureSource × List ℕ) FaultCode
source_of (Run w ∷ Open ∷ Run l ∷ Close ∷ []) = do
  s ← or_fault BadSyntax (source_word w)
  if is_name l then Ok (s, l) else Err BadSyntax
source_of _ = Err BadSyntax

-- ---- expressions

-- an expression before a closing parenthesis, which is the last word
abbrev pub closed_of : Lexeme → List Lexeme → Result Source FaultCode
closed_of Close ws = expr_of (front_of ws)
closed_of _ ws = do
  _ ← expr_of ws
  Err BadSyntax

-- an expression in parentheses
abbrev pub test_of : List Lexeme → Result Source FaultCode
test_of (Open ∷ ws) = closed_of (last_of ws) ws
test_of _ = Err BadSyntax

-- a place, its coordinates in the first three fields
abbrev pub spot_of : List (List Lexeme) → Result Coordinates FaultCode
spot_of fs = do
  x ← (field fs 0 >>= expr_of)
  y ← (field fs 1 >>= expr_of)
  z ← (field fs 2 >>= expr_of)
  Ok (record { x = x; y = y; z = z })

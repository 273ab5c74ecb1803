-- Tests of variables of texts, with the number of each text in its place.
use Rattle.std.specs.Prelude.{ℕ, zero, suc, pos, codes, Bool, true, false, if◌then◌else◌, List, [], ◌∷◌, Option, Some, None}
use Rattle.std.specs.Str.{bytes_eq}
use Rattle.vcm_num.specs.Words.{look_up}
use Rattle.vcm_num.specs.declared.number.Literal.TheVariants.{Int}
use Rattle.vcm_spec.specs.declared.expression.Relation.TheVariants.{Equal, NotEqual}
use Rattle.vcm_spec.specs.declared.expression.BinaryOp.{BinaryOp}
use Rattle.vcm_spec.specs.declared.expression.BinaryOp.TheVariants as op
use Rattle.vcm_lines.specs.Dotted.{dotted_words}
use Rattle.vcm_lines.specs.declared.dotted.DottedWord.{DottedWord}
use Rattle.vcm_lines.specs.declared.dotted.DottedWord.TheVariants.{Compare}
use Rattle.vcm_lines.specs.Lexemes.{Lexeme, Run, Dotted, Quoted, Close}
use Rattle.vcm_lines.specs.Cuts.{front_of, last_of}
use Rattle.vcm_expr.specs.declared.expression.Term.TheVariants.{Number, Variable}
use Rattle.vcm_expr.specs.Source.{Source}
use Rattle.vcm_events.specs.Joined.{joined, pair}
use Rattle.vcm_heads.specs.declared.heads.Mark.TheVariants as marks
use Rattle.vcm_heads.specs.Steps.{◌>>=◌}
use Rattle.vcm_heads.specs.Heads.{past, past_word, is_mark}
use Rattle.vcm_compared.specs.declared.texts.Held.{Held}
use Rattle.vcm_compared.specs.declared.texts.Texts.{Texts}
use Rattle.vcm_compared.specs.declared.relations.TheConstants.{MOST_RELATIONS}
use Rattle.vcm_compared.specs.Texts.{held_named, number_for}

-- ---- one relation

-- the first word, and those behind it
abbrev pub first_of : List Lexeme → Option (Lexeme × List Lexeme)
first_of [] = None
first_of (w ∷ ws) = Some (w, ws)

-- the relation of a dotted word: equal or not
abbrev pub comparing : Option DottedWord → Option BinaryOp
comparing (Some (Compare Equal)) = Some (op.Compare Equal)
comparing (Some (Compare NotEqual)) = Some (op.Compare NotEqual)
comparing w = None

-- the same of any word
abbrev pub comparer : Lexeme → Option BinaryOp
comparer (Dotted bs) = comparing (look_up dotted_words bs)
comparer w = None

-- the variable and the text of a relation, on either side
abbrev pub sides : Lexeme → Lexeme → Option (List ℕ × List ℕ)
sides (Run v) (Quoted x) = Some (v, x)
sides (Quoted x) (Run v) = Some (v, x)
sides a b = None

-- a variable that is compared with a number
abbrev pub against : BinaryOp → Held → ℕ → Source
against o h n = pair o (Variable h.name 0) (Number (Int (pos n)))

-- a variable that is compared with a text: with its number
abbrev pub related_to : Texts → BinaryOp → List ℕ → Held → Option Source
related_to t o x h = do
  n ← number_for t h.most x
  Some (against o h n)

-- the same of a name
abbrev pub related : Texts → BinaryOp → List ℕ → List ℕ → Option Source
related t o v x = held_named v t.held >>= related_to t o x

-- the relation that three words are
abbrev pub relation : Texts → (a d b : Lexeme) → Option Source
relation t a d b = do
  o ← comparer d
  p ← sides a b
  related t o p.0 p.1

-- the relation that words begin with, and the words behind it
abbrev pub relation_at : Texts → List Lexeme → Option (Source × List Lexeme)
relation_at t ws = do
  a ← first_of ws
  d ← first_of a.1
  b ← first_of d.1
  e ← relation t a.0 d.0 b.0
  Some (e, b.1)

-- ---- several relations

-- the same in parentheses
abbrev pub enclosed_at : Texts → List Lexeme → Option (Source × List Lexeme)
enclosed_at t ws = do
  r ← past marks.Open ws
  e ← relation_at t r
  s ← past marks.Close e.1
  Some (e.0, s)

-- something that is found, or else another thing
abbrev pub either : {A : Type 0} → (a b : Option A) → Option A
either None b = b
either (Some a) b = Some a

-- a relation, in parentheses or without
abbrev pub item_at : Texts → List Lexeme → Option (Source × List Lexeme)
item_at t ws = either (enclosed_at t ws) (relation_at t ws)

-- the words behind this dotted word
abbrev pub past_dotted : List ℕ → List Lexeme → Option (List Lexeme)
past_dotted word (Dotted bs ∷ ws) = if bytes_eq bs word then Some ws else None
past_dotted word ws = None

-- one relation more behind this word, joined with those in front, and the words behind it
abbrev pub link : List ℕ → BinaryOp → Texts → Source → List Lexeme → Option (Source × List Lexeme)
link word o t e ws = do
  r ← past_dotted word ws
  i ← item_at t r
  j ← joined o e i.0
  Some (j, i.1)

-- relations that are joined by one word, up to the end of the words, of which there are so many at most
unfoldable pub chained : ℕ → List ℕ → BinaryOp → Texts → Source → List Lexeme → Option Source
chained n word o t e [] = Some e
chained zero word o t e (w ∷ ws) = None
chained (suc n) word o t e (w ∷ ws) = do
  l ← link word o t e (w ∷ ws)
  chained n word o t l.0 l.1

-- the first of them, with the others
abbrev pub chain_by : List ℕ → BinaryOp → Texts → List Lexeme → Option Source
chain_by word o t ws = do
  i ← item_at t ws
  chained MOST_RELATIONS word o t i.0 i.1

-- relations that are joined by .AND. alone, or by .OR. alone
abbrev pub chain : Texts → List Lexeme → Option Source
chain t ws = either (chain_by (codes ".AND.") op.And t ws) (chain_by (codes ".OR.") op.Or t ws)

-- what stands between parentheses
abbrev pub inside : List Lexeme → Option (List Lexeme)
inside ws = do
  r ← past marks.Open ws
  if is_mark marks.Close (last_of r) then Some (front_of r) else None

-- the same within parentheses
abbrev pub tested : Texts → List Lexeme → Option Source
tested t ws = either (chain t ws) (inside ws >>= chain t)

-- the test of an IF that compares variables of texts with texts
abbrev pub test_of : Texts → List Lexeme → Option Source
test_of t ws = do
  r ← past_word (codes "IF") ws
  s ← past marks.Slash r
  tested t s

-- Worked examples: each rule, and each reason for which a variable isn't counted.
use Rattle.std.specs.Prelude.{◌≡◌, refl, ℕ, zero, suc, pos, ◌+◌, codes, Bool, true, false, is_some, List, [], ◌∷◌, ◌++◌, length, Option, Some, None}
use Rattle.std.specs.List.{flat_map}
use Rattle.vcm_num.specs.declared.number.Kind.TheVariants as kinds
use Rattle.vcm_num.specs.declared.number.Literal.TheVariants.{Int}
use Rattle.vcm_spec.specs.declared.expression.Relation.TheVariants.{Equal}
use Rattle.vcm_spec.specs.declared.expression.BinaryOp.TheVariants as op
use Rattle.vcm_lines.specs.declared.logical.Logical.{Logical}
use Rattle.vcm_lines.specs.declared.logical.Word.{Word}
use Rattle.vcm_lines.specs.declared.logical.WordKind.{WordKind}
use Rattle.vcm_lines.specs.declared.logical.WordKind.TheVariants as kind
use Rattle.vcm_expr.specs.declared.expression.Term.TheVariants.{Number, Variable}
use Rattle.vcm_expr.specs.Source.{Source, Plain}
use Rattle.vcm_events.specs.Joined.{pair}
use Rattle.vcm_events.specs.Unknown.{unknown}
use Rattle.vcm_forms.specs.Statements.{as_read}
use Rattle.vcm_forms.specs.declared.statement.Form.{Form}
use Rattle.vcm_forms.specs.declared.statement.Form.TheVariants as form
use Rattle.vcm_forms.specs.declared.statement.Statement.{Statement}
use Rattle.vcm_compared.specs.Texts.{number_of, held_named, held_from}
use Rattle.vcm_compared.specs.Tests.{chained}
use Rattle.vcm_compared.specs.Puts.{texts_onto}
use Rattle.vcm_compared.specs.Counted.{counted, narrowed, are_clean}
use Rattle.vcm_compared.specs.Compared.{compared}

-- ---- statements

-- a word, a mark, a dotted word and a text
abbrev pub word : List ℕ → WordKind × List ℕ
word bs = (kind.Run, bs)

abbrev pub mark : List ℕ → WordKind × List ℕ
mark bs = (kind.Mark, bs)

abbrev pub dotted : List ℕ → WordKind × List ℕ
dotted bs = (kind.Dotted, bs)

abbrev pub text : List ℕ → WordKind × List ℕ
text bs = (kind.Quoted, 39 ∷ (bs ++ 39 ∷ []))

-- words, the first of which begins at this byte
abbrev pub placed : ℕ → List (WordKind × List ℕ) → List Word
placed n [] = []
placed n (w ∷ ws) = record { start = n; end = n + length w.1; line = 1; kind = w.0 } ∷ placed (n + length w.1) ws

-- a statement of words, on a line
abbrev pub line_of : ℕ → List (WordKind × List ℕ) → Logical
line_of n ws = record { line = n; text = flat_map (λ w. w.1) ws; words = placed 0 ws }

-- DECL/CHAR,10,V
abbrev pub declares : Logical
declares =
    line_of 3 (word (codes "DECL") ∷ mark (codes "/") ∷ word (codes "CHAR") ∷ mark (codes ",") ∷ word (codes "10") ∷ mark (codes ",") ∷ word (codes "V") ∷ [])

-- V=ASSIGN/ and a text
abbrev pub assigns : ℕ → List ℕ → Logical
assigns n t = line_of n (word (codes "V") ∷ mark (codes "=") ∷ word (codes "ASSIGN") ∷ mark (codes "/") ∷ text t ∷ [])

-- IF/(V.EQ. and a text)
abbrev pub tests : ℕ → List ℕ → Logical
tests n t = line_of n (word (codes "IF") ∷ mark (codes "/") ∷ mark (codes "(") ∷ word (codes "V") ∷ dotted (codes ".EQ.") ∷ text t ∷ mark (codes ")") ∷ [])

-- SELECT/V, a CASE of a text, and ENDSEL
abbrev pub selects : ℕ → Logical
selects n = line_of n (word (codes "SELECT") ∷ mark (codes "/") ∷ word (codes "V") ∷ [])

abbrev pub cases : ℕ → WordKind × List ℕ → Logical
cases n t = line_of n (word (codes "CASE") ∷ mark (codes "/") ∷ t ∷ [])

abbrev pub ends : ℕ → Logical
ends n = line_of n (word (codes "ENDSEL") ∷ [])

-- M=MACRO, and ENDMAC
abbrev pub begins : ℕ → List ℕ → Logical
begins n m = line_of n (word m ∷ mark (codes "=") ∷ word (codes "MACRO") ∷ [])

abbrev pub ends_macro : ℕ → Logical
ends_macro n = line_of n (word (codes "ENDMAC") ∷ [])

-- whether V is counted in these lines
abbrev pub counts : List Logical → Bool
counts ls = is_some (held_named (codes "V") (counted [] ls).held)

-- ---- numbers

pub first : number_of (codes "NO" ∷ []) (assigns 4 (codes "A") ∷ tests 5 (codes "YES") ∷ tests 6 (codes "A") ∷ []) (codes "YES") ≡ 2
first = refl

pub given_behind : number_of (codes "NO" ∷ []) (assigns 4 (codes "A") ∷ tests 5 (codes "YES") ∷ []) (codes "NO") ≡ 3
given_behind = refl

-- ---- rules

abbrev pub yes : Logical
yes = tests 4 (codes "YES")

pub tested : compared [] (declares ∷ yes ∷ [])
    (record { line = 1; form = form.Opening } ∷ record { line = 1; form = form.Measures } ∷ record { line = 3; form = form.Declaration kinds.Int [] }
    ∷ record { line = 4; form = form.Test unknown } ∷ [])
    ≡ record { line = 1; form = form.Opening } ∷ record { line = 1; form = form.Measures } ∷ record { line = 3; form = form.Declaration kinds.Int (codes "V" ∷ []) }
    ∷ record { line = 4; form = form.Test (pair (op.Compare Equal) (Variable (codes "V") 0) (Number (Int (pos 1)))) } ∷ []
unfolding held_from chained texts_onto are_clean narrowed
tested = refl

pub compared_with_texts : counts (declares ∷ assigns 4 (codes "A") ∷ tests 5 (codes "B") ∷ []) ≡ true
unfolding held_from chained texts_onto are_clean narrowed
compared_with_texts = refl

pub chosen : counts (declares ∷ selects 4 ∷ cases 5 (text (codes "A")) ∷ ends 6 ∷ []) ≡ true
unfolding held_from chained texts_onto are_clean narrowed
chosen = refl

-- a variable that is declared in one macro of two
pub declared_in_one : counts (begins 1 (codes "M") ∷ declares ∷ ends_macro 4 ∷ begins 5 (codes "N") ∷ ends_macro 7 ∷ []) ≡ true
unfolding held_from chained texts_onto are_clean narrowed
declared_in_one = refl

-- ---- what isn't counted

-- a variable that is declared twice
pub declared_twice : counts (declares ∷ declares ∷ []) ≡ false
unfolding held_from chained texts_onto are_clean narrowed
declared_twice = refl

-- a variable that is declared in two macros
pub declared_in_macros : counts (begins 1 (codes "M") ∷ declares ∷ ends_macro 4 ∷ begins 5 (codes "N") ∷ declares ∷ ends_macro 7 ∷ []) ≡ false
unfolding held_from chained texts_onto are_clean narrowed
declared_in_macros = refl

-- a text that has more letters than the variable
pub too_long : counts (declares ∷ tests 4 (codes "ELEVEN BYTES") ∷ []) ≡ false
unfolding held_from chained texts_onto are_clean narrowed
too_long = refl

-- a CASE of a number
pub other_case : counts (declares ∷ selects 4 ∷ cases 5 (word (codes "1")) ∷ ends 6 ∷ []) ≡ false
unfolding held_from chained texts_onto are_clean narrowed
other_case = refl

-- a SELECT that doesn't end
pub open_choice : counts (declares ∷ selects 4 ∷ cases 5 (text (codes "A")) ∷ []) ≡ false
unfolding held_from chained texts_onto are_clean narrowed
open_choice = refl

-- a CALL that names it, also in quotes and in other capitals
pub called : counts (declares ∷ line_of 4 (word (codes "CALL") ∷ mark (codes "/") ∷ word (codes "M") ∷ mark (codes "(") ∷ word (codes "X") ∷ mark (codes ")") ∷ mark (codes ",") ∷ text (codes "v") ∷ []) ∷ []) ≡ false
unfolding held_from chained texts_onto are_clean narrowed
called = refl

-- a text that a macro may have another text for
pub parameter : counts (declares ∷ line_of 4 (word (codes "M") ∷ mark (codes "(") ∷ word (codes "X") ∷ mark (codes ")") ∷ mark (codes "=") ∷ word (codes "MACRO") ∷ mark (codes "/") ∷ text (codes "P") ∷ []) ∷ tests 5 (codes "P") ∷ []) ≡ false
unfolding held_from chained texts_onto are_clean narrowed
parameter = refl

-- a loop over it
pub looped : counts (declares ∷ line_of 4 (word (codes "DO") ∷ mark (codes "/") ∷ word (codes "V") ∷ []) ∷ []) ≡ false
unfolding held_from chained texts_onto are_clean narrowed
looped = refl

-- statements of the machine's own
pub own : counts (declares ∷ line_of 4 (word (codes "DMIS") ∷ mark (codes "/") ∷ word (codes "OFF") ∷ []) ∷ []) ≡ false
unfolding held_from chained texts_onto are_clean narrowed
own = refl

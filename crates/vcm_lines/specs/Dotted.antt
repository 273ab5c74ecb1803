-- The dotted words: relations, logical operators and the two truth values.
use Rattle.std.specs.Prelude.{ℕ, true, false, codes, List, [], ◌∷◌}
use Rattle.vcm_spec.specs.declared.expression.Relation.TheVariants.{Equal, NotEqual, Less, LessEqual, Greater, GreaterEqual}
use Rattle.vcm_lines.specs.declared.dotted.DottedWord.{DottedWord}
use Rattle.vcm_lines.specs.declared.dotted.DottedWord.TheVariants.{Compare, Not, And, Or, Truth}

-- each dotted word, and what it says
abbrev pub dotted_words : List (List ℕ × DottedWord)
dotted_words =
    (codes ".EQ.", Compare Equal)
    ∷ (codes ".NE.", Compare NotEqual)
    ∷ (codes ".LT.", Compare Less)
    ∷ (codes ".LE.", Compare LessEqual)
    ∷ (codes ".GT.", Compare Greater)
    ∷ (codes ".GE.", Compare GreaterEqual)
    ∷ (codes ".NOT.", Not)
    ∷ (codes ".AND.", And)
    ∷ (codes ".OR.", Or)
    ∷ (codes ".TRUE.", Truth true)
    ∷ (codes ".FALSE.", Truth false)
    ∷ []

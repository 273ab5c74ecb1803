-- Symbols that are only looked at.
use Rattle.std.specs.Prelude.{⊤, List, [], ◌∷◌, Option, Some, None}
use Rattle.vcm_lines.specs.declared.phrase.Token.{Token}
use Rattle.vcm_lines.specs.Lexemes.{Lexeme, lexeme}
use Rattle.vcm_expr.specs.declared.symbol.Symbol.{Symbol}
use Rattle.vcm_expr.specs.declared.symbol.Symbol.TheVariants.{Operand, Dash, Cross, Star, Slash, NotWord, AndWord}
use Rattle.vcm_expr.specs.declared.symbol.Symbol.TheVariants.{OrWord, RelationWord, Opening, Closing, Other}

-- no mark stands first: nothing does, or an operand
abbrev pub NoMark : List Symbol → Type 0
NoMark [] = ⊤
NoMark (Operand t ∷ ps) = ⊤
NoMark (Dash ∷ ps) = ⊥
NoMark (Cross ∷ ps) = ⊥
NoMark (Star ∷ ps) = ⊥
NoMark (Slash ∷ ps) = ⊥
NoMark (NotWord ∷ ps) = ⊥
NoMark (AndWord ∷ ps) = ⊥
NoMark (OrWord ∷ ps) = ⊥
NoMark (RelationWord r ∷ ps) = ⊥
NoMark (Opening ∷ ps) = ⊥
NoMark (Closing ∷ ps) = ⊥
NoMark (Other ∷ ps) = ⊥

-- the words of which the first, if there is one, was looked at
abbrev pub words_from : Option Token → List Lexeme → List Lexeme
words_from None behind = []
words_from (Some t) behind = lexeme t ∷ behind

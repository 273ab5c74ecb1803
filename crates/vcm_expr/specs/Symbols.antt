-- The words of a statement as symbols of an expression.
use Rattle.std.specs.Prelude.{ℕ, if◌then◌else◌, List, map, Option, Some, None, Result, Ok, Err}
use Rattle.vcm_num.specs.Words.{look_up}
use Rattle.vcm_num.specs.declared.number.Literal.{Literal}
use Rattle.vcm_num.specs.declared.read.NumFault.{NumFault}
use Rattle.vcm_num.specs.declared.read.NumFault.TheVariants.{BadNumber, TooFine, TooLarge}
use Rattle.vcm_lines.specs.declared.fault.FaultCode.{FaultCode}
use Rattle.vcm_lines.specs.declared.fault.FaultCode.TheVariants.{BadSyntax, TooFine as TooFineCode, NumberTooLarge}
use Rattle.vcm_lines.specs.Lexemes.{Lexeme, Run, Number, Dotted, Quoted, Slash as SlashMark, Comma, Equals}
use Rattle.vcm_lines.specs.Lexemes.{Open, Close, Plus, Minus, Star as StarMark, Other as OtherMark}
use Rattle.vcm_lines.specs.Dotted.{dotted_words}
use Rattle.vcm_lines.specs.declared.dotted.DottedWord.{DottedWord}
use Rattle.vcm_lines.specs.declared.dotted.DottedWord.TheVariants.{Compare, Not, And, Or, Truth as TruthWord}
use Rattle.vcm_expr.specs.declared.expression.Term.{Term}
use Rattle.vcm_expr.specs.declared.expression.Term.TheVariants.{Number as Figure, Truth, Variable}
use Rattle.vcm_expr.specs.declared.symbol.Symbol.{Symbol}
use Rattle.vcm_expr.specs.declared.symbol.Symbol.TheVariants.{Operand, Dash, Cross, Star, Slash, NotWord, AndWord}
use Rattle.vcm_expr.specs.declared.symbol.Symbol.TheVariants.{OrWord, RelationWord, Opening, Closing, Other}
use Rattle.vcm_expr.specs.Digits.{read_of}
use Rattle.vcm_items.specs.NameBytes.{is_variable_name}

-- what digits mean, or the code of what is wrong with them
abbrev pub number_term : Result Literal NumFault → Result Term FaultCode
number_term (Ok x) = Ok (Figure x)
number_term (Err BadNumber) = Err BadSyntax
number_term (Err TooFine) = Err TooFineCode
number_term (Err TooLarge) = Err NumberTooLarge

-- what a run means: a name, outside macros as far as is known here, or a number
abbrev pub run_term : List ℕ → Result Term FaultCode
run_term bs = if is_variable_name bs then Ok (Variable bs 0) else number_term (read_of bs)

-- what a dotted word is in an expression
abbrev pub dotted_symbol : Option DottedWord → Symbol
dotted_symbol (Some (Compare r)) = RelationWord r
dotted_symbol (Some Not) = NotWord
dotted_symbol (Some And) = AndWord
dotted_symbol (Some Or) = OrWord
dotted_symbol (Some (TruthWord b)) = Operand (Ok (Truth b))
dotted_symbol None = Other

-- what a word of a statement is in an expression
abbrev pub symbol_of : Lexeme → Symbol
symbol_of (Run bs) = Operand (run_term bs)
symbol_of (Number bs) = Operand (number_term (read_of bs))
symbol_of (Dotted bs) = dotted_symbol (look_up dotted_words bs)
symbol_of (Quoted t) = Other
symbol_of SlashMark = Slash
symbol_of Comma = Other
symbol_of Equals = Other
symbol_of Open = Opening
symbol_of Close = Closing
symbol_of Plus = Cross
symbol_of Minus = Dash
symbol_of StarMark = Star
symbol_of OtherMark = Other

-- what the words of a statement are, one by one
abbrev pub symbols_of : List Lexeme → List Symbol
symbols_of ws = map symbol_of ws

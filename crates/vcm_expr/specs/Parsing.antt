-- Which words are an expression, and the rules that words break; and how words are read from the left, up to the leftmost fault.
use Rattle.std.specs.Prelude.{◌≡◌, ◌⊎◌, ℕ, true, List, [], ◌∷◌, Result, Ok, Err}
use Rattle.vcm_lines.specs.declared.fault.FaultCode.{FaultCode}
use Rattle.vcm_lines.specs.declared.fault.FaultCode.TheVariants.{BadSyntax}
use Rattle.vcm_lines.specs.declared.fault.SourceFault.{SourceFault}
use Rattle.vcm_lines.specs.Fault.{no_memory}
use Rattle.vcm_lines.specs.Lexemes.{Lexeme}
use Rattle.vcm_spec.specs.Results.{◌>>=◌}
use Rattle.vcm_expr.specs.declared.symbol.Symbol.{Symbol}
use Rattle.vcm_expr.specs.Symbols.{symbols_of}
use Rattle.vcm_expr.specs.Source.{Source, is_small}
use Rattle.vcm_expr.specs.Grammar.{SpellsExpr, BreaksSymbols}
use Rattle.vcm_expr.specs.Parser.{disjunction_by, expression}
use Rattle.vcm_num.specs.declared.limits.TheConstants.{DEEPEST_EXPRESSION}

-- the words spell this expression, and it is within the limits
abbrev pub IsExpr : List Lexeme → Source → Type 0
IsExpr ws e = SpellsExpr (symbols_of ws) e × (is_small e ≡ true)

-- the words break the rule with this code
abbrev pub BreaksExpr : List Lexeme → FaultCode → Type 0
BreaksExpr ws code = BreaksSymbols (symbols_of ws) code

-- the refusal tells this line, and the code of a rule that is broken
abbrev pub At : ℕ → (FaultCode → Type 0) → SourceFault → Type 0
At line P f = (f.line ≡ line) × P f.code

-- what was read, if no symbol is left behind it
abbrev pub all_read : Source → List Symbol → Result Source FaultCode
all_read t [] = Ok t
all_read t (k ∷ r) = Err BadSyntax

-- the expression that symbols spell, or the code of the leftmost fault
unfoldable pub read_symbols : List Symbol → Result Source FaultCode
read_symbols ps = disjunction_by is_small (expression is_small DEEPEST_EXPRESSION) ps >>= λ p. all_read p.tree p.rest

-- the expression that words spell, or the code of the leftmost fault
abbrev pub expr_of : List Lexeme → Result Source FaultCode
expr_of ws = read_symbols (symbols_of ws)

-- a call returned what the words say, as it is seen by view, or memory ran out; a refusal tells this line
abbrev pub ReadAs : {X Y : Type 0} → ℕ → (X → Y) → Result X SourceFault → Result Y FaultCode → Type 0
ReadAs line view (Ok x) says = says ≡ Ok (view x)
ReadAs line view (Err f) says = (f ≡ no_memory) ⊎ ((f.line ≡ line) × (says ≡ Err f.code))

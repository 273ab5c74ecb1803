-- The grammar of expressions: expressions with their parentheses, and the symbols that spell them.
use Rattle.std.specs.Prelude.{◌≡◌, ℕ, ◌+◌, ◌-◌, ◌<◌, ◌≤◌, ◌⊎◌, max, false, List, [], ◌∷◌, ◌++◌, Result, Ok, Err}
use Rattle.vcm_lines.specs.declared.fault.FaultCode.{FaultCode}
use Rattle.vcm_lines.specs.declared.fault.FaultCode.TheVariants.{BadSyntax, TooFine, NumberTooLarge, TooDeep}
use Rattle.vcm_spec.specs.declared.expression.BinaryOp.{BinaryOp}
use Rattle.vcm_spec.specs.declared.expression.BinaryOp.TheVariants.{Add, Sub, Mul, Div, And, Or, Compare}
use Rattle.vcm_expr.specs.declared.expression.Prefix.{Prefix}
use Rattle.vcm_expr.specs.declared.expression.Prefix.TheVariants.{Minus, Plus, Not}
use Rattle.vcm_expr.specs.declared.expression.Term.{Term}
use Rattle.vcm_expr.specs.declared.expression.Term.TheVariants.{Truth}
use Rattle.vcm_expr.specs.declared.symbol.Symbol.{Symbol}
use Rattle.vcm_expr.specs.declared.symbol.Symbol.TheVariants.{Operand, Dash, Cross, Star, Slash, NotWord}
use Rattle.vcm_expr.specs.declared.symbol.Symbol.TheVariants.{AndWord, OrWord, RelationWord, Opening, Closing}
use Rattle.vcm_expr.specs.Source.{Source, Plain, Prefixed, Pair, is_small}
use Rattle.vcm_num.specs.declared.limits.TheConstants.{DEEPEST_EXPRESSION}

-- an expression as it is written, with its parentheses; a leaf is a term, or a number that has no value, and why
pub data Written : Type 0 where
  Leaf : Result Term FaultCode → Written
  Paren : Written → Written
  Signed : Prefix → Written → Written
  Joined : BinaryOp → Written → Written → Written

-- how an operator is written
abbrev pub word_of : BinaryOp → Symbol
word_of Add = Cross
word_of Sub = Dash
word_of Mul = Star
word_of Div = Slash
word_of And = AndWord
word_of Or = OrWord
word_of (Compare r) = RelationWord r

-- how a sign or a negation is written
abbrev pub sign_word : Prefix → Symbol
sign_word Minus = Dash
sign_word Plus = Cross
sign_word Not = NotWord

-- how tight an operator binds: the higher, the tighter
abbrev pub level : BinaryOp → ℕ
level Or = 1
level And = 2
level (Compare r) = 4
level Add = 5
level Sub = 5
level Mul = 6
level Div = 6

-- how tight a sign or a negation binds
abbrev pub sign_level : Prefix → ℕ
sign_level Not = 3
sign_level Minus = 7
sign_level Plus = 7

-- how tight the left operand has to bind: operators of one level group from the left, and a relation isn't chained
abbrev pub left_level : BinaryOp → ℕ
left_level (Compare r) = 5
left_level op = level op

-- the symbols that spell an expression
abbrev pub spelled : Written → List Symbol
spelled (Leaf o) = Operand o ∷ []
spelled (Paren s) = Opening ∷ (spelled s ++ Closing ∷ [])
spelled (Signed op s) = sign_word op ∷ spelled s
spelled (Joined op a b) = spelled a ++ (word_of op ∷ spelled b)

-- the leaf is a term, or a number that is too fine or too large
abbrev pub IsOperand : Result Term FaultCode → Type 0
IsOperand (Ok t) = Unit {0}
IsOperand (Err TooFine) = Unit {0}
IsOperand (Err NumberTooLarge) = Unit {0}
IsOperand (Err _) = ⊥

-- the expression may stand where an operand of at least this level is asked for; in parentheses any may
abbrev pub Fits : ℕ → Written → Type 0
Fits l (Leaf o) = IsOperand o
Fits l (Paren s) = Fits 1 s
Fits l (Signed op s) = (l ≤ sign_level op) × Fits (sign_level op) s
Fits l (Joined op a b) = (l ≤ level op) × Fits (left_level op) a × Fits (level op + 1) b

-- the expression without its parentheses; a number without a value stands as a truth value
abbrev pub meant : Written → Source
meant (Leaf (Ok t)) = Plain t
meant (Leaf (Err c)) = Plain (Truth false)
meant (Paren s) = meant s
meant (Signed op s) = Prefixed op (meant s)
meant (Joined op a b) = Pair op (meant a) (meant b)

-- each leaf has a value
abbrev pub IsRead : Written → Type 0
IsRead (Leaf (Ok t)) = Unit {0}
IsRead (Leaf (Err c)) = ⊥
IsRead (Paren s) = IsRead s
IsRead (Signed op s) = IsRead s
IsRead (Joined op a b) = IsRead a × IsRead b

-- how deep its parentheses nest
abbrev pub nesting : Written → ℕ
nesting (Leaf o) = 0
nesting (Paren s) = nesting s + 1
nesting (Signed op s) = nesting s
nesting (Joined op a b) = max (nesting a) (nesting b)

-- the symbols spell this expression, with parentheses at most 32 deep
pub record SpellsExpr (ps : List Symbol) (e : Source) : Type 0 where
  pub written : Written
  pub symbols : ps ≡ spelled written
  pub fits : Fits 1 written
  pub read : IsRead written
  pub nests : nesting written ≤ DEEPEST_EXPRESSION
  pub is : meant written ≡ e

-- parentheses nest deeper than 32, or the expression is deeper than 32 or has more than 512 nodes
abbrev pub IsDeep : Written → Type 0
IsDeep s = (DEEPEST_EXPRESSION < nesting s) ⊎ (is_small (meant s) ≡ false)

-- how many parentheses are open after these symbols, where n were open before
abbrev pub open_after : ℕ → List Symbol → ℕ
open_after n [] = n
open_after n (Opening ∷ r) = open_after (n + 1) r
open_after n (Closing ∷ r) = open_after (n - 1) r
open_after n (_ ∷ r) = open_after n r

-- more than 32 parentheses are open at once
pub record NestsDeep (ps : List Symbol) : Type 0 where
  pub front : List Symbol
  pub back : List Symbol
  pub cut : ps ≡ front ++ back
  pub deep : DEEPEST_EXPRESSION < open_after 0 front

-- some of the symbols, side by side, spell an expression that is too deep or too large
pub record HasBigPart (ps : List Symbol) : Type 0 where
  pub front : List Symbol
  pub back : List Symbol
  pub written : Written
  pub cut : ps ≡ front ++ (spelled written ++ back)
  pub fits : Fits 1 written
  pub big : is_small (meant written) ≡ false

-- one of the symbols is a number that has no value, for this reason
pub record HasFlaw (c : FaultCode) (ps : List Symbol) : Type 0 where
  pub front : List Symbol
  pub back : List Symbol
  pub cut : ps ≡ front ++ (Operand (Err c) ∷ back)

-- the symbols break the rule with this code. Bad syntax: no expression is spelled so, whatever its numbers and however deep. Too deep: more
-- than 32 parentheses are open at once or some symbols spell too large an expression, and every expression that is spelled so is too deep
abbrev pub BreaksSymbols : List Symbol → FaultCode → Type 0
BreaksSymbols ps BadSyntax = (s : Written) → ps ≡ spelled s → Fits 1 s → ⊥
BreaksSymbols ps TooFine = HasFlaw TooFine ps
BreaksSymbols ps NumberTooLarge = HasFlaw NumberTooLarge ps
BreaksSymbols ps TooDeep = (NestsDeep ps ⊎ HasBigPart ps) × ((s : Written) → ps ≡ spelled s → Fits 1 s → IsDeep s)
BreaksSymbols ps _ = ⊥

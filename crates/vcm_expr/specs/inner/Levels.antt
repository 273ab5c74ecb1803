-- What each function of the parser reads.
use Rattle.std.specs.Prelude.{◌≡◌, ℕ, List, [], ◌∷◌, Option, Some, None, Result, Ok, Err}
use Rattle.vcm_lines.specs.declared.fault.FaultCode.{FaultCode}
use Rattle.vcm_lines.specs.declared.fault.SourceFault.{SourceFault}
use Rattle.vcm_spec.specs.declared.expression.BinaryOp.{BinaryOp}
use Rattle.vcm_expr.specs.declared.expression.Prefix.{Prefix}
use Rattle.vcm_expr.specs.declared.symbol.Symbol.{Symbol}
use Rattle.vcm_expr.specs.declared.symbol.Symbol.TheVariants.{Closing}
use Rattle.vcm_expr.specs.declared.levels.Chain.{Chain}
use Rattle.vcm_expr.specs.declared.levels.Chain.TheVariants.{Disjunction, Conjunction, Sum, Product}
use Rattle.vcm_expr.specs.declared.levels.Front.{Front}
use Rattle.vcm_expr.specs.declared.levels.Front.TheVariants.{Negation, Sign}
use Rattle.vcm_expr.specs.declared.expression.Size.{Size}
use Rattle.vcm_expr.specs.declared.expression.Term.{Term}
use Rattle.vcm_expr.specs.Source.{Source, Plain, Prefixed, is_small, IsSize}
use Rattle.vcm_expr.specs.Parser.{Taken, Parser, and_parse, phrase, made, closed, primary_by, sign_of, negation_of}
use Rattle.vcm_expr.specs.Parser.{product_op, sum_op, and_op, or_op, signed_by, product_by, sum_by}
use Rattle.vcm_expr.specs.Parser.{relation_by, negation_by, conjunction_by, disjunction_by, expression}

-- what follows an opening parenthesis
abbrev pub group_in : ℕ → Parser
group_in room ts = and_parse (expression is_small room ts) closed

-- a leaf or a group, where so many pairs of parentheses may be opened
abbrev pub primary_in : ℕ → Parser
primary_in room = primary_by (expression is_small room)

-- a relation
abbrev pub relation_in : ℕ → Parser
relation_in room = relation_by is_small (expression is_small room)

-- what has signs or negations before it
abbrev pub front_in : Front → ℕ → Parser
front_in Sign room = signed_by is_small (expression is_small room)
front_in Negation room = negation_by is_small (expression is_small room)

-- what may stand before
abbrev pub front_of : Front → Symbol → Option Prefix
front_of Sign = sign_of
front_of Negation = negation_of

-- what they stand before
abbrev pub fronted_in : Front → ℕ → Parser
fronted_in Sign room = primary_in room
fronted_in Negation room = relation_in room

-- what has one sign or negation more before it
abbrev pub signed_in : Prefix → Front → ℕ → Parser
signed_in sign front room ts = and_parse (front_in front room ts) (λ t r. made is_small (Prefixed sign t) r)

-- a chain
abbrev pub chain_in : Chain → ℕ → Parser
chain_in Disjunction room = disjunction_by is_small (expression is_small room)
chain_in Conjunction room = conjunction_by is_small (expression is_small room)
chain_in Sum room = sum_by is_small (expression is_small room)
chain_in Product room = product_by is_small (expression is_small room)

-- its operators
abbrev pub chain_op : Chain → Symbol → Option BinaryOp
chain_op Disjunction = or_op
chain_op Conjunction = and_op
chain_op Sum = sum_op
chain_op Product = product_op

-- its operands
abbrev pub link_in : Chain → ℕ → Parser
link_in Disjunction room = conjunction_by is_small (expression is_small room)
link_in Conjunction room = negation_by is_small (expression is_small room)
link_in Sum room = product_by is_small (expression is_small room)
link_in Product room = signed_by is_small (expression is_small room)

-- the word that stands first is found, and these follow it
abbrev pub NextOf : {X : Type 0} → (Symbol → Option X) → List Symbol → X → List Symbol → Type 0
NextOf find [] x after = ⊥
NextOf find (k ∷ r) x after = (find k ≡ Some x) × (r ≡ after)

-- none stands first
abbrev pub NoNext : {X : Type 0} → (Symbol → Option X) → List Symbol → Type 0
NoNext find [] = Unit {0}
NoNext find (k ∷ r) = find k ≡ None

-- no closing parenthesis stands first
abbrev pub NotClosing : List Symbol → Type 0
NotClosing [] = Unit {0}
NotClosing (Closing ∷ r) = ⊥
NotClosing (_ ∷ r) = Unit {0}

-- an operand that stands alone
abbrev pub lone_of : Result Term FaultCode → Result Source FaultCode
lone_of (Ok t) = Ok (Plain t)
lone_of (Err c) = Err c

-- the refusal tells this line, and the fault that the reading has
abbrev pub Told : ℕ → Result Taken FaultCode → SourceFault → Type 0
Told line o f = (f.line ≡ line) × (o ≡ Err f.code)

-- an expression of this size was read, which stands on those that were there, and these symbols are left
pub record Reads (o : Result Taken FaultCode) (before after : List Source) (size : Size) (rest : List Symbol) : Type 0 where
  pub tree : Source
  pub read : o ≡ phrase tree rest
  pub there : after ≡ tree ∷ before
  pub sized : IsSize size tree

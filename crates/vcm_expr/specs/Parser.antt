-- The parser as a function on lists of symbols.
use Rattle.std.specs.Prelude.{ℕ, zero, suc, Bool, true, false, List, [], ◌∷◌, length, Option, Some, None, Result, Ok, Err}
use Rattle.vcm_lines.specs.declared.fault.FaultCode.{FaultCode}
use Rattle.vcm_lines.specs.declared.fault.FaultCode.TheVariants.{BadSyntax, TooDeep}
use Rattle.vcm_spec.specs.declared.expression.BinaryOp.{BinaryOp}
use Rattle.vcm_spec.specs.declared.expression.BinaryOp.TheVariants.{Add, Sub, Mul, Div, And, Or, Compare}
use Rattle.vcm_expr.specs.declared.expression.Prefix.{Prefix}
use Rattle.vcm_expr.specs.declared.expression.Prefix.TheVariants.{Minus, Plus, Not}
use Rattle.vcm_expr.specs.declared.expression.Term.{Term}
use Rattle.vcm_expr.specs.declared.symbol.Symbol.{Symbol}
use Rattle.vcm_expr.specs.declared.symbol.Symbol.TheVariants.{Operand, Dash, Cross, Star, Slash, NotWord}
use Rattle.vcm_expr.specs.declared.symbol.Symbol.TheVariants.{AndWord, OrWord, RelationWord, Opening, Closing}
use Rattle.vcm_expr.specs.Source.{Source, Plain, Prefixed, Pair}

-- an expression and the symbols after it
pub record Taken : Type 0 where
  pub tree : Source
  pub rest : List Symbol

-- what is read at the front of a list of symbols, or a fault
abbrev pub Parser : Type 0
Parser = List Symbol → Result Taken FaultCode

-- what comes after an expression, or its fault
abbrev pub and_parse : Result Taken FaultCode → (Source → List Symbol → Result Taken FaultCode) → Result Taken FaultCode
and_parse (Ok p) go = go p.tree p.rest
and_parse (Err e) go = Err e

-- this expression is read, and these symbols are left
abbrev pub phrase : Source → List Symbol → Result Taken FaultCode
phrase t r = Ok (record { tree = t; rest = r })

-- an expression that is made, if it is within the limits
abbrev pub made_if : Bool → Source → List Symbol → Result Taken FaultCode
made_if true t r = phrase t r
made_if false t r = Err TooDeep

-- a closing parenthesis
abbrev pub closed : Source → List Symbol → Result Taken FaultCode
closed t (Closing ∷ r) = phrase t r
closed t _ = Err BadSyntax

-- a leaf, or what is wrong with it
abbrev pub leaf_by : Result Term FaultCode → List Symbol → Result Taken FaultCode
leaf_by (Ok t) r = phrase (Plain t) r
leaf_by (Err c) r = Err c

-- a leaf, or an expression in parentheses
abbrev pub primary_by : Parser → Parser
primary_by inner (Operand o ∷ r) = leaf_by o r
primary_by inner (Opening ∷ r) = and_parse (inner r) closed
primary_by inner _ = Err BadSyntax

-- the signs
abbrev pub sign_of : Symbol → Option Prefix
sign_of Dash = Some Minus
sign_of Cross = Some Plus
sign_of _ = None

-- the negation
abbrev pub negation_of : Symbol → Option Prefix
negation_of NotWord = Some Not
negation_of _ = None

-- a case on what is found
abbrev pub found_if : {X : Type 0} → Option X → (X → Result Taken FaultCode) → Result Taken FaultCode → Result Taken FaultCode
found_if None go stop = stop
found_if (Some x) go stop = go x

-- the operators of products
abbrev pub product_op : Symbol → Option BinaryOp
product_op Star = Some Mul
product_op Slash = Some Div
product_op _ = None

-- those of sums
abbrev pub sum_op : Symbol → Option BinaryOp
sum_op Cross = Some Add
sum_op Dash = Some Sub
sum_op _ = None

-- the relations
abbrev pub relation_op : Symbol → Option BinaryOp
relation_op (RelationWord r) = Some (Compare r)
relation_op _ = None

-- the conjunction
abbrev pub and_op : Symbol → Option BinaryOp
and_op AndWord = Some And
and_op _ = None

-- the disjunction
abbrev pub or_op : Symbol → Option BinaryOp
or_op OrWord = Some Or
or_op _ = None

-- what is small enough is passed, since limits are of no account where one asks what a list of symbols spells
module _ (small : Source → Bool) where
  -- an expression that is made, if it is small enough
  abbrev pub made : Source → List Symbol → Result Taken FaultCode
  made t r = made_if (small t) t r

  -- an operand with signs or negations before it
  abbrev pub fronted_by : Parser → (Symbol → Option Prefix) → Parser
  fronted_by operand front_of [] = operand []
  fronted_by operand front_of (k ∷ r) =
      found_if (front_of k) (λ op. and_parse (fronted_by operand front_of r) (λ t s. made (Prefixed op t) s)) (operand (k ∷ r))

  -- signs or negations before what is read
  abbrev pub with_fronts : List Prefix → Result Taken FaultCode → Result Taken FaultCode
  with_fronts [] o = o
  with_fronts (op ∷ ops) o = and_parse (with_fronts ops o) (λ t s. made (Prefixed op t) s)

  -- more operands, each after an operator
  abbrev pub more : Parser → (Symbol → Option BinaryOp) → ℕ → Source → List Symbol → Result Taken FaultCode
  more operand op_of n t [] = phrase t []
  more operand op_of zero t (k ∷ r) = phrase t (k ∷ r)
  more operand op_of (suc n) t (k ∷ r) =
      found_if (op_of k) (λ op. and_parse (operand r) (λ u s. and_parse (made (Pair op t u) s) (more operand op_of n))) (phrase t (k ∷ r))

  -- operands with operators of one level between them, grouped from the left
  abbrev pub chain_by : Parser → (Symbol → Option BinaryOp) → Parser
  chain_by operand op_of ts = and_parse (operand ts) (λ t r. more operand op_of (length r) t r)

  -- perhaps one operator, and an operand after it
  abbrev pub once : Parser → (Symbol → Option BinaryOp) → Source → List Symbol → Result Taken FaultCode
  once operand op_of t [] = phrase t []
  once operand op_of t (k ∷ r) = found_if (op_of k) (λ op. and_parse (operand r) (λ u s. made (Pair op t u) s)) (phrase t (k ∷ r))

  -- an operand, or two with an operator between them
  abbrev pub once_by : Parser → (Symbol → Option BinaryOp) → Parser
  once_by operand op_of ts = and_parse (operand ts) (once operand op_of)

  -- a signed operand, where what stands in parentheses is read so
  abbrev pub signed_by : Parser → Parser
  signed_by inner = fronted_by (primary_by inner) sign_of

  -- products
  abbrev pub product_by : Parser → Parser
  product_by inner = chain_by (signed_by inner) product_op

  -- sums
  abbrev pub sum_by : Parser → Parser
  sum_by inner = chain_by (product_by inner) sum_op

  -- a sum, or two with a relation between them
  abbrev pub relation_by : Parser → Parser
  relation_by inner = once_by (sum_by inner) relation_op

  -- negations
  abbrev pub negation_by : Parser → Parser
  negation_by inner = fronted_by (relation_by inner) negation_of

  -- conjunctions
  abbrev pub conjunction_by : Parser → Parser
  conjunction_by inner = chain_by (negation_by inner) and_op

  -- disjunctions: whole expressions
  abbrev pub disjunction_by : Parser → Parser
  disjunction_by inner = chain_by (conjunction_by inner) or_op

  -- an expression in parentheses, where one pair fewer may be opened in it
  unfoldable pub expression : ℕ → Parser
  expression zero ts = Err TooDeep
  expression (suc room) ts = disjunction_by (expression room) ts

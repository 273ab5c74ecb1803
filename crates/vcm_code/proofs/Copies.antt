-- What is kept as lists is what these are.
use Rattle.std.proofs.Common.{◌≡◌, List, refl, ap}
use Rattle.vcm_spec.specs.declared.expression.Item.{Item}
use Rattle.vcm_spec.specs.declared.simple.Simple.TheVariants.{GoHome}
use Rattle.vcm_spec.specs.Simple.{Simple, with_forms}
use Rattle.vcm_code.specs.Code.{Op, CodeStatement}
use Rattle.vcm_code.specs.declared.op.Op.TheVariants.{Plain, If}
use Rattle.vcm_code.specs.Copies.{listed, listed_statement}

same_simple : (what : Simple (List Item)) → with_forms (λ e. e) (λ t. t) what ≡ what
same_simple GoHome = refl
same_simple _ = refl

-- what a statement of lists does is what its lists say
pub same_op : (op : Op) → listed (λ e. e) (λ t. t) (λ b. b) op ≡ op
same_op (Plain what) = ap (λ (w : Simple (List Item)). Plain w) (same_simple what)
same_op (If test target) = refl
same_op _ = refl

-- a statement of lists is what its lists say
pub same_statement : (s : CodeStatement) → listed_statement (λ e. e) (λ t. t) (λ b. b) s ≡ s
same_statement s = ap (λ op. record { line = s.line; op = op }) (same_op s.op)

-- Trees as stored data, by which two of them are told apart.
use Rattle.std.proofs.Common.{◌≡◌, ◌≢◌, ℕ, ap, arith}
use Rattle.std.specs.Coded.{Coded}
use base.Stored.{Gv, gnil, gnum, gcons}
use Rattle.vcm_spec.specs.contracts.expression.Operand as operand
use Rattle.vcm_spec.specs.contracts.expression.UnaryOp as unary
use Rattle.vcm_spec.specs.contracts.expression.BinaryOp as binary
use Rattle.vcm_spec.specs.Expression.{Tree, Value, One, Two}

-- the first of a pair
abbrev pub head : Gv → Gv
head gnil = gnil
head (gnum n) = gnil
head (gcons a b) = a

-- the second of a pair
abbrev pub tail : Gv → Gv
tail gnil = gnil
tail (gnum n) = gnil
tail (gcons a b) = b

-- two numbers tell pairs apart
pub apart : (m n : ℕ) {a b : Gv} → gcons (gnum m) a ≡ gcons (gnum n) b → m ≢ n → ⊥
apart m n e other = other cc

-- a tree as stored data
abbrev pub tree_code : Tree → Gv
tree_code (Value x) = gcons (gnum 0) (operand.the_row.coded.code x)
tree_code (One op a) = gcons (gnum 1) (gcons (unary.the_row.coded.code op) (tree_code a))
tree_code (Two op a b) = gcons (gnum 2) (gcons (binary.the_row.coded.code op) (gcons (tree_code a) (tree_code b)))

-- trees that are stored alike are equal
pub tree_inj : (x y : Tree) → tree_code x ≡ tree_code y → x ≡ y
tree_inj (Value x) (Value y) p = λ i. Value (operand.the_row.coded.inj x y (ap (λ g. tail g) p) i)
tree_inj (Value x) (One op b) p = absurd (apart 0 1 p (omega arith))
tree_inj (Value x) (Two op b c) p = absurd (apart 0 2 p (omega arith))
tree_inj (One op a) (Value y) p = absurd (apart 1 0 p (omega arith))
tree_inj (One op a) (One pp b) p =
    λ i. One (unary.the_row.coded.inj op pp (ap (λ g. head (tail g)) p) i) (tree_inj a b (ap (λ g. tail (tail g)) p) i)
tree_inj (One op a) (Two pp b c) p = absurd (apart 1 2 p (omega arith))
tree_inj (Two op a b) (Value y) p = absurd (apart 2 0 p (omega arith))
tree_inj (Two op a b) (One pp c) p = absurd (apart 2 1 p (omega arith))
tree_inj (Two op a b) (Two pp c d) p =
    λ i. Two
    (binary.the_row.coded.inj op pp (ap (λ g. head (tail g)) p) i)
    (tree_inj a c (ap (λ g. head (tail (tail g))) p) i)
    (tree_inj b d (ap (λ g. tail (tail (tail g))) p) i)

-- so trees have a code
abbrev pub tree_coded : Coded Tree
tree_coded = record { code = tree_code; inj = tree_inj }

-- Expressions as stored data, by which two of them are told apart.
use Rattle.std.proofs.Common.{◌≡◌, ap, arith}
use Rattle.std.specs.Coded.{Coded}
use base.Stored.{Gv, gnum, gcons}
use Rattle.vcm_spec.specs.contracts.expression.BinaryOp as binary
use Rattle.vcm_expr.specs.contracts.expression.Prefix as prefix
use Rattle.vcm_expr.specs.contracts.expression.Term as term
use Rattle.vcm_expr.specs.inner.Codes.{head, tail, apart}
use Rattle.vcm_expr.specs.Source.{Source, Plain, Prefixed, Pair}

-- an expression as stored data
abbrev pub source_code : Source → Gv
source_code (Plain x) = gcons (gnum 0) (term.the_row.coded.code x)
source_code (Prefixed op a) = gcons (gnum 1) (gcons (prefix.the_row.coded.code op) (source_code a))
source_code (Pair op a b) = gcons (gnum 2) (gcons (binary.the_row.coded.code op) (gcons (source_code a) (source_code b)))

-- expressions that are stored alike are equal
pub source_inj : (x y : Source) → source_code x ≡ source_code y → x ≡ y
source_inj (Plain x) (Plain y) p = λ i. Plain (term.the_row.coded.inj x y (ap (λ g. tail g) p) i)
source_inj (Plain x) (Prefixed op b) p = absurd (apart 0 1 p (omega arith))
source_inj (Plain x) (Pair op b c) p = absurd (apart 0 2 p (omega arith))
source_inj (Prefixed op a) (Plain y) p = absurd (apart 1 0 p (omega arith))
source_inj (Prefixed op a) (Prefixed pp b) p =
    λ i. Prefixed (prefix.the_row.coded.inj op pp (ap (λ g. head (tail g)) p) i) (source_inj a b (ap (λ g. tail (tail g)) p) i)
source_inj (Prefixed op a) (Pair pp b c) p = absurd (apart 1 2 p (omega arith))
source_inj (Pair op a b) (Plain y) p = absurd (apart 2 0 p (omega arith))
source_inj (Pair op a b) (Prefixed pp c) p = absurd (apart 2 1 p (omega arith))
source_inj (Pair op a b) (Pair pp c d) p =
    λ i. Pair
    (binary.the_row.coded.inj op pp (ap (λ g. head (tail g)) p) i)
    (source_inj a c (ap (λ g. head (tail (tail g))) p) i)
    (source_inj b d (ap (λ g. tail (tail (tail g))) p) i)

-- so expressions have a code
abbrev pub source_coded : Coded Source
source_coded = record { code = source_code; inj = source_inj }

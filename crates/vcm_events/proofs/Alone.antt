-- Lists of one expression.
use Rattle.std.proofs.Common.{◌≡◌, ◌∷◌, []}
use Rattle.vcm_expr.specs.Source.{Source}

pub same_head : (x y : Source) → x ∷ [] ≡ y ∷ [] → y ≡ x
same_head x y e = cc

-- The first of some blocks.
use Rattle.std.proofs.Common.{◌≡◌, ◌<◌, true, List, [], ◌∷◌, length, get_or, sym, subst, arith}
use Rattle.std.proofs.lemmas.Bool.{and_parts}
use Rattle.std.specs.List.{list_all}
use Rattle.vcm_spec.specs.declared.workpiece.Block3.{Block3}
use Rattle.vcm_spec.specs.Workpiece.{is_block}

pub first_is : (bs : List Block3) (b : Block3) → list_all is_block bs ≡ true → 0 < length bs → b ≡ get_or bs 0 b → is_block b ≡ true
first_is [] b h l e = absurd (omega arith)
first_is (x ∷ xs) b h l e = subst (λ k. is_block k ≡ true) (sym e) ((and_parts _ _ h).0)

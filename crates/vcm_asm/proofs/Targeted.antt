-- A statement in memory that is written again.
use Rattle.std.proofs.Common.{◌≡◌, ℕ, zero, suc, List, [], ◌∷◌, ◌++◌, length, ap, ◌∙◌, arith, get_or}
use Rattle.std.specs.Prelude.{slice_set}
use Rattle.vcm_code.specs.Code.{CodeStatement}
use Rattle.vcm_asm.specs.inner.Targets.{with_target}

first_is : (x y : CodeStatement) (xs ys : List CodeStatement) → x ∷ xs ≡ y ∷ ys → (x ≡ y) × (xs ≡ ys)
first_is x y xs ys e = (cc, cc)

pub retargeted : (xs : List CodeStatement) (k target : ℕ) (x x' : CodeStatement) (before after : List CodeStatement) (s : CodeStatement)
    → xs ≡ before ++ s ∷ after → k ≡ length before → x ≡ get_or xs k x → x' ≡ with_target x target
    → slice_set xs k x' ≡ before ++ with_target s target ∷ after
retargeted [] k target x x' [] after s e l g h = absurd cc
retargeted [] k target x x' (b ∷ bs) after s e l g h = absurd cc
retargeted (y ∷ ys) zero target x x' [] after s e l g h =
    let f = first_is y s ys after e in
    ap (λ t. t ∷ ys) (h ∙ ap (λ t. with_target t target) (g ∙ f.0))
    ∙ ap (λ t. with_target s target ∷ t) f.1
retargeted (y ∷ ys) (suc k) target x x' [] after s e l g h = absurd cc
retargeted (y ∷ ys) zero target x x' (b ∷ bs) after s e l g h = absurd cc
retargeted (y ∷ ys) (suc k) target x x' (b ∷ bs) after s e l g h =
    let f = first_is y b ys (bs ++ s ∷ after) e in
    ap (λ t. t ∷ slice_set ys k x') f.0
    ∙ ap (λ t. b ∷ t) (retargeted ys k target x x' bs after s f.1 (omega arith) g h)

-- Expressions of a body that are put together again in an expansion, part by part.
use Rattle.std.specs.Prelude.{◌≡◌, ◌⊎◌, false, List, [], ◌∷◌}
use Rattle.vcm_expr.specs.declared.expression.Size.{Size}
use Rattle.vcm_expr.specs.Source.{Source, is_small, IsSize}
use Rattle.vcm_substitution.specs.Substitution.{Scope, put}

-- what the expressions of a stack say in the expansion is there, and these are the sizes
abbrev pub Puts : Scope → List Source → List Source → List Size → Type 0
Puts sc [] [] [] = Unit {0}
Puts sc (e ∷ es) (n ∷ ns) (s ∷ ss) = (n ≡ put sc e) × IsSize s (put sc e) × Puts sc es ns ss
Puts sc [] (n ∷ ns) ss = ⊥
Puts sc [] [] (s ∷ ss) = ⊥
Puts sc (e ∷ es) [] ss = ⊥
Puts sc (e ∷ es) (n ∷ ns) [] = ⊥

-- one of them is too large there
abbrev pub Big : Scope → List Source → Type 0
Big sc [] = ⊥
Big sc (e ∷ es) = (is_small (put sc e) ≡ false) ⊎ Big sc es

-- Arguments of which each is what is wanted in its place.
use Rattle.std.specs.Prelude.{Bool, true, false, ◌&&◌, List, [], ◌∷◌}
use Rattle.vcm_forms.specs.declared.statement.Argument.{Argument}
use Rattle.vcm_macro.specs.declared.fitting.Wanted.{Wanted}
use Rattle.vcm_macro.specs.Rules.{suits}

-- whether there are as many as are wanted, each as it is wanted
abbrev pub all_suit : List Wanted → List Argument → Bool
all_suit [] [] = true
all_suit (w ∷ ws) (b ∷ bs) = suits w b && all_suit ws bs
all_suit ws bs = false

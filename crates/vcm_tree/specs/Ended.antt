-- Programs that end.
use Rattle.std.specs.Prelude.{Bool, false, List, [], ◌∷◌}
use Rattle.vcm_macro.specs.declared.placed.Placed.{Placed}
use Rattle.vcm_macro.specs.Order.{is_ending}

-- whether the last one is ENDFIL
abbrev pub is_ended : List Placed → Bool
is_ended [] = false
is_ended (p ∷ []) = is_ending p.statement.form
is_ended (p ∷ q ∷ ps) = is_ended (q ∷ ps)

-- Programs that end, read from the front.
use Rattle.std.specs.Prelude.{Bool, List, [], ◌∷◌}
use Rattle.vcm_macro.specs.declared.placed.Placed.{Placed}
use Rattle.vcm_macro.specs.Order.{is_ending}

-- whether the last of these is ENDFIL, or else this, where there is none
abbrev pub ended_behind : Bool → List Placed → Bool
ended_behind b [] = b
ended_behind b (p ∷ ps) = ended_behind (is_ending p.statement.form) ps

-- Programs that end, read from the front.
use Rattle.std.proofs.Common.{◌≡◌, Bool, false, List, [], ◌∷◌, refl}
use Rattle.vcm_macro.specs.declared.placed.Placed.{Placed}
use Rattle.vcm_macro.specs.Order.{is_ending}
use Rattle.vcm_tree.specs.Ended.{is_ended}
use Rattle.vcm_whole.specs.inner.Ending.{ended_behind}

behind_some : (b : Bool) (p : Placed) (ps : List Placed) → ended_behind b (p ∷ ps) ≡ is_ended (p ∷ ps)
behind_some b p [] = refl
behind_some b p (q ∷ qs) = behind_some (is_ending p.statement.form) q qs

pub behind_none : (ps : List Placed) → ended_behind false ps ≡ is_ended ps
behind_none [] = refl
behind_none (p ∷ ps) = behind_some false p ps

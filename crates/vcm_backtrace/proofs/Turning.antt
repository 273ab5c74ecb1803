-- Lines that are written one after another, each at a turn of a loop.
use Rattle.std.proofs.Common.{◌≡◌, ℕ, suc, ℤ, List, [], ◌∷◌, ◌++◌, Option, slice_get, sym, ap, ◌∙◌, subst}
use Rattle.std.specs.Prelude.{flat_map}
use Rattle.std.specs.Io.KnownBytes.{Appends}
use Rattle.std.proofs.lemmas.List.{append-nil}
use Rattle.vcm_spec.specs.Setup.{Tables}
use Rattle.vcm_code.specs.Code.{CodeStatement}
use Rattle.vcm_print.proofs.Steps.{TookUpTo}
use Rattle.vcm_backtrace.specs.Loops.{line_if_there, loop_lines}

-- nothing is left
pub took_all : (a b : Option (List ℕ)) (left all : List ℕ) → TookUpTo a b left all → left ≡ [] → Appends a b all
took_all a b left all t e =
    subst (λ l. Appends a b l) (sym (append-nil t.0) ∙ ap (λ l. t.0 ++ l) (sym e) ∙ t.2) t.1

-- the line of the statement before a place, and those of the ones before it
pub loops_turn : (tables : Tables) (values : List ℤ) (rounds : List ℕ) (number : ℕ) (ss : List CodeStatement) (i j : ℕ) → i ≡ suc j
    → loop_lines tables values rounds number ss i ≡ line_if_there tables values rounds number (slice_get ss j) ++ loop_lines tables values rounds number ss j
loops_turn tables values rounds number ss i j e = ap (loop_lines tables values rounds number ss) e

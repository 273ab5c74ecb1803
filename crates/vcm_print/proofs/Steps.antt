-- A writer on its way through some bytes, step by step.
use Rattle.std.proofs.Common.{◌≡◌, ℕ, List, ◌++◌, Option, refl, sym, ap, ◌∙◌, append_assoc}
use Rattle.std.specs.Io.KnownBytes.{Appends}
use Rattle.vcm_num.specs.Written.{AppendsFront}
use Rattle.vcm_num.proofs.KnownWrites.{appends_more, front_then, front_first}

-- it took all of the bytes but these, which are left
abbrev pub TookUpTo : Option (List ℕ) → Option (List ℕ) → List ℕ → List ℕ → Type 0
TookUpTo old new left all = (done : List ℕ) × Appends old new done × (done ++ left ≡ all)

-- one more piece
pub took_more : (a b c : Option (List ℕ)) (w more left all : List ℕ) → left ≡ w ++ more → TookUpTo a b left all → Appends b c w → TookUpTo a c more all
took_more a b c w more left all e t h =
    (t.0 ++ w, appends_more a b c t.0 w _ refl t.1 h, append_assoc t.0 w more ∙ ap (λ l. t.0 ++ l) (sym e) ∙ t.2)

-- a piece that failed
pub took_front : (a b c : Option (List ℕ)) (w more left all : List ℕ) → left ≡ w ++ more → TookUpTo a b left all → AppendsFront b c w → AppendsFront a c all
took_front a b c w more left all e t h =
    front_then a b c t.0 left all t.2 t.1 (front_first b c w more left (sym e) h)

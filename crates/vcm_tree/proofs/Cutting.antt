-- Lists that are cut at one of their places, and phases that break no rule.
use Rattle.std.proofs.Common.{◌≡◌, ◌<◌, List, [], ◌∷◌, ◌++◌, length, take, Option, Some, None, refl, ap, arith}
use Rattle.std.specs.Prelude.{slice_get}
use Rattle.std.proofs.lemmas.List.{take_all}
use Rattle.std.proofs.lemmas.Option.{slice_get_past}
use Rattle.vcm_spec.specs.Phase.{IsClean}

-- what stands before a place, and at it
pub place : {X : Type 0} (before : List X) (x : X) (xs : List X) → (take (length before) (before ++ x ∷ xs) ≡ before)
    × (slice_get (before ++ x ∷ xs) (length before) ≡ Some x) × (length before < length (before ++ x ∷ xs))
place [] x xs = (refl, refl, omega arith)
place (b ∷ before) x xs = (let r = place before x xs in (ap (λ l. b ∷ l) r.0, r.1, (let l = r.2 in omega arith)))

-- a phase that breaks no rule breaks none at its end
pub clean_end : {Place Code : Type 0} (breaks : List Place → Option Place → Code → Type 0) (walk : List Place) (code : Code) → IsClean breaks walk → breaks walk None code → ⊥
clean_end breaks walk code clean b =
    let all = take_all (length walk) walk (omega arith) in
    let past = slice_get_past walk (length walk) (omega arith) in
    clean.unbroken (length walk) code (omega arith) (rw (all, past) b)

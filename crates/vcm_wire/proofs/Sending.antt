-- What is written of a frame.
use Rattle.std.proofs.Common.{◌≡◌, ℕ, ◌≤◌, List, ◌++◌, length, take, Option, Some, None, Result, Ok, Err, sym, ◌∙◌, subst, arith}
use Rattle.std.proofs.lemmas.List.{take_all}
use Rattle.std.specs.Io.KnownBytes.{Appends, Keeps}
use Rattle.vcm_num.specs.Written.{AppendsFront}
use Rattle.vcm_num.proofs.KnownWrites.{appends_more}
use Rattle.vcm_wire.specs.Frames.{Sent}

-- what was written stays
appends_kept : (a b c : Option (List ℕ)) (xs : List ℕ) → Appends a b xs → Keeps b c → Appends a c xs
appends_kept None b c xs h k = tt
appends_kept (Some p) None c xs h k = absurd h
appends_kept (Some p) (Some q) None xs h k = absurd k
appends_kept (Some p) (Some q) (Some r) xs h k = k ∙ h

pub front_sent : (a b : Option (List ℕ)) (xs : List ℕ) → AppendsFront a b xs → (k : ℕ) × (k ≤ length xs) × Appends a b (take k xs)
front_sent a b xs h = (h.0, omega (arith, h.1), h.2)

-- all was written, and handed on or not
pub all_sent : {A E : Type 0} (a b c d : Option (List ℕ)) (xs ys zs : List ℕ) (r : Result A E) → xs ++ ys ≡ zs → Appends a b xs → Appends b c ys → Keeps c d → Sent a d zs r
all_sent a b c d xs ys zs (Ok x) e h k s = appends_kept a c d zs (appends_more a b c xs ys zs e h k) s
all_sent a b c d xs ys zs (Err f) e h k s =
    let all = appends_kept a c d zs (appends_more a b c xs ys zs e h k) s in
    (length zs, omega arith, subst (λ l. Appends a d l) (sym (take_all (length zs) zs (omega arith))) all)

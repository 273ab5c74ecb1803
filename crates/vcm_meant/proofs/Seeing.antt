-- What is seen once more.
use Rattle.std.proofs.Common.{◌≡◌, ℕ, ◌+◌, ◌<◌, Bool, true, List, ◌∷◌, ◌++◌, length, take, drop, sym, ap, ◌∙◌, get_or, set}
use Rattle.std.specs.Prelude.{if◌then◌else◌}
use Rattle.vcm_meant.specs.declared.seen.Seen.{Seen}
use Rattle.vcm_meant.specs.Seen.{is_seen, known_more, seen_with}
use Rattle.vcm_meant.proofs.Walks.{sets}

-- the one that stands there
pub seen_here : (line feature : ℕ) (is_met : Bool) (all : List Seen) (at : ℕ) → seen_with line feature is_met all ≡ take at all ++ seen_with line feature is_met (drop at all)
    → at < length all → (s : Seen) → s ≡ get_or all at s → is_seen line feature s ≡ true → (r : Seen) → r ≡ known_more s is_met
    → set all at r ≡ seen_with line feature is_met all
seen_here line feature is_met all at h l s read e r m =
    let behind = drop (at + 1) all in
    ap (λ x. set all at x) m
    ∙ sym (sets (seen_with line feature is_met) all at h s l (known_more s is_met)
    (ap (λ x. seen_with line feature is_met (x ∷ behind)) (sym read)
    ∙ ap (λ b. if b then known_more s is_met ∷ behind else s ∷ seen_with line feature is_met behind) e))

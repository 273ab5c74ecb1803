use Rattle.std.proofs.Common.{◌≤◌, ℕ, List, length, take, sym, ap, ◌∙◌, subst}
use Rattle.std.specs.Int.{w16}
use Rattle.vcm_fields.proofs.Inverse.{ok_is}
use Rattle.vcm_fields.proofs.Taking.{number_there, bytes_there, text_is}
use Rattle.vcm_fields.proofs.standing.known_text.Goals as goal

pub known_short-count-requires : goal.known_short-count-requires
known_short-count-requires c =
    let p = text_is _ _ _ c.requires.2 in
    number_there w16 _ _ p.2

pub split_at-requires : goal.split_at-requires
split_at-requires c =
    let p = text_is _ _ _ c.requires.2 in
    let both = ok_is _ _ (sym p.2 ∙ c.known_short-count.ensures) in
    rw c.from.ensures (subst (λ (x : ℕ × List ℕ). x.0 ≤ length x.1) both (bytes_there _ _ _ p.3).0)

pub returns : goal.returns
returns c t rest h =
    let p = text_is _ t rest h in
    let both = ok_is _ _ (sym c.known_short-count.ensures ∙ p.2) in
    c.new.ensures ∙ c.split_at.ensures.front ∙ ap (λ n. take n c.known_short-count.result.1.now) c.from.ensures
    ∙ ap (λ (x : ℕ × List ℕ). take x.0 x.1) both ∙ (bytes_there _ _ _ p.3).1

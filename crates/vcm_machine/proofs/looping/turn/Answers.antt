use Rattle.std.proofs.Common.{ℕ, List, sym, ap, ◌∙◌}
use Rattle.std.specs.Int.{w16, w32}
use Rattle.vcm_fields.specs.Readers.{both, number_at, variable_at, pair_at, target_at}
use Rattle.vcm_fields.proofs.Inverse.{ok_is}
use Rattle.vcm_fields.proofs.Taking.{gives_it, number_there, both_are}
use Rattle.vcm_machine.proofs.looping.turn.Goals as goal

pub known_short-variable-requires : goal.known_short-variable-requires
known_short-variable-requires c =
    let t = both_are variable_at (both pair_at target_at) _ _ _ c.requires.operands.2 in
    number_there w16 _ _ t.1

pub known_long-target-requires : goal.known_long-target-requires
known_long-target-requires c =
    let t = both_are variable_at (both pair_at target_at) c.args.bytes.now c.requires.operands.0 c.requires.operands.1 c.requires.operands.2 in
    let u = both_are pair_at target_at t.0 c.requires.operands.0.1 c.requires.operands.1 t.2 in
    let variable = ok_is _ _ (sym c.known_short-variable.ensures ∙ t.1) in
    let pair = gives_it _ _ _ _ _ c.pair.ensures (ap (λ (x : ℕ × List ℕ). pair_at x.1) variable ∙ u.1) c.known-pair.ensures in
    number_there w32 _ _ (ap (λ (x : ℕ × List ℕ). number_at w32 x.1) pair ∙ u.2)

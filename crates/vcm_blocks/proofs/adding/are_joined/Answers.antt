use Rattle.std.proofs.Common.{◌≡◌, sym, ◌∙◌}
use Rattle.std.proofs.lemmas.List.{take-append-drop}
use Rattle.vcm_blocks.proofs.Same.{list_eq, block_eq, joined}
use Rattle.vcm_blocks.proofs.adding.are_joined.Goals as goal

pub returns-then-eq : goal.returns-then-eq
returns-then-eq c = λ t.
    let front : c.split_at.result.0.now ≡ c.args.own.now = list_eq _ block_eq _ _ (sym c.eq.ensures ∙ c.if-eq.true) in
    let behind : c.split_at.result.1.now ≡ c.args.more.now = list_eq _ block_eq _ _ (sym c.eq-then-eq.ensures ∙ t) in
    sym (take-append-drop _ c.args.all.now) ∙ joined _ _ _ _ (sym c.split_at.ensures.front ∙ front) (sym c.split_at.ensures.back ∙ behind)

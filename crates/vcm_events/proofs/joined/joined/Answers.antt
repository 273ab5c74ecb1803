use Rattle.std.proofs.Common.{◌∷◌, [], sym, ap, ◌∙◌, List, Some}
use Rattle.vcm_expr.specs.Source.{Source, Pair}
use Rattle.vcm_events.proofs.Alone.{same_head}
use Rattle.vcm_events.proofs.joined.joined.Goals as goal

pub finish-requires : goal.finish-requires
finish-requires c =
    let first = c.in-Ok-append.ensures.ok in
    let second = c.in-Ok-append-2.ensures.ok in
    let stack = second.0 ∙ ap (λ (l : List Source). c.args.b.now ∷ l) (first.0 ∙ ap (λ (l : List Source). c.args.a.now ∷ l) c.in-Ok.ensures.ok) in
    let joined = c.in-Ok-joined.ensures.ok c.args.a.now c.args.b.now [] stack first.1 second.1 in
    (Pair c.args.op c.args.a.now c.args.b.now, joined.0, joined.1)

pub returns-in-Ok-joined : goal.returns-in-Ok-joined
returns-in-Ok-joined c =
    let first = c.in-Ok-append.ensures.ok in
    let second = c.in-Ok-append-2.ensures.ok in
    let stack = second.0 ∙ ap (λ (l : List Source). c.args.b.now ∷ l) (first.0 ∙ ap (λ (l : List Source). c.args.a.now ∷ l) c.in-Ok.ensures.ok) in
    let joined = c.in-Ok-joined.ensures.ok c.args.a.now c.args.b.now [] stack first.1 second.1 in
    rw joined.1.small (ap Some (same_head (Pair c.args.op c.args.a.now c.args.b.now) c.finish.result (sym joined.0 ∙ c.finish.ensures)))

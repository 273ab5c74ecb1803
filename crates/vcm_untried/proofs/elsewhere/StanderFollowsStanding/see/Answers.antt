use Rattle.std.proofs.Common.{ap, ◌∙◌}
use Rattle.std.specs.Prelude.{is_some}
use Rattle.vcm_steps.specs.Passages.{passage}
use Rattle.vcm_untried.specs.Elsewhere.{is_way, seen_in, stands_behind}
use Rattle.vcm_untried.proofs.Stood.{one_more}
use Rattle.vcm_untried.proofs.elsewhere.StanderFollowsStanding.see.Goals as goal

pub returns-clause-ok : goal.returns-clause-ok
returns-clause-ok c = λ w from ps looked has.
    let s = c.args.to.now in
    let statement = c.args.statement.now in
    let after = c.args.world.now.state in
    let p = passage c.args._count c.args._number statement w after c.args._next in
    let seen = c.seen_in-after.ensures ∙ ap seen_in c.variables.ensures.values in
    let stops = c.is_some-stops.ensures ∙ ap is_some c.stop.ensures in
    one_more from s c.stands_behind.result ps p has
    (c.stands_behind.ensures
    ∙ ap (λ x. stands_behind s statement.line x c.is_some-stops.result c.args.before c.seen_in-after.result) c.is_way-ways.ensures
    ∙ ap (λ x. stands_behind s statement.line (is_way statement.op) x c.args.before c.seen_in-after.result) stops
    ∙ ap (λ x. stands_behind s statement.line (is_way statement.op) (is_some after.stop) x c.seen_in-after.result) looked
    ∙ ap (λ x. stands_behind s statement.line (is_way statement.op) (is_some after.stop) (seen_in w.variables) x) seen)

use Rattle.std.proofs.Common.{sym, ap, ◌∙◌}
use Rattle.std.proofs.lemmas.Result.{on_ok_weaker}
use Rattle.vcm_steps.specs.Passages.{Passage, passage}
use Rattle.vcm_spec.specs.World.{World}
use Rattle.vcm_spec.specs.Effect.{at_index}
use Rattle.vcm_untried.specs.Elsewhere.{is_way}
use Rattle.vcm_untried.specs.Known.{known_in}
use Rattle.vcm_untried.specs.Marking.{Marks, marks_in, marked_if, gone_by, known_by}
use Rattle.vcm_untried.proofs.Markings.{one_more}
use Rattle.vcm_untried.proofs.marking.MarkerFollowsMarking.see.Goals as goal

pub returns-clause-ok : goal.returns-clause-ok
returns-clause-ok c =
    let table = c.args.self.now.table.now in
    let old = c.args.to.now in
    let new = c.know.new.to in
    let statement = c.args.statement.now in
    let after = c.args.world.now.state in
    let step : World → Passage = λ w. passage c.args.count c.args.number statement w after c.args._next in
    let marked : Marks = marked_if (marks_in old) c.args.count (at_index table c.args.number) c.args.before in
    let went = c.in_ok-go.ensures
    ∙ ap (λ m. gone_by m c.args.count c.is_way.result) (c.in_ok-mark_if.ensures ∙ ap (λ o. marked_if (marks_in old) c.args.count o c.args.before) c.remark_at.ensures)
    ∙ ap (gone_by marked c.args.count) c.is_way.ensures in
    let seen = c.known_in.ensures ∙ ap known_in c.variables.ensures.values in
    on_ok_weaker c.know.result
    (λ known w from ps looked has. one_more c.args.self.now.remarks.now table from old new ps (step w) has
    (known
    ∙ ap (λ m. known_by m c.args.count statement.line c.known_in.result) went
    ∙ ap (known_by (gone_by marked c.args.count (is_way statement.op)) c.args.count statement.line) seen
    ∙ ap (λ b. known_by (gone_by (marked_if (marks_in old) c.args.count (at_index table c.args.number) b) c.args.count (is_way statement.op)) c.args.count statement.line (known_in after.variables)) looked))
    c.know.ensures

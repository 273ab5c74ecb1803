use Rattle.std.proofs.Common.{◌≡◌, sym, ◌∙◌}
use Rattle.vcm_turning.specs.Following.{told_step}
use Rattle.vcm_set_views.proofs.Backtraced.{told_more}
use Rattle.vcm_set_views.proofs.backtraces.TellingSeesStepsTold.see.Goals as goal

pub returns : goal.returns
returns c w =
    let it = c.args.self.now in
    let to = c.args.to.now in
    let count = c.len.ensures ∙ to.texts.ok.0 in
    told_more it.source.now it.loaded.now.statements c.args.world.now.tables it.wanted.now to.texts.items _ to.rounds c.count_round.new.rounds c.in_ok-text.text
    (told_step c.args.count c.args.number c.args.statement.now w c.args.world.now.state c.args.next c.args._on c.args._turn)
    (rw count at (sym c.is_wanted.ensures ∙ c.if-not-is_wanted.false)) (rw c.stop.ensures at c.count_round.ensures)
    (rw (c.tables.ensures, c.variables.ensures.values) at c.in_ok-text.ensures) c.in_ok-push.ensures.items

use Rattle.std.proofs.lemmas.Result.{IfErr-weaker}
use Rattle.vcm_tree.specs.Acceptance.{ReadsLines}
use Rattle.vcm_tree.proofs.Accepting.{statements_unread}
use Rattle.vcm_tree.proofs.phases.statements_of.Goals as goal

pub returns-clause-unread : goal.returns-clause-unread
returns-clause-unread c =
    let read : ReadsLines c.args.text.now c.in_ok-lines.lines = record { clean = c.in_ok-lines.ensures.unbroken; lines = c.in_ok-lines.ensures.statements } in
    IfErr-weaker c.statements.result _ _ (λ f h. statements_unread c.args.text.now c.in_ok-lines.lines f read (rw c.into_items.ensures at h)) c.statements.ensures.fault

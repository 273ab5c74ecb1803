use Rattle.std.proofs.Common.{◌≡◌, ◌∷◌, refl, ap, ◌∙◌, true, List}
use Rattle.std.proofs.lemmas.List.{drop_more}
use Rattle.std.specs.Vec.Iter.{into_iter_items}
use Rattle.vcm_adapt.specs.declared.edit.Edit.{Edit}
use Rattle.vcm_survey.specs.Edits.{line_edits}
use Rattle.vcm_survey.proofs.Turns.{more_edited, all_edited}
use Rattle.vcm_survey.proofs.adapting.line_edits.Goals as goal

pub owners-preserved : goal.owners-preserved
owners-preserved c =
    rw c.in_ok-push.ensures.items
    (more_edited c.args.owners.now _ c.owners.owner-index _ c.owners.out.items (into_iter_items c.owners.edits) (into_iter_items c.next_edit-edit.new.edits)
    c.owners.is_kept c.next_edit-edit.result.1 c.next_edit-edit.result.0
    (drop_more c.args.owners.now c.owners.owner-index _ c.owners-test.true) c.next_edit-edit.ensures c.owners.invariant)

pub returns : goal.returns
returns c =
    all_edited c.args.owners.now _ c.owners.owner-index c.owners.out.items (into_iter_items c.owners.edits) c.owners.is_kept c.owners-test.false c.owners.invariant
    ∙ ap (λ (es : List Edit). line_edits c.args.owners.now es true) c.into_iter-edits.ensures.rest

use Rattle.std.proofs.Common.{[], sym, ◌∙◌}
use Rattle.vcm_sentences.specs.declared.gathering.LineKind.TheVariants.{Alone, Between, GoesOn, Ends}
use Rattle.vcm_sentences.specs.Stretches.{text_line}
use Rattle.vcm_sentences.proofs.StretchLemmas.{kind_facts, step_alone, step_between, step_goes, step_ends, owner_begun, on_two, on_three}
use Rattle.vcm_sentences.proofs.gathering.Gathering.take.Goals as goal

pub returns-in-Alone : goal.returns-in-Alone
returns-in-Alone c =
    let l = text_line c.args.number c.args.raw.now in
    let f = kind_facts Alone c.args.self.now.is_open l (sym c.in-Alone.is ∙ c.in_ok-add.ensures.kind) in
    let kept = rw c.in-Alone.is at c.in_ok-add.ensures.added in
    rw (c.alone.ensures.begun, c.alone.ensures.open) (on_two c.alone.result _ _ _ c.alone.ensures.told c.alone.ensures.owners
    (λ told owned all ahead s. step_alone all _ _ _ _ _ _ _ l ahead f (λ h. kept [] (sym f.1) h) (told f.0) (owned f.0) s))

pub returns-in_ok-push-in-Between : goal.returns-in_ok-push-in-Between
returns-in_ok-push-in-Between c =
    let l = text_line c.args.number c.args.raw.now in
    let f = kind_facts Between c.args.self.now.is_open l (sym c.in-Between.is ∙ c.in_ok-add.ensures.kind) in
    λ all ahead s. step_between all _ _ _ _ _ _ l ahead f (rw c.in-Between.is at c.in_ok-add.ensures.added) c.in_ok-push-in-Between.ensures.items s

pub returns-in_ok-push-in-GoesOn : goal.returns-in_ok-push-in-GoesOn
returns-in_ok-push-in-GoesOn c =
    let l = text_line c.args.number c.args.raw.now in
    let f = kind_facts GoesOn c.args.self.now.is_open l (sym c.in-GoesOn.is ∙ c.in_ok-add.ensures.kind) in
    let owned = rw (c.owner_of.ensures, ← owner_begun c.args.self.now.is_open l f.0) at c.in_ok-push-in-GoesOn.ensures.items in
    λ all ahead s. step_goes all _ _ _ _ _ _ l ahead f (rw c.in-GoesOn.is at c.in_ok-add.ensures.added) owned s

pub returns-in_ok-push-in-Ends : goal.returns-in_ok-push-in-Ends
returns-in_ok-push-in-Ends c =
    let l = text_line c.args.number c.args.raw.now in
    let f = kind_facts Ends c.args.self.now.is_open l (sym c.in-Ends.is ∙ c.in_ok-add.ensures.kind) in
    let owned = rw (c.owner_of-in-Ends.ensures, ← owner_begun c.args.self.now.is_open l f.0) at c.in_ok-push-in-Ends.ensures.items in
    on_three c.finish.result _ _ _ _ c.finish.ensures.told c.finish.ensures.emptied c.finish.ensures.closed
    (λ said emptied closed all ahead s. rw (closed, c.finish.ensures.owners)
    (step_ends all _ _ _ _ _ _ _ _ l ahead f (rw c.in-Ends.is at c.in_ok-add.ensures.added) said emptied owned s))

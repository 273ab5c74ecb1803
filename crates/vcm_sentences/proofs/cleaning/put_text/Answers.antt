use Rattle.std.proofs.Common.{sym, ◌∙◌}
use Rattle.std.proofs.lemmas.List.{take_rest}
use Rattle.vcm_sentences.proofs.Putting.{text_put, text_added, open_put}
use Rattle.vcm_sentences.proofs.cleaning.put_text.Goals as goal

pub returns-in_default-clause-put : goal.returns-in_default-clause-put
returns-in_default-clause-put c = open_put c.args.after.now c.args.out.now.items (sym c.apostrophe.ensures ∙ c.in_default.is)

pub returns-clause-put : goal.returns-clause-put
returns-clause-put c =
    rw take_rest (text_put c.args.after.now c.args.out.now.items c.push-2.new.self.items c.in-Some.end (sym c.apostrophe.ensures ∙ c.in-Some.is)
    (text_added c.args.out.now.items _ _ _ _ c.in_ok-push.ensures.items c.in_ok-extend_from_slice.ensures.items c.in_ok-push-2.ensures.items))

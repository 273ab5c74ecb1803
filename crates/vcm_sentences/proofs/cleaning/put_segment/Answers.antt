use Rattle.std.proofs.Common.{sym, ◌∙◌}
use Rattle.std.proofs.lemmas.List.{take_rest}
use Rattle.vcm_sentences.proofs.Putting.{quote_put, plain_put, comment_put, dollar_put}
use Rattle.vcm_sentences.proofs.cleaning.put_segment.Goals as goal

pub returns-then-byte-eq39-clause-put : goal.returns-then-byte-eq39-clause-put
returns-then-byte-eq39-clause-put c = quote_put c.args.line.now _ _ _ c.requires c.if-byte-eq39.true (rw take_rest at c.in_ok-rest.ensures.put)

pub returns-then-byte-ne36-clause-put : goal.returns-then-byte-ne36-clause-put
returns-then-byte-ne36-clause-put c = rw take_rest (plain_put c.args.line.now _ _ c.requires c.if-byte-eq39.false c.if-byte-ne36.true c.in_ok-put_plain.ensures)

pub returns-then-starts_with-clause-put : goal.returns-then-starts_with-clause-put
returns-then-starts_with-clause-put c = comment_put c.args.line.now _ c.requires c.if-byte-ne36.false (sym (rw take_rest at c.starts_with.ensures.value) ∙ c.if-starts_with.true)

pub returns-clause-put : goal.returns-clause-put
returns-clause-put c = rw take_rest (dollar_put c.args.line.now _ c.requires c.if-byte-ne36.false (sym (rw take_rest at c.starts_with.ensures.value) ∙ c.if-starts_with.false))

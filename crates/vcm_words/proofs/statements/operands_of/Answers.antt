use Rattle.std.proofs.Common.{◌≡◌, List, ℕ, Ok, Err, sym, subst}
use Rattle.vcm_code.specs.Copies.{listed}
use Rattle.vcm_fields.specs.Readers.{operands_by}
use Rattle.vcm_words.specs.inner.Refusing.{place_in}
use Rattle.vcm_words.proofs.FormLaws.{were_read, were_refused}
use Rattle.vcm_words.proofs.statements.operands_of.Goals as goal

pub returns-in-Ok : goal.returns-in-Ok
returns-in-Ok c =
    sym (were_read c.args.exact c.args.word c.args.words.now c.in-Ok.op (c.operands.new.from.exact, c.operands.new.from.words)
    (subst (λ (ws : List (List ℕ)). operands_by place_in c.args.word (c.args.exact, ws) ≡ Ok (listed (λ e. e) (λ t. t) (λ b. b) c.in-Ok.op, (c.operands.new.from.exact, c.operands.new.from.words)))
    c.again.ensures c.in-Ok.ensures))

pub returns-in-Err : goal.returns-in-Err
returns-in-Err c =
    sym (were_refused c.args.exact c.args.word c.args.words.now tt
    (subst (λ (ws : List (List ℕ)). operands_by place_in c.args.word (c.args.exact, ws) ≡ Err tt) c.again.ensures c.in-Err.ensures))

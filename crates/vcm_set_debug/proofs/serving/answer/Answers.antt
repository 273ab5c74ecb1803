use Rattle.vcm_debug.proofs.Exchanges.{nonempty}
use Rattle.vcm_set_debug.proofs.Exchanges.{exchange_told, exchange_kept, exchange_cut}
use Rattle.vcm_set_debug.proofs.serving.answer.Goals as goal

pub returns-in-Ok-flush-clause-exchange : goal.returns-in-Ok-flush-clause-exchange
returns-in-Ok-flush-clause-exchange g c =
    exchange_told c.args.session.now c.answer_to-told.new.session c.args.line.now c.answer_to-told.result (g.W.Write.contents c.args.writer.now)
    (g.W.Write.contents c.write_answer.new.writer) (g.W.Write.contents c.flush.new.writer) c.is_bye.result
    (nonempty c.args.line.now c.is_empty.result c.is_empty.ensures c.if-is_empty.false) c.answer_to-told.ensures.answers c.in-Ok.ensures c.flush.ensures c.is_bye.ensures

pub returns-in-Err-flush-clause-exchange : goal.returns-in-Err-flush-clause-exchange
returns-in-Err-flush-clause-exchange g c =
    exchange_kept c.args.session.now c.answer_to-told.new.session c.args.line.now c.answer_to-told.result (g.W.Write.contents c.args.writer.now)
    (g.W.Write.contents c.write_answer.new.writer) (g.W.Write.contents c.flush.new.writer) c.in-Err-flush.fault
    (nonempty c.args.line.now c.is_empty.result c.is_empty.ensures c.if-is_empty.false) c.answer_to-told.ensures.answers c.in-Ok.ensures c.flush.ensures

pub returns-in-Err-clause-exchange : goal.returns-in-Err-clause-exchange
returns-in-Err-clause-exchange g c =
    exchange_cut c.args.session.now c.answer_to-told.new.session c.args.line.now c.answer_to-told.result (g.W.Write.contents c.args.writer.now)
    (g.W.Write.contents c.write_answer.new.writer) c.in-Err.fault
    (nonempty c.args.line.now c.is_empty.result c.is_empty.ensures c.if-is_empty.false) c.answer_to-told.ensures.answers c.in-Err.ensures

use Rattle.std.proofs.lemmas.Result.{IfErr-weaker, IfOk-weaker}
use Rattle.vcm_tree.proofs.Accepting.{text_unread, names_read}
use Rattle.vcm_run.proofs.FromStatements.{built_text, refused_text}
use Rattle.vcm_run.proofs.program.build_image.Goals as goal

pub returns-in-Ok-clause-built : goal.returns-in-Ok-clause-built
returns-in-Ok-clause-built c =
    IfOk-weaker c.build_statements.result _ _ (λ b h. built_text c.args.program.now c.in-Ok.read.items b.image.items b.notices.items c.in-Ok.ensures.read h) c.build_statements.ensures.built

pub returns-in-Ok-clause-refused : goal.returns-in-Ok-clause-refused
returns-in-Ok-clause-refused c =
    IfErr-weaker c.build_statements.result _ _ (λ r h. refused_text c.args.program.now c.in-Ok.read.items r c.in-Ok.ensures.read h) c.build_statements.ensures.refused

pub returns-in-Err-clause-refused : goal.returns-in-Err-clause-refused
returns-in-Err-clause-refused c = text_unread c.args.program.now c.in-Err.fault c.in-Err.ensures.unread

pub build_statements-requires : goal.build_statements-requires
build_statements-requires c = names_read c.args.program.now c.in-Ok.read.items c.in-Ok.ensures.read

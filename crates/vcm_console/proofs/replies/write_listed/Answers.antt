use Rattle.vcm_console.proofs.ListedLine.{line_written}
use Rattle.vcm_console.proofs.replies.write_listed.Goals as goal

pub returns : goal.returns
returns g c =
    line_written (g.W.Write.contents c.args.writer.now) (g.W.Write.contents c.write_statement.new.writer) c.args.loaded.now.statements c.args.number c.write_statement.result c.requires
    c.write_statement.ensures

use Rattle.std.proofs.Common.{arith}
use Rattle.vcm_lines.proofs.PartLemmas.{length-lexemes}
use Rattle.vcm_expr.proofs.Whole.{expr_ok, expr_fault}
use Rattle.vcm_expr.proofs.parse.parse_expr.Goals as goal

pub part-requires : goal.part-requires
part-requires c = rw c.of.ensures (omega (arith, c.requires.0), omega (arith, c.requires.1, length-lexemes c.args.logical.now.text c.args.logical.now.words))

pub returns-clause-ok : goal.returns-clause-ok
returns-clause-ok c = let h = rw (c.part.ensures, c.of.ensures) at c.read_expr.ensures in expr_ok _ c.args.logical.now.line c.read_expr.result h

pub returns-clause-fault : goal.returns-clause-fault
returns-clause-fault c = let h = rw (c.part.ensures, c.of.ensures) at c.read_expr.ensures in expr_fault _ c.args.logical.now.line c.read_expr.result h

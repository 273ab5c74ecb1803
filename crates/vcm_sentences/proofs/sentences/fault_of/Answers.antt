use Rattle.vcm_sentences.specs.Judged.{ReadsLines}
use Rattle.vcm_sentences.proofs.Judging.{lines_told, statement_told}
use Rattle.vcm_sentences.proofs.sentences.fault_of.Goals as goal

pub returns-in-Err : goal.returns-in-Err
returns-in-Err c = lines_told c.args.line c.args.lines.now _ _ c.in-Err.ensures.leftmost c.placed.ensures

pub returns-in-Some : goal.returns-in-Some
returns-in-Some c =
    let read : ReadsLines c.args.lines.now c.in-Ok.read = record { clean = c.in-Ok.ensures.faultless; lines = c.in-Ok.ensures.statements } in
    statement_told c.args.line c.args.lines.now c.in-Ok.read _ _ read (rw c.in-Some.is at c.first_fault-found.ensures) c.placed-in-Some.ensures

pub returns-in-None : goal.returns-in-None
returns-in-None c =
    let read : ReadsLines c.args.lines.now c.in-Ok.read = record { clean = c.in-Ok.ensures.faultless; lines = c.in-Ok.ensures.statements } in
    record { statements = c.in-Ok.read; read = read; spelled = rw c.in-None.is at c.first_fault-found.ensures }

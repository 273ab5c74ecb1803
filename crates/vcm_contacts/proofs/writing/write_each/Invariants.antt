use Rattle.std.proofs.Common.{take}
use Rattle.vcm_naming.specs.Pages.{page, Adds}
use Rattle.vcm_contacts.proofs.Lines.{lines_of}
use Rattle.vcm_contacts.proofs.writing.write_each.Given as goal

abbrev pub invariant-loop-found : goal.invariant-loop-found
invariant-loop-found g l = record {
  written : Adds (page (g.W.Write.contents l.fn.writer) l.fn.names) (page (g.W.Write.contents l.writer) l.names) (lines_of (take l.found-index l.contacts));
}

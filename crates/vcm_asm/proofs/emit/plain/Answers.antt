use Rattle.std.proofs.Common.{rules}
use Rattle.vcm_asm.proofs.emit.plain.Goals as goal

pub returns-in_ok-x-in-Goto-clause-keeps : goal.returns-in_ok-x-in-Goto-clause-keeps
returns-in_ok-x-in-Goto-clause-keeps c = rw c.in-Goto.is c.in_ok-x-in-Goto.ensures.keeps

pub returns-in_ok-x-in-Feat-clause-keeps : goal.returns-in_ok-x-in-Feat-clause-keeps
returns-in_ok-x-in-Feat-clause-keeps c = rw c.in-Feat.is c.in_ok-x-in-Feat.ensures.keeps

pub returns-in_ok-x-in-PtMeas-clause-keeps : goal.returns-in_ok-x-in-PtMeas-clause-keeps
returns-in_ok-x-in-PtMeas-clause-keeps c = rw c.in-PtMeas.is c.in_ok-x-in-PtMeas.ensures.keeps

pub returns-in_ok-x-in-Trans-clause-keeps : goal.returns-in_ok-x-in-Trans-clause-keeps
returns-in_ok-x-in-Trans-clause-keeps c = rw c.in-Trans.is c.in_ok-x-in-Trans.ensures.keeps

pub returns-in_ok-e-in-SnSet-clause-keeps : goal.returns-in_ok-e-in-SnSet-clause-keeps
returns-in_ok-e-in-SnSet-clause-keeps c = rw c.in-SnSet.is c.in_ok-e-in-SnSet.ensures.keeps

pub returns-in_ok-e-in-Assign-clause-keeps : goal.returns-in_ok-e-in-Assign-clause-keeps
returns-in_ok-e-in-Assign-clause-keeps c = rw c.in-Assign.is c.in_ok-e-in-Assign.ensures.keeps

pub returns-in_ok-e-in-Assign-clause-what : goal.returns-in_ok-e-in-Assign-clause-what
returns-in_ok-e-in-Assign-clause-what c = search rules

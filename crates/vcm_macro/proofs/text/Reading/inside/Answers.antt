use Rattle.std.proofs.Common.{inr, refl}
use Rattle.vcm_macro.specs.inner.Reading.{with_current}
use Rattle.vcm_macro.proofs.Texts.{inside_told}
use Rattle.vcm_macro.proofs.text.Reading.inside.Goals as goal

pub returns-in-Err-clause-fault : goal.returns-in-Err-clause-fault
returns-in-Err-clause-fault c = inr (inside_told (with_current c.args.current c.args.self.now) c.args.current c.args.statement _ refl c.in-Err.ensures)

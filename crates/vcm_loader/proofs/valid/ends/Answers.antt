use Rattle.std.proofs.Common.{ap, sym, ◌∙◌}
use Rattle.std.specs.Option.{option_copied}
use Rattle.vcm_loader.proofs.Kinded.{tells_end}
use Rattle.vcm_loader.proofs.valid.ends.Goals as goal

pub returns-in-Some : goal.returns-in-Some
returns-in-Some c =
    tells_end c.args.statements.now c.in-Some.last.now c.is_end.result (ap option_copied (sym c.in-Some.is) ∙ c.last.ensures.value) c.is_end.ensures

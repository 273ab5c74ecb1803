use Rattle.std.proofs.Common.{List, replicate, ap, ◌∙◌, None}
use Rattle.vcm_untried.specs.declared.rows.Row.{Row}
use Rattle.vcm_untried.specs.Telling.{Telling}
use Rattle.vcm_untried.proofs.Tables.{replicate_ranged}
use Rattle.vcm_untried.proofs.counting.opening.Goals as goal

pub returns : goal.returns
returns c =
    let with_rows : List Row → Telling = λ rows. record { lost = replicate 7 0; rows = rows; end = None } in
    λ remarks. record {
      taken = c.in_ok-taken.ensures ∙ replicate_ranged 0 0 c.args.statements;
      told = ap with_rows c.new-rows.ensures.items;
    }

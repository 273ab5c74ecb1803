-- A bisection of half widths.
use Rattle.std.specs.Prelude.{ℕ, ◌<◌, ◌≤◌, Option}
use Rattle.vcm_spec.specs.Workpiece.{Workpiece}
use Rattle.vcm_code.specs.declared.code.Code.{Code}
use Rattle.vcm_margin.specs.declared.difference.Met.{Met}
use Rattle.vcm_margin.specs.Margin.{GoesWith, MetBy}

-- with one half width, not below the own one, the run goes as it does; with a greater one it doesn't, or that is past the widest
pub record IsBetween (part : Workpiece) (c : Code) (n tip beyond : ℕ) (found : Option Met) : Type 0 where
  pub least : part.bounds.tip ≤ tip
  pub order : tip < beyond
  pub most : beyond ≤ 50001
  pub goes : GoesWith part c n tip
  pub met : MetBy part c n beyond found

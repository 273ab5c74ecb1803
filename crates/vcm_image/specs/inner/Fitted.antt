-- Codes that fit an image, table by table.
use Rattle.std.specs.Prelude.{◌≤◌, length}
use Rattle.std.specs.List.{AllByRecursion}
use Rattle.vcm_items.specs.NameBytes.{IsName}
use Rattle.vcm_code.specs.declared.code.Code.{Code}
use Rattle.vcm_fields.specs.inner.Fitting.{FitsLine, FitsEntry}
use Rattle.vcm_num.specs.declared.limits.TheConstants.{MOST_NAMES, MOST_STATEMENTS}

-- no table is too long, and all in it fit
pub record TablesFit (c : Code) : Type 0 where
  pub variables : (length c.tables.variables ≤ MOST_NAMES) × AllByRecursion FitsEntry c.tables.variables
  pub features : (length c.tables.features ≤ MOST_NAMES) × AllByRecursion IsName c.tables.features
  pub frames : (length c.tables.frames ≤ MOST_NAMES) × AllByRecursion IsName c.tables.frames
  pub statements : (length c.statements ≤ MOST_STATEMENTS) × AllByRecursion (FitsLine c.version) c.statements

-- Workpieces with tips of other widths.
use Rattle.std.specs.Prelude.{ℕ, Bool, ◌&&◌, not, nat_le}
use Rattle.vcm_num.specs.Point.{coordinate}
use Rattle.vcm_spec.specs.Workpiece.{Workpiece, is_some_met}
use Rattle.vcm_num.specs.declared.limits.TheConstants.{WIDEST_TIP}

-- the same workpiece with a tip of this half width
abbrev pub with_tip : ℕ → Workpiece → Workpiece
with_tip h part = record {
  bounds = record { low = part.bounds.low; high = part.bounds.high; home = part.bounds.home; tip = h };
  blocks = part.blocks;
}

-- whether it may have a tip of this half width: it is at most 50,000 micrometres, and at home that tip meets no block
abbrev pub is_tip : Workpiece → ℕ → Bool
is_tip part h = nat_le h WIDEST_TIP && not (is_some_met h part.blocks (coordinate part.bounds.home))

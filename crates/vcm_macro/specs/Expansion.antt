-- What becomes of a program's macros, and which refusal it gets.
use Rattle.std.specs.Prelude.{◌≡◌, List, Some}
use Rattle.vcm_lines.specs.declared.fault.SourceFault.{SourceFault}
use Rattle.vcm_spec.specs.Phase.{IsClean, FirstFault}
use Rattle.vcm_forms.specs.declared.statement.Statement.{Statement}
use Rattle.vcm_macro.specs.declared.placed.Placed.{Placed}
use Rattle.vcm_macro.specs.Order.{BreaksOrder, order_line}
use Rattle.vcm_macro.specs.Walk.{walk}
use Rattle.vcm_macro.specs.Rules.{BreaksMacros, kept}
use Rattle.vcm_macro.specs.Computed.{macro_fault}

-- no rule of order and of macros is broken, and this is the expanded program
pub record IsExpanded (ss : List Statement) (all : List Placed) : Type 0 where
  pub order : IsClean BreaksOrder ss
  pub macros : IsClean BreaksMacros (walk ss)
  pub is : all ≡ kept (walk ss)

-- the first of the two phases that has a fault has its first fault here, told by the leftmost code of its place
pub data IsRefused (ss : List Statement) (f : SourceFault) : Type 0 where
  in_order : FirstFault BreaksOrder order_line ss f.code f.line → IsRefused ss f
  in_macros : IsClean BreaksOrder ss → macro_fault ss ≡ Some f → IsRefused ss f

-- Statements about these definitions. Each is the contract of a law in src/laws.rt.
use Rattle.std.specs.Prelude.{◌≡◌, List, Some, None}
use Rattle.vcm_lines.specs.declared.fault.SourceFault.{SourceFault}
use Rattle.vcm_spec.specs.Phase.{IsClean, FirstFault}
use Rattle.vcm_forms.specs.declared.statement.Statement.{Statement}
use Rattle.vcm_macro.specs.declared.placed.Placed.{Placed}
use Rattle.vcm_macro.specs.Walk.{walk}
use Rattle.vcm_macro.specs.Rules.{BreaksMacros, macros_line}
use Rattle.vcm_macro.specs.Computed.{macro_fault}
use Rattle.vcm_macro.specs.Expansion.{IsExpanded, IsRefused}

-- the fault that is computed is the first one of the walk
abbrev pub ComputedIsFirst : Type 0
ComputedIsFirst =
    (ss : List Statement) (f : SourceFault) → macro_fault ss ≡ Some f → FirstFault BreaksMacros macros_line (walk ss) f.code f.line

-- where none is computed there is none
abbrev pub NoneIsClean : Type 0
NoneIsClean = (ss : List Statement) → macro_fault ss ≡ None → IsClean BreaksMacros (walk ss)

-- no program is both expanded and refused
abbrev pub ExpandedIsNotRefused : Type 0
ExpandedIsNotRefused = (ss : List Statement) (all : List Placed) (f : SourceFault) → IsExpanded ss all → IsRefused ss f → ⊥

-- a program has one refusal: its code and its line
abbrev pub IsRefusedOnce : Type 0
IsRefusedOnce = (ss : List Statement) (f g : SourceFault) → IsRefused ss f → IsRefused ss g → f ≡ g

-- a program has one expansion
abbrev pub IsExpandedOnce : Type 0
IsExpandedOnce = (ss : List Statement) (all more : List Placed) → IsExpanded ss all → IsExpanded ss more → all ≡ more

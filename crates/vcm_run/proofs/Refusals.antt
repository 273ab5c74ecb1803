-- Refusals of expanded statements.
use Rattle.std.proofs.Common.{◌≡◌, List, inl, inr}
use Rattle.vcm_lines.specs.declared.fault.SourceFault.{SourceFault}
use Rattle.vcm_lines.specs.Fault.{NoMemoryOr}
use Rattle.vcm_forms.specs.declared.statement.Statement.{Statement}
use Rattle.vcm_macro.specs.declared.placed.Placed.{Placed}
use Rattle.vcm_program.specs.declared.accepted.Noticed.{Noticed}
use Rattle.vcm_tree.specs.Acceptance.{IsRefusedPlaced}
use Rattle.vcm_tree.specs.Program.{notices_of}

pub refused_for : (notices : List Noticed) (all : List Placed) (f : SourceFault)
    → NoMemoryOr (λ f. (ss : List Statement) → notices ≡ notices_of ss → IsRefusedPlaced ss all f) f
    → (ss : List Statement) → notices ≡ notices_of ss → NoMemoryOr (IsRefusedPlaced ss all) f
refused_for notices all f (inl e) ss same = inl e
refused_for notices all f (inr p) ss same = inr (p ss same)

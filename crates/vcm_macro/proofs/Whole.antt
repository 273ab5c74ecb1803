-- A text that is read statement by statement, as a whole.
use Rattle.std.proofs.Common.{◌≡◌, List, [], ◌∷◌, Some, subst}
use Rattle.vcm_lines.specs.Fault.{NoMemoryOr}
use Rattle.vcm_lines.specs.declared.fault.SourceFault.{SourceFault}
use Rattle.vcm_forms.specs.declared.statement.Statement.{Statement}
use Rattle.vcm_macro.specs.declared.text.Reading.{Reading}
use Rattle.vcm_macro.specs.Walk.{walk}
use Rattle.vcm_macro.specs.Computed.{macro_fault}
use Rattle.vcm_macro.specs.inner.Expanding.{Walked}
use Rattle.vcm_macro.specs.inner.Reading.{nothing, TellsRead, IsReadTo}
use Rattle.vcm_macro.proofs.Texts.{read_told}
use Rattle.vcm_macro.proofs.Phases.{read_all}
use Rattle.vcm_macro.proofs.Computing.{fault_computed}

pub text_told : (items all was rest : List Statement) (s : Statement) (old : Reading) (f : SourceFault) → items ≡ all → was ≡ s ∷ rest → IsReadTo items old was → NoMemoryOr (TellsRead old s) f
    → NoMemoryOr (λ f. macro_fault all ≡ Some f) f
text_told items all was rest s old f same next g t =
    subst (λ (l : List Statement). NoMemoryOr (λ f. macro_fault l ≡ Some f) f) same (fault_computed items f (read_told items was rest s old f next g t))

pub text_read : (items all rest : List Statement) (r : Reading) → items ≡ all → rest ≡ [] → IsReadTo items r rest → Walked nothing r.done (walk all)
text_read items all rest r same none g = subst (λ (l : List Statement). Walked nothing r.done (walk l)) same (read_all items rest r none g)

-- What a text is refused with, where it is told.
use Rattle.std.proofs.Common.{ℕ, List, Option, Some, None, Result, Ok, Err, IfOk, inl, inr, sym, ap, subst}
use Rattle.vcm_lines.specs.declared.fault.SourceFault.{SourceFault}
use Rattle.vcm_lines.specs.Fault.{NoMemoryOr}
use Rattle.vcm_tree.specs.Acceptance.{IsRefused}
use Rattle.vcm_diagnosis.specs.Judged.{IsToldFirst}
use Rattle.vcm_diagnosis.specs.inner.Refused.{Tells}

told_first : (text : List ℕ) (g : SourceFault) (o : Option SourceFault) → NoMemoryOr (IsRefused text) g → Tells g o → IsToldFirst text o
told_first text g None h t = absurd t
told_first text g (Some f) (inl e) t = absurd (t.1 (ap (λ (x : SourceFault). x.code) e))
told_first text g (Some f) (inr h) t = subst (IsRefused text) (sym t.0) h

pub told_by : {E : Type 0} (text : List ℕ) (g : SourceFault) (r : Result (Option SourceFault) E) → NoMemoryOr (IsRefused text) g → IfOk r (Tells g) → IfOk r (IsToldFirst text)
told_by text g (Ok o) h t = told_first text g o h t
told_by text g (Err e) h t = t

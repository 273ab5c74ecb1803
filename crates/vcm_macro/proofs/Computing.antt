-- The computed first fault is the first fault.
use Rattle.std.proofs.Common.{◌≡◌, ℕ, ◌+◌, List, [], ◌∷◌, Option, Some, None, refl, sym, ap, inl, inr}
use Rattle.vcm_lines.specs.declared.fault.FaultCode.{FaultCode}
use Rattle.vcm_lines.specs.Fault.{NoMemoryOr}
use Rattle.vcm_lines.specs.declared.fault.SourceFault.{SourceFault}
use Rattle.vcm_spec.specs.Phase.{IsClean, FirstFault}
use Rattle.vcm_forms.specs.declared.statement.Statement.{Statement}
use Rattle.vcm_macro.specs.Walk.{Visit, walk}
use Rattle.vcm_macro.specs.Rules.{BreaksMacros, macros_line, codes_at, weight, line_at}
use Rattle.vcm_macro.specs.Computed.{leftmost, fault_or, fault_among, macro_fault}
use Rattle.vcm_macro.specs.inner.Expanding.{AreFine, TellsFirst}
use Rattle.vcm_macro.proofs.CodesAt.{none_left}
use Rattle.vcm_macro.proofs.Phases.{all_clean, first_told}

fault_is : (n : ℕ) (ps : List Visit) (f : SourceFault) → fault_among n ps ≡ Some f → TellsFirst n ps f
fault_is n [] f e = absurd cc
fault_is n (p ∷ ps) f e = by_code (leftmost (codes_at n p)) refl e (fault_is (n + weight p) ps f)
  where
    by_code : (o : Option FaultCode) → leftmost (codes_at n p) ≡ o → fault_or o (line_at p) (fault_among (n + weight p) ps) ≡ Some f
        → (fault_among (n + weight p) ps ≡ Some f → TellsFirst (n + weight p) ps f) → TellsFirst n (p ∷ ps) f
    by_code None q e ih = inr (none_left (codes_at n p) q, ih e)
    by_code (Some c) q e ih =
        let same : record { code = c; line = line_at p } ≡ f = cc in
        rw (← same) (inl (q, refl))

fine_is : (n : ℕ) (ps : List Visit) → fault_among n ps ≡ None → AreFine n ps
fine_is n [] e = tt
fine_is n (p ∷ ps) e = by_code (leftmost (codes_at n p)) refl e (fine_is (n + weight p) ps)
  where
    by_code : (o : Option FaultCode) → leftmost (codes_at n p) ≡ o → fault_or o (line_at p) (fault_among (n + weight p) ps) ≡ None
        → (fault_among (n + weight p) ps ≡ None → AreFine (n + weight p) ps) → AreFine n (p ∷ ps)
    by_code None q e ih = (none_left (codes_at n p) q, ih e)
    by_code (Some c) q e ih = absurd cc

pub computed_fault : (ss : List Statement) (f : SourceFault) → macro_fault ss ≡ Some f → FirstFault BreaksMacros macros_line (walk ss) f.code f.line
computed_fault ss f e = first_told (walk ss) f (fault_is 0 (walk ss) f e)

pub computed_clean : (ss : List Statement) → macro_fault ss ≡ None → IsClean BreaksMacros (walk ss)
computed_clean ss e = all_clean (walk ss) (fine_is 0 (walk ss) e)

-- and the other way round
fault_told : (n : ℕ) (ps : List Visit) (f : SourceFault) → TellsFirst n ps f → fault_among n ps ≡ Some f
fault_told n [] f t = absurd t
fault_told n (p ∷ ps) f (inl t) = let same : f ≡ record { code = f.code; line = line_at p } = ap (λ (l : ℕ). record { code = f.code; line = l }) t.1 in rw t.0 (ap Some (sym same))
fault_told n (p ∷ ps) f (inr t) = rw t.0 (fault_told (n + weight p) ps f t.1)

pub fault_computed : (ss : List Statement) (f : SourceFault) → NoMemoryOr (TellsFirst 0 (walk ss)) f → NoMemoryOr (λ f. macro_fault ss ≡ Some f) f
fault_computed ss f (inl e) = inl e
fault_computed ss f (inr t) = inr (fault_told 0 (walk ss) f t)

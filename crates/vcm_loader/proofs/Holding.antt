-- What is told of statements in memory.
use Rattle.std.proofs.Common.{◌≡◌, List, [], ◌∷◌, Bool, true, false, refl, sym, ◌∙◌, subst}
use Rattle.std.specs.Prelude.{flat_map}
use Rattle.std.specs.List.{AllByRecursion}
use Rattle.vcm_code.specs.declared.code.Code.{Code}
use Rattle.vcm_code.specs.Copies.{listed}
use Rattle.vcm_spec.specs.declared.simple.Simple.TheVariants.{GoHome}
use Rattle.vcm_code.specs.declared.op.Op.TheVariants.{Plain, EndFil}
use Rattle.vcm_fields.specs.declared.fault.ImageFault.{ImageFault}
use Rattle.vcm_code.specs.Deciding.{Tells}
use Rattle.vcm_code.specs.Valid.{Ends, IsValid}
use Rattle.vcm_code.specs.Code.{Op}
use Rattle.vcm_code.specs.Checks.{Check, Counts, AllHold, op_checks}
use Rattle.vcm_loader.specs.Loading.{FirstFailedCheck}
use Rattle.vcm_loader.specs.inner.Holding.{LineHolds}
use Rattle.vcm_loader.proofs.Refusals.{none_first}
use Rattle.vcm_code.proofs.Checked.{hold_append, hold_front, hold_back}
use Rattle.vcm_loader.proofs.Lines.{of_line, judged}

-- lists of checks, one behind the other
each_holds : {A : Type 0} (wanted : A → List Check) (xs : List A) → AllHold (flat_map wanted xs) → AllByRecursion (λ x. AllHold (wanted x)) xs
each_holds wanted [] h = tt
each_holds wanted (x ∷ xs) h = (hold_front (wanted x) (flat_map wanted xs) h, each_holds wanted xs (hold_back (wanted x) (flat_map wanted xs) h))

all_holds : {A : Type 0} (wanted : A → List Check) (xs : List A) → AllByRecursion (λ x. AllHold (wanted x)) xs → AllHold (flat_map wanted xs)
all_holds wanted [] h = tt
all_holds wanted (x ∷ xs) h = hold_append (wanted x) (flat_map wanted xs) h.0 (all_holds wanted xs h.1)

-- texts are not judged
pub textless : (t : Counts) (o : Op) → op_checks t (listed (λ e. e) (λ b. []) (λ b. b) o) ≡ op_checks t o
textless t EndFil = refl
textless t (Plain GoHome) = refl
textless t (Plain _) = refl
textless t _ = refl

-- what the judge answers of a statement in memory
pub held : (t : Counts) (o : Op) → AllHold (op_checks t (listed (λ e. e) (λ b. []) (λ b. b) o)) → Tells true (AllHold (op_checks t o))
held t o h = record { so = λ e. subst AllHold (textless t o) h; only = λ g. refl }

pub not_held : (t : Counts) (o : Op) (e : ImageFault) → FirstFailedCheck (op_checks t (listed (λ e. e) (λ b. []) (λ b. b) o)) e → Tells false (AllHold (op_checks t o))
not_held t o e f = record { so = λ g. absurd cc; only = λ g. absurd (none_first (op_checks t o) e g (subst (λ cs. FirstFailedCheck cs e) (textless t o) f)) }

-- what all statements of a code hold
abbrev AllLines : Code → Type 0
AllLines c = AllByRecursion (LineHolds (judged c)) c.statements

-- a code is valid where its statements hold and it ends with ENDFIL
pub tells_valid : (c : Code) (r : Bool) → AllLines c → Tells r (Ends c.statements) → Tells r (IsValid c)
tells_valid c r h t = record { so = λ e. record { fit = all_holds (of_line (judged c)) c.statements h; ends = t.so e }; only = λ v. t.only v.ends }

pub not_valid : (c : Code) (r : Bool) → Tells r (AllLines c) → r ≡ false → Tells r (IsValid c)
not_valid c r t f = record {
  so = λ e. absurd (let both : true ≡ false = sym e ∙ f in cc);
  only = λ v. t.only (each_holds (of_line (judged c)) c.statements v.fit);
}

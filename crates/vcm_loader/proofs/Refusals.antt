-- Which refusals loading tells: none of a valid code but want of memory, and never two.
use Rattle.std.proofs.Common.{◌≡◌, inl, inr, ℕ, List, [], ◌∷◌, Result, Ok, Err, refl, sym, ap, ◌∙◌, subst}
use Rattle.std.specs.Prelude.{IfErr}
use Rattle.vcm_code.specs.declared.code.Code.{Code}
use Rattle.vcm_code.specs.Valid.{IsValid}
use Rattle.vcm_fields.specs.declared.fault.ImageFault.{ImageFault}
use Rattle.vcm_fields.specs.declared.fault.ImageFault.TheVariants.{NoMemory, BadMagic, Short, BadVersion, BadField, Trailing, BadIndex, BadTarget, BadOperand, RunsOff}
use Rattle.vcm_image.specs.Whole.{FitsImage, spelling, code_at}
use Rattle.vcm_image.proofs.Wholes.{code_again}
use Rattle.vcm_image.proofs.ImageLaws.{one_image}
use Rattle.vcm_code.specs.Checks.{Check, AllHold, checks}
use Rattle.vcm_loader.specs.Loading.{FirstFailedCheck, LoadFault}
use Rattle.vcm_loader.specs.Laws.{ValidCodesHaveNoRefusal, RefusalsAreOne, WrittenIsLoaded}

-- where all checks hold, none is told of
pub none_first : (cs : List Check) (e : ImageFault) → AllHold cs → ¬ FirstFailedCheck cs e
none_first [] e h f = f
none_first (c ∷ cs) e h (inl f) = none_first cs e h.1 f.1
none_first (c ∷ cs) e h (inr f) = f.0 h.0

-- the first fault is one
one_first : (cs : List Check) (d e : ImageFault) → FirstFailedCheck cs d → FirstFailedCheck cs e → d ≡ e
one_first [] d e f g = absurd f
one_first (c ∷ cs) d e (inl f) (inl g) = one_first cs d e f.1 g.1
one_first (c ∷ cs) d e (inl f) (inr g) = absurd (g.0 f.0)
one_first (c ∷ cs) d e (inr f) (inl g) = absurd (f.0 g.0)
one_first (c ∷ cs) d e (inr f) (inr g) = f.1 ∙ sym g.1

pub no_refusal : ValidCodesHaveNoRefusal
no_refusal c e v (inl f) = none_first (checks c) e v.fit f
no_refusal c e v (inr f) = f.1.0 v.ends

pub one_refusal : RefusalsAreOne
one_refusal c d e (inl f) (inl g) = one_first (checks c) d e f g
one_refusal c d e (inl f) (inr g) = absurd (none_first (checks c) d g.0 f)
one_refusal c d e (inr f) (inl g) = absurd (none_first (checks c) e f.0 g)
one_refusal c d e (inr f) (inr g) = f.1.1 ∙ sym g.1.1

-- of a valid code want of memory alone
only_memory : (c : Code) (e : ImageFault) → IsValid c → LoadFault (Ok c) e → e ≡ NoMemory
only_memory c NoMemory v f = refl
only_memory c BadMagic v f = absurd (no_refusal c BadMagic v f)
only_memory c Short v f = absurd (no_refusal c Short v f)
only_memory c BadVersion v f = absurd (no_refusal c BadVersion v f)
only_memory c BadField v f = absurd (no_refusal c BadField v f)
only_memory c Trailing v f = absurd (no_refusal c Trailing v f)
only_memory c BadIndex v f = absurd (no_refusal c BadIndex v f)
only_memory c BadTarget v f = absurd (no_refusal c BadTarget v f)
only_memory c BadOperand v f = absurd (no_refusal c BadOperand v f)
only_memory c RunsOff v f = absurd (no_refusal c RunsOff v f)

pub is_only : {X : Type 0} (bytes : List ℕ) (r : Result X ImageFault) → IfErr r (λ e. LoadFault (code_at bytes) e) → (c : Code) → FitsImage c → IsValid c
    → bytes ≡ spelling c → IfErr r (λ e. e ≡ NoMemory)
is_only bytes (Ok x) h c f v e = tt
is_only bytes (Err d) h c f v e = only_memory c d v (subst (λ r. LoadFault r d) (ap code_at e ∙ code_again c f) h)

pub written_loaded : WrittenIsLoaded
written_loaded c d e f v g s = (one_image d c g f s, λ h. only_memory c e v (subst (λ r. LoadFault r e) (code_again c f) h))

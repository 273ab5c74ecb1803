-- What was written of the listing of an input, and what a listing gives.
use Rattle.std.proofs.Common.{◌≡◌, ℕ, List, Option, refl, subst, sym}
use Rattle.std.specs.Prelude.{IfSome, IfOk, IfErr, Result, Ok, Err}
use Rattle.vcm_num.specs.Written.{AppendsFront}
use Rattle.vcm_program.specs.declared.accepted.Noticed.{Noticed}
use Rattle.vcm_code.specs.declared.code.Code.{Code}
use Rattle.vcm_code.specs.Valid.{IsValid}
use Rattle.vcm_image.specs.Whole.{FitsImage, spelling}
use Rattle.vcm_words.specs.Rows.{listing}
use Rattle.vcm_words.specs.declared.fault.ListFault.{ListFault}
use Rattle.vcm_words.specs.Outcomes.{FaultOrWant}
use Rattle.vcm_job.specs.declared.fault.Fault.{Fault}
use Rattle.vcm_job.specs.declared.fault.Fault.TheVariants.{NoMemory}
use Rattle.vcm_job.specs.inner.Judged.{IsRefusedAs}
use Rattle.vcm_job.specs.declared.fault.InputRefusal.{InputRefusal}
use Rattle.vcm_job.specs.Inputs.{IsInputRefusal}
use Rattle.vcm_job.specs.Listings.{IsPrinted, IsListed, IsListCutOff, IsNotListed}
use Rattle.vcm_job.proofs.UnreadLemmas.{known, refused_whole}

-- a front of the listing was written
pub list_cut_off : (a : Option (List ℕ)) (bytes : List ℕ) → IfSome a (λ input. bytes ≡ input) → (text : List ℕ) (notices : List Noticed) → IsListed bytes text notices
    → (old new : Option (List ℕ)) → AppendsFront old new text → ◌≡◌ {A = ℕ} 0 0 × IfSome a (λ input. IsListCutOff input old new)
list_cut_off a bytes all text notices listed old new front =
    (refl, known a _ _ all (λ input is. subst (λ i. IsListCutOff i old new) is (record { text = text; notices = notices; listed = listed; front = front })))

-- the image of the code of a listing
pub image_of_listing : {A : Type 0} (items : A → List ℕ) (text : List ℕ) (code : Code) (r : Result A (Fault ListFault)) → FitsImage code × (IsValid code × (text ≡ listing code))
    → IfOk r (λ v. items v ≡ spelling code) → IfOk r (λ v. IsPrinted (items v) text)
image_of_listing items text code (Ok v) (fits, (valid, listed)) e = record { code = code; valid = valid; fits = fits; spelled = e; listed = listed }
image_of_listing items text code (Err f) h e = tt

-- a code without an image
pub image_refused : {A : Type 0} (text : List ℕ) (r : Result A (Fault ListFault)) → IfErr r (λ f. f ≡ NoMemory) → IfErr r (IsRefusedAs (FaultOrWant text))
image_refused text (Ok v) h = tt
image_refused text (Err f) h = subst (IsRefusedAs (FaultOrWant text)) (sym h) tt

-- what was read whole has no listing
pub not_listed : (a b : Option (List ℕ)) (bytes : List ℕ) (f : Fault InputRefusal) (old : Option (List ℕ)) → IfSome a (λ input. bytes ≡ input) → IsRefusedAs (IsInputRefusal bytes) f
    → IsNotListed a b f old old
not_listed a b bytes f old all h = refused_whole IsInputRefusal a b bytes all _ _ f old h

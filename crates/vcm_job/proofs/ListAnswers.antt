-- Two answers to one input that is listed, or to one listing whose image is made, are one.
use Rattle.std.proofs.Common.{◌≡◌, ℕ, Bool, true, false, List, [], refl, sym, ap, ◌∙◌, subst}
use Rattle.vcm_program.specs.declared.accepted.Noticed.{Noticed}
use Rattle.vcm_image.specs.Whole.{spelling}
use Rattle.vcm_image.proofs.ImageLaws.{one_image}
use Rattle.vcm_words.specs.Rows.{listing}
use Rattle.vcm_listing.proofs.ListingLaws.{listing_once}
use Rattle.vcm_run.proofs.OneRun.{one_build}
use Rattle.vcm_words.specs.Outcomes.{FaultOrWant}
use Rattle.vcm_job.specs.Inputs.{is_image, IsInputRefusal}
use Rattle.vcm_job.specs.Listings.{IsPrinted, ListedAs, IsListed, IsWrittenOut}
use Rattle.vcm_job.specs.Causes.{Cause, input_cause, listing_cause}
use Rattle.vcm_job.specs.Laws.{ListAnswersAreOne, AsmAnswersAreOne}
use Rattle.vcm_job.proofs.Answering.{written_once, given_once}
use Rattle.vcm_job.proofs.Told.{never_text, never_bad_image, RefusedAs, InputRefused, one_input, ListingRefused, one_listing, never_listing, listing_told}
use Rattle.vcm_job.proofs.RunAnswers.{input_told}

-- an image has one listing
one_text_of : (image text other : List ℕ) → IsPrinted image text → IsPrinted image other → text ≡ other
one_text_of image text other h k =
    let same : h.code ≡ k.code = one_image h.code k.code h.fits k.fits (sym h.spelled ∙ k.spelled) in
    h.listed ∙ ap listing same ∙ sym k.listed

-- a listing has one image
one_image_of : (image other text : List ℕ) → IsPrinted image text → IsPrinted other text → image ≡ other
one_image_of image other text h k =
    let same : h.code ≡ k.code = listing_once h.code k.code h.fits k.fits (sym h.listed ∙ k.listed) in
    h.spelled ∙ ap spelling same ∙ sym k.spelled

-- ---- listings of inputs

abbrev ListGives : List ℕ → List Noticed → List ℕ → Type 0
ListGives input notices text = IsListed input text notices

one_listed_as : (image : Bool) (input : List ℕ) (a b : List Noticed) (xs ys : List ℕ) → ListedAs image input xs a → ListedAs image input ys b → (a ≡ b) × (xs ≡ ys)
one_listed_as true input a b xs ys h k = (h.1 ∙ sym k.1, one_text_of input xs ys h.0 k.0)
one_listed_as false input a b xs ys h k =
    let same = one_build input h.0 k.0 a b h.1.0 k.1.0 in
    (same.1, one_text_of k.0 xs ys (subst (λ (l : List ℕ). IsPrinted l xs) same.0 h.1.1) k.1.1)

never_listed_as : (image : Bool) (input : List ℕ) (b : List Noticed) (xs : List ℕ) (c : Cause) → ListedAs image input xs b → RefusedAs image input c → ⊥
never_listed_as true input b xs c h k = never_bad_image input h.0.code c h.0.valid h.0.fits h.0.spelled k
never_listed_as false input b xs c h k = never_text input h.1.0.parsed c h.1.0.accepted k

module _ (input : List ℕ) where
  one_list_given : (a b : List Noticed) (xs ys : List ℕ) → ListGives input a xs → ListGives input b ys → (a ≡ b) × (xs ≡ ys)
  one_list_given a b xs ys h k = one_listed_as (is_image input) input a b xs ys h k

  never_list_given : (b : List Noticed) (xs : List ℕ) (c : Cause) → ListGives input b xs → InputRefused input c → ⊥
  never_list_given b xs c h k = never_listed_as (is_image input) input b xs c h k

pub list_answers : ListAnswersAreOne
list_answers input =
    written_once (λ v. v.items) input_cause IsInputRefusal input (ListGives input) (InputRefused input) (input_told input) (one_list_given input) (one_input input)
    (never_list_given input) (λ v old new. IsWrittenOut input v.items old new) _ _ (λ v old new h. (h.text, (h.listed, h.written)))

-- ---- images of listings

abbrev AsmGives : List ℕ → List ℕ → List ℕ → Type 0
AsmGives text image bytes = IsPrinted image text × (bytes ≡ [])

module _ (text : List ℕ) where
  one_asm_given : (a b xs ys : List ℕ) → AsmGives text a xs → AsmGives text b ys → (a ≡ b) × (xs ≡ ys)
  one_asm_given a b xs ys h k = (one_image_of a b text h.0 k.0, h.1 ∙ sym k.1)

  never_asm_given : (b xs : List ℕ) (c : Cause) → AsmGives text b xs → ListingRefused text c → ⊥
  never_asm_given b xs c h k = never_listing text h.0.code c h.0.valid h.0.fits h.0.listed k

pub asm_answers : AsmAnswersAreOne
asm_answers text =
    given_once (λ v. v.items) listing_cause FaultOrWant text (AsmGives text) (ListingRefused text) (listing_told text) (one_asm_given text) (one_listing text)
    (never_asm_given text) (λ v. IsPrinted v.items text) (λ v h. (h, refl))

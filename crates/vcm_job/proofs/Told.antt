-- What the refusals of texts, images, listings and part files tell, and that no input has two.
use Rattle.std.proofs.Common.{◌≡◌, ◌≢◌, ◌⊎◌, inl, inr, ℕ, Bool, true, false, List, Some, Ok, Err, refl, sym, ap, ◌∙◌, subst}
use Rattle.vcm_lines.specs.declared.fault.SourceFault.{SourceFault}
use Rattle.vcm_lines.specs.declared.fault.FaultCode.{FaultCode}
use Rattle.vcm_lines.specs.declared.fault.FaultCode.TheVariants as text_codes
use Rattle.vcm_lines.specs.Fault.{NoMemoryOr}
use Rattle.vcm_part.specs.declared.fault.PartFault.{PartFault}
use Rattle.vcm_part.specs.declared.fault.PartCode.{PartCode}
use Rattle.vcm_part.specs.declared.fault.PartCode.TheVariants as part_codes
use Rattle.vcm_part.specs.Faults.{fault}
use Rattle.vcm_part.specs.PartFile.{part_of}
use Rattle.vcm_spec.specs.Workpiece.{Workpiece}
use Rattle.vcm_tree.specs.Acceptance.{IsAccepted, IsRefused}
use Rattle.vcm_program.specs.Program.{Parsed}
use Rattle.vcm_tree.proofs.AcceptanceLaws.{not_refused, one_refusal}
use Rattle.vcm_code.specs.declared.code.Code.{Code}
use Rattle.vcm_code.specs.Valid.{IsValid}
use Rattle.vcm_fields.specs.declared.fault.ImageFault.{ImageFault}
use Rattle.vcm_fields.specs.declared.fault.ImageFault.TheVariants as image_faults
use Rattle.vcm_image.specs.Whole.{FitsImage, spelling, code_at}
use Rattle.vcm_loader.specs.Loading.{LoadFault}
use Rattle.vcm_loader.proofs.Refusals.{written_loaded}
use Rattle.vcm_words.specs.declared.fault.ListFault.{ListFault}
use Rattle.vcm_words.specs.declared.fault.ListCode.{ListCode}
use Rattle.vcm_words.specs.declared.fault.ListCode.TheVariants as list_codes
use Rattle.vcm_words.specs.Rows.{listing}
use Rattle.vcm_words.specs.Outcomes.{ListingFault, FaultOrWant}
use Rattle.vcm_listing.proofs.FaultLaws.{one_fault, none_of_valid}
use Rattle.vcm_run.specs.declared.run.Refusal.{Refusal}
use Rattle.vcm_run.specs.declared.run.Refusal.TheVariants.{Source, Part, NoMemory}
use Rattle.vcm_run.specs.Programs.{IsRefusal}
use Rattle.vcm_run.proofs.OneRun.{one_image_refusal}
use Rattle.vcm_job.specs.Causes.{Cause, at_line, bad_image, bad_listing, bad_part, text_cause, image_cause, listing_cause, part_cause, refusal_cause}
use Rattle.vcm_job.specs.Inputs.{is_image}

-- ---- texts

-- a text is refused, and its line is told
pub record TextRefused (text : List ℕ) (c : Cause) : Type 0 where
  pub fault : SourceFault
  pub refused : IsRefused text fault
  pub told_is : c ≡ at_line fault.line

pub one_text : (text : List ℕ) (c d : Cause) → TextRefused text c → TextRefused text d → c ≡ d
one_text text c d h k = h.told_is ∙ ap at_line (one_refusal text h.fault k.fault h.refused k.refused) ∙ sym k.told_is

pub never_text : (text : List ℕ) (p : Parsed) (c : Cause) → IsAccepted text p → TextRefused text c → ⊥
never_text text p c accepted h = not_refused text p h.fault accepted h.refused

abbrev text_fault : FaultCode → ℕ → SourceFault
text_fault code line = record { code = code; line = line }

line_of : (code : FaultCode) (line : ℕ) (c : Cause) → text_cause (text_fault code line) ≡ Some c → c ≡ at_line line
line_of text_codes.NoMemory line c e = absurd cc
line_of _ line c e = cc

pub text_told : (text : List ℕ) (f : SourceFault) (c : Cause) → NoMemoryOr (IsRefused text) f → text_cause f ≡ Some c → TextRefused text c
text_told text f c (inl is) e = let want = subst (λ g. text_cause g ≡ Some c) is e in absurd cc
text_told text f c (inr h) e = record { fault = f; refused = h; told_is = line_of f.code f.line c e }

pub program_told : (text : List ℕ) (r : Refusal) (c : Cause) → IsRefusal text r → refusal_cause r ≡ Some c → TextRefused text c
program_told text (Source f) c h e = text_told text f c h e
program_told text (Part f) c h e = absurd h
program_told text NoMemory c h e = absurd cc

-- ---- images

-- an image is refused so
pub record ImageRefused (bytes : List ℕ) (c : Cause) : Type 0 where
  pub fault : ImageFault
  pub refused : LoadFault (code_at bytes) fault
  pub other : fault ≢ image_faults.NoMemory
  pub told_is : c ≡ bad_image fault

pub one_bad_image : (bytes : List ℕ) (c d : Cause) → ImageRefused bytes c → ImageRefused bytes d → c ≡ d
one_bad_image bytes c d h k = h.told_is ∙ ap bad_image (one_image_refusal bytes h.fault k.fault h.refused k.refused h.other k.other) ∙ sym k.told_is

pub never_bad_image : (bytes : List ℕ) (code : Code) (c : Cause) → IsValid code → FitsImage code → bytes ≡ spelling code → ImageRefused bytes c → ⊥
never_bad_image bytes code c valid fits spelled h =
    h.other ((written_loaded code code h.fault fits valid fits refl).1 (subst (λ l. LoadFault (code_at l) h.fault) spelled h.refused))

pub image_told : (bytes : List ℕ) (e : ImageFault) (c : Cause) → LoadFault (code_at bytes) e → image_cause e ≡ Some c → ImageRefused bytes c
image_told bytes e c h is = record { fault = e; refused = h; other = other e is; told_is = told e is }
  where
    other : (e : ImageFault) → image_cause e ≡ Some c → e ≢ image_faults.NoMemory
    other e is want = let none = subst (λ x. image_cause x ≡ Some c) want is in absurd cc

    told : (e : ImageFault) → image_cause e ≡ Some c → c ≡ bad_image e
    told image_faults.NoMemory is = absurd cc
    told _ is = cc

-- ---- inputs that are images or texts

-- an image is refused, or a text is
abbrev pub RefusedAs : Bool → List ℕ → Cause → Type 0
RefusedAs true input c = ImageRefused input c
RefusedAs false input c = TextRefused input c

abbrev pub InputRefused : List ℕ → Cause → Type 0
InputRefused input c = RefusedAs (is_image input) input c

one_as : (image : Bool) (input : List ℕ) (c d : Cause) → RefusedAs image input c → RefusedAs image input d → c ≡ d
one_as true input c d h k = one_bad_image input c d h k
one_as false input c d h k = one_text input c d h k

pub one_input : (input : List ℕ) (c d : Cause) → InputRefused input c → InputRefused input d → c ≡ d
one_input input c d h k = one_as (is_image input) input c d h k

-- ---- listings

-- a listing is refused so
pub record ListingRefused (text : List ℕ) (c : Cause) : Type 0 where
  pub fault : ListFault
  pub refused : ListingFault text fault
  pub told_is : c ≡ bad_listing fault

pub one_listing : (text : List ℕ) (c d : Cause) → ListingRefused text c → ListingRefused text d → c ≡ d
one_listing text c d h k = h.told_is ∙ ap bad_listing (one_fault text h.fault k.fault h.refused k.refused) ∙ sym k.told_is

pub never_listing : (text : List ℕ) (code : Code) (c : Cause) → IsValid code → FitsImage code → text ≡ listing code → ListingRefused text c → ⊥
never_listing text code c valid fits listed h = none_of_valid code h.fault fits valid (subst (λ l. ListingFault l h.fault) listed h.refused)

abbrev list_fault : ListCode → ℕ → ListFault
list_fault code line = record { code = code; line = line }

listing_of : (code : ListCode) (line : ℕ) (c : Cause) → listing_cause (list_fault code line) ≡ Some c → c ≡ bad_listing (list_fault code line)
listing_of list_codes.NoMemory line c e = absurd cc
listing_of _ line c e = cc

pub listing_told : (text : List ℕ) (f : ListFault) (c : Cause) → FaultOrWant text f → listing_cause f ≡ Some c → ListingRefused text c
listing_told text f c (inl want) e = let none = subst (λ code. listing_cause (list_fault code f.line) ≡ Some c) want.0 e in absurd cc
listing_told text f c (inr h) e = record { fault = f; refused = h; told_is = listing_of f.code f.line c e }

-- ---- part files

-- a part file is refused so
pub record PartRefused (file : List ℕ) (c : Cause) : Type 0 where
  pub fault : PartFault
  pub refused : part_of file ≡ Err fault
  pub told_is : c ≡ bad_part fault

pub one_part : (file : List ℕ) (c d : Cause) → PartRefused file c → PartRefused file d → c ≡ d
one_part file c d h k = let p = h.refused in let q = k.refused in let same : h.fault ≡ k.fault = cc in h.told_is ∙ ap bad_part same ∙ sym k.told_is

pub never_part : (file : List ℕ) (part : Workpiece) (c : Cause) → part_of file ≡ Ok part → PartRefused file c → ⊥
never_part file part c e h = let p = h.refused in absurd cc

abbrev part_fault : PartCode → ℕ → PartFault
part_fault code block = record { code = code; block = block }

part_told_of : (code : PartCode) (block : ℕ) (c : Cause) → part_cause (part_fault code block) ≡ Some c → c ≡ bad_part (part_fault code block)
part_told_of part_codes.NoMemory block c e = absurd cc
part_told_of _ block c e = cc

pub part_told : (file : List ℕ) (e : PartFault) (c : Cause) → (e ≡ fault part_codes.NoMemory 0) ⊎ (part_of file ≡ Err e) → part_cause e ≡ Some c → PartRefused file c
part_told file e c (inl want) is = let none = subst (λ x. part_cause x ≡ Some c) want is in absurd cc
part_told file e c (inr h) is = record { fault = e; refused = h; told_is = part_told_of e.code e.block c is }

-- The laws of images.
use Rattle.std.proofs.Common.{◌≡◌, ◌≢◌, ℕ, ◌<◌, ◌⊎◌, inl, inr, List, get_or, Result, Ok, Err, refl, sym, ap, ◌∙◌}
use Rattle.vcm_code.specs.declared.code.Code.{Code}
use Rattle.vcm_fields.specs.declared.fault.ImageFault.{ImageFault}
use Rattle.vcm_image.specs.Whole.{FitsImage, spelling, code_at}
use Rattle.vcm_image.proofs.Wholes.{code_takes, code_again}

one_code : (c d : Code) → (r : Result Code ImageFault) → r ≡ Ok c → r ≡ Ok d → c ≡ d
one_code c d r e f = let both : Ok c ≡ Ok d = sym e ∙ f in cc

pub one_image : (c d : Code) → FitsImage c → FitsImage d → spelling c ≡ spelling d → c ≡ d
one_image c d f g e = one_code c d (code_at (spelling c)) (code_again c f) (ap code_at e ∙ code_again d g)

-- ---- changes

pub changed : (c : Code) (bytes : List ℕ) → ((i : ℕ) → get_or bytes i 0 < 256) → bytes ≢ spelling c
    → ((e : ImageFault) × (code_at bytes ≡ Err e)) ⊎ ((d : Code) × FitsImage d × (bytes ≡ spelling d) × (d ≢ c))
changed c bytes b differ = split (code_at bytes) refl
  where
    split : (r : Result Code ImageFault) → code_at bytes ≡ r → ((e : ImageFault) × (code_at bytes ≡ Err e)) ⊎ ((d : Code) × FitsImage d × (bytes ≡ spelling d) × (d ≢ c))
    split (Err e) h = inl (e, h)
    split (Ok d) h = let t = code_takes bytes d b h in inr (d, t.0, t.1, λ same. differ (t.1 ∙ ap spelling same))

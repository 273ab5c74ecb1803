-- What the reading of a listing refuses.
use Rattle.std.proofs.Common.{◌≡◌, ◌⊎◌, inl, inr, ℕ, ◌+◌, Bool, true, false, List, [], ◌∷◌, length, Result, Ok, Err, refl, sym, ap, ◌∙◌, subst, arith}
use Rattle.vcm_code.specs.declared.code.Code.{Code}
use Rattle.vcm_code.specs.Valid.{IsValid}
use Rattle.vcm_code.specs.Deciding.{Tells}
use Rattle.vcm_image.specs.Whole.{FitsImage}
use Rattle.vcm_image.proofs.ByTables.{tables_fit}
use Rattle.vcm_words.specs.declared.fault.ListCode.TheVariants.{NotValid}
use Rattle.vcm_words.specs.declared.fault.ListFault.{ListFault}
use Rattle.vcm_words.specs.Cutting.{split}
use Rattle.vcm_words.specs.Rows.{ListRow, rows, listing}
use Rattle.vcm_words.specs.Listing.{told, code_listed}
use Rattle.vcm_words.specs.Outcomes.{IsWant, GivesOrWants, last_line, ListingFault, FaultOrWant}
use Rattle.vcm_listing.proofs.ListingRead.{ended_lines, code_takes}
use Rattle.vcm_listing.proofs.ListingLaws.{code_again, rows_fit, cut_lines}

good : Code → Result Code ListFault
good c = Ok c

good_is : (c d : Code) → good c ≡ good d → c ≡ d
unfolding good
good_is c d e = cc

bad : ListFault → Result Code ListFault
bad f = Err f

bad_is : (f g : ListFault) → bad f ≡ bad g → f ≡ g
unfolding bad
bad_is f g e = cc

-- bytes are listed as one code, or refused
same_code : (bytes : List ℕ) (c d : Code) → code_listed bytes ≡ Ok c → code_listed bytes ≡ Ok d → c ≡ d
unfolding good
same_code bytes c d e f = good_is c d (sym e ∙ f)

same_fault : (bytes : List ℕ) (f g : ListFault) → code_listed bytes ≡ Err f → code_listed bytes ≡ Err g → f ≡ g
unfolding bad
same_fault bytes f g e h = bad_is f g (sym e ∙ h)

differ : (c : Code) (f : ListFault) → good c ≡ bad f → ⊥
unfolding good bad
differ c f e = cc

not_both : (bytes : List ℕ) (c : Code) (f : ListFault) → code_listed bytes ≡ Ok c → code_listed bytes ≡ Err f → ⊥
unfolding good bad
not_both bytes c f e h = differ c f (sym e ∙ h)

pub one_fault : (bytes : List ℕ) (f g : ListFault) → ListingFault bytes f → ListingFault bytes g → f ≡ g
one_fault bytes f g (inl e) (inl h) = same_fault bytes f g e h
one_fault bytes f g (inl e) (inr h) = absurd (not_both bytes h.0 f h.1 e)
one_fault bytes f g (inr e) (inl h) = absurd (not_both bytes e.0 g e.1 h)
one_fault bytes f g (inr e) (inr h) = e.3 ∙ sym h.3

-- a code that the bytes of a valid one list is that one
listed_is : (bytes : List ℕ) (c d : Code) → code_listed bytes ≡ Ok c → FitsImage d → bytes ≡ listing d → c ≡ d
listed_is bytes c d e h l = same_code bytes c d e (ap code_listed l ∙ code_again d h)

pub none_of_valid : (c : Code) (f : ListFault) → FitsImage c → IsValid c → ListingFault (listing c) f → ⊥
none_of_valid c f h v (inl e) = not_both (listing c) c f (code_again c h) e
none_of_valid c f h v (inr e) = e.2 (subst (λ (d : Code). IsValid d) (sym (listed_is (listing c) e.0 c e.1 h refl)) v)

-- ---- the last line

lines_length : (rs : List ListRow) → length (ended_lines rs) ≡ length rs + 1
lines_length [] = refl
lines_length (r ∷ rs) = omega (arith, lines_length rs)

last_is : (bytes : List ℕ) (c : Code) → code_listed bytes ≡ Ok c → length (rows c) ≡ last_line bytes
last_is bytes c e =
    let t = code_takes bytes c e in
    let cut : split 10 bytes ≡ ended_lines (rows c) = ap (split 10) t.1 ∙ cut_lines c.version (rows c) (rows_fit c (tables_fit c t.0)) in
    let long = lines_length (rows c) in
    let count : length (split 10 bytes) ≡ length (rows c) + 1 = ap length cut ∙ long in
    omega (arith, count)

-- ---- what was read

-- a code that was listed, and what the test of its validity said
pub valid_is : (bytes : List ℕ) (c : Code) (b : Bool) → code_listed bytes ≡ Ok c → Tells b (IsValid c) → b ≡ true → FitsImage c × (IsValid c × (bytes ≡ listing c))
valid_is bytes c b e t y = let k = code_takes bytes c e in (k.0, (t.so y, k.1))

pub valid_only : (bytes : List ℕ) (c : Code) → code_listed bytes ≡ Ok c → (d : Code) → FitsImage d → IsValid d → bytes ≡ listing d → GivesOrWants (Ok c) (Ok d)
valid_only bytes c e d h v l = ap (λ (x : Code). Ok x) (sym (listed_is bytes c d e h l))

pub refused_only : (bytes : List ℕ) (f : ListFault) → IsWant f ⊎ (code_listed bytes ≡ Err f) → (d : Code) → FitsImage d → IsValid d → bytes ≡ listing d → GivesOrWants (Err f) (Ok d)
refused_only bytes f (inl w) d h v l = inl w
refused_only bytes f (inr e) d h v l = absurd (not_both bytes d f (ap code_listed l ∙ code_again d h) e)

pub refused_fault : (bytes : List ℕ) (f : ListFault) → IsWant f ⊎ (code_listed bytes ≡ Err f) → FaultOrWant bytes f
refused_fault bytes f (inl w) = inl w
refused_fault bytes f (inr e) = inr (inl e)

not_valid : (c : Code) (b : Bool) → Tells b (IsValid c) → b ≡ false → IsValid c → ⊥
not_valid c b t n v = let y = t.only v in let both : true ≡ false = sym y ∙ n in absurd cc

pub invalid_only : (bytes : List ℕ) (c : Code) (b : Bool) (f : ListFault) → code_listed bytes ≡ Ok c → Tells b (IsValid c) → b ≡ false → (d : Code)
    → FitsImage d → IsValid d → bytes ≡ listing d → GivesOrWants (Err f) (Ok d)
invalid_only bytes c b f e t n d h v l = absurd (not_valid c b t n (subst (λ (x : Code). IsValid x) (sym (listed_is bytes c d e h l)) v))

pub invalid_fault : (bytes : List ℕ) (c : Code) (b : Bool) (line : ℕ) → code_listed bytes ≡ Ok c → Tells b (IsValid c) → b ≡ false → line ≡ length (rows c) → FaultOrWant bytes (told line NotValid)
invalid_fault bytes c b line e t n l = inr (inr (c, e, not_valid c b t n, ap (λ (k : ℕ). told k NotValid) (l ∙ last_is bytes c e)))

-- what is listed is in range
pub listed_fits : (bytes : List ℕ) (c : Code) → code_listed bytes ≡ Ok c → FitsImage c
listed_fits bytes c e = (code_takes bytes c e).0

-- The loop over the lines of a listing.
use Rattle.std.proofs.Common.{◌≡◌, ◌⊎◌, inl, inr, ℕ, suc, ◌+◌, ◌<◌, true, false, cond, List, [], ◌∷◌, ◌++◌, length, Result, Ok, Err, refl, sym, ap, ◌∙◌, subst, arith}
use Rattle.std.specs.Prelude.{◌==◌}
use Rattle.std.proofs.lemmas.List.{length-append}
use Rattle.vcm_code.specs.declared.code.Code.{Code}
use Rattle.vcm_code.specs.declared.version.Version.{Version}
use Rattle.vcm_image.specs.inner.Fitted.{TablesFit}
use Rattle.vcm_words.specs.declared.row.Row.TheVariants.{Variable, Feature, Frame, Numbered}
use Rattle.vcm_words.specs.declared.fault.ListCode.{ListCode}
use Rattle.vcm_words.specs.declared.fault.ListCode.TheVariants.{NoMemory, BadLine, BadNumber, OutOfOrder, NotValid}
use Rattle.vcm_words.specs.declared.fault.ListFault.{ListFault}
use Rattle.vcm_words.specs.Cutting.{split, joined}
use Rattle.vcm_words.specs.Rows.{ListRow, numbered, rows, row_of}
use Rattle.vcm_words.specs.Listing.{is_empty, after_line, first_row, after_head, empty, told, on, lines_read, parts_read, code_listed}
use Rattle.vcm_words.specs.Outcomes.{IsWant, GivesOrWants}
use Rattle.vcm_words.specs.inner.Failing.{FailsLine}
use Rattle.vcm_words.proofs.Cuts.{joined-split, split_some}
use Rattle.vcm_words.proofs.RowLaws.{row_takes}
use Rattle.vcm_listing.proofs.ListingRead.{Grows, added_takes, line_takes}

-- what is left of the lines
pub record Left (version : Version) (bytes rest : List ℕ) (code : Code) (line : ℕ) : Type 0 where
  pub same : lines_read 2 (empty version) (split 10 bytes) ≡ lines_read line code (split 10 rest)
  pub fits : TablesFit code
  pub count : line ≡ length (rows code) + 1

numbered-length : {A : Type 0} (f : ℕ → A → ListRow) (n : ℕ) (xs : List A) → length (numbered f n xs) ≡ length xs
numbered-length f n [] = refl
numbered-length f n (x ∷ xs) = ap suc (numbered-length f (suc n) xs)

-- how many lines a code has
pub rows_length : (c : Code) → length (rows c) ≡ 1 + (length c.tables.variables + length c.tables.features + length c.tables.frames) + length c.statements
rows_length c =
    let v = numbered-length Variable 0 c.tables.variables in
    let f = numbered-length Feature 0 c.tables.features in
    let d = numbered-length Frame 0 c.tables.frames in
    let s = numbered-length Numbered 0 c.statements in
    let a = length-append (numbered Variable 0 c.tables.variables) (numbered Feature 0 c.tables.features ++ (numbered Frame 0 c.tables.frames ++ numbered Numbered 0 c.statements)) in
    let b = length-append (numbered Feature 0 c.tables.features) (numbered Frame 0 c.tables.frames ++ numbered Numbered 0 c.statements) in
    let e = length-append (numbered Frame 0 c.tables.frames) (numbered Numbered 0 c.statements) in
    omega (arith, v, f, d, s, a, b, e)

-- there are few lines
pub few_lines : (version : Version) (bytes rest : List ℕ) (c : Code) (line : ℕ) → Left version bytes rest c line → line < 40000
few_lines version bytes rest c line l = omega (arith, l.count, rows_length c, l.fits.variables.0, l.fits.features.0, l.fits.frames.0, l.fits.statements.0)

-- a line that isn't the last part
line_on : (line : ℕ) (c : Code) (rest text after : List ℕ) → split 10 rest ≡ text ∷ split 10 after
    → lines_read line c (split 10 rest) ≡ on line (after_line c (row_of c.version true text) text) (λ d. lines_read (suc line) d (split 10 after))
unfolding lines_read
line_on line c rest text after e =
    let s = split_some 10 after in
    ap (lines_read line c) e ∙ ap (λ ws. lines_read line c (text ∷ ws)) s.2 ∙ ap (λ ws. on line (after_line c (row_of c.version true text) text) (λ d. lines_read (suc line) d ws)) (sym s.2)

pub line_left : (version : Version) (bytes rest : List ℕ) (c d : Code) (line : ℕ) (text after : List ℕ) → Left version bytes rest c line
    → split 10 rest ≡ text ∷ split 10 after → after_line c (row_of c.version true text) text ≡ Ok d → Left version bytes after d (line + 1)
unfolding Grows
line_left version bytes rest c d line text after l e h =
    let q = line_takes c (row_of c.version true text) text d h in
    let t = row_takes c.version text q.0 q.1 in
    let g = added_takes c q.0 d l.fits t.1 q.2 in
    let next : line + 1 ≡ suc line = omega arith in
    record {
      same = l.same ∙ line_on line c rest text after e ∙ ap (λ o. on line o (λ x. lines_read (suc line) x (split 10 after))) h ∙ ap (λ k. lines_read k d (split 10 after)) (sym next);
      fits = g.1;
      count = omega (arith, l.count, ap length g.0, length-append (rows c) (q.0 ∷ []));
    }

-- the fault of a line
pub line_fault : (r : Result Code ListCode) (n : ℕ) (f : Code → Result Code ListFault) (e : ListCode) (fault : ListFault) → FailsLine e r
    → (e ≡ NoMemory → IsWant fault) → ((e ≡ NoMemory → ⊥) → fault ≡ told n e) → IsWant fault ⊎ (on n r f ≡ Err fault)
line_fault r n f e fault (inl h) want tell = inl (want h)
line_fault r n f NoMemory fault (inr h) want tell = inl (want refl)
line_fault r n f BadLine fault (inr h) want tell = inr (ap (λ o. on n o f) h ∙ ap (λ x. Err x) (sym (tell (λ k. absurd cc))))
line_fault r n f BadNumber fault (inr h) want tell = inr (ap (λ o. on n o f) h ∙ ap (λ x. Err x) (sym (tell (λ k. absurd cc))))
line_fault r n f OutOfOrder fault (inr h) want tell = inr (ap (λ o. on n o f) h ∙ ap (λ x. Err x) (sym (tell (λ k. absurd cc))))
line_fault r n f NotValid fault (inr h) want tell = inr (ap (λ o. on n o f) h ∙ ap (λ x. Err x) (sym (tell (λ k. absurd cc))))

or_same : (fault : ListFault) (r s : Result Code ListFault) → r ≡ s → IsWant fault ⊎ (s ≡ Err fault) → IsWant fault ⊎ (r ≡ Err fault)
or_same fault r s e (inl h) = inl h
or_same fault r s e (inr h) = inr (e ∙ h)

pub line_fails : (version : Version) (bytes rest : List ℕ) (c : Code) (line : ℕ) (text after : List ℕ) (e : ListCode) (fault : ListFault)
    → Left version bytes rest c line → split 10 rest ≡ text ∷ split 10 after → FailsLine e (after_line c (row_of c.version true text) text)
    → (e ≡ NoMemory → IsWant fault) → ((e ≡ NoMemory → ⊥) → fault ≡ told line e)
    → IsWant fault ⊎ (lines_read 2 (empty version) (split 10 bytes) ≡ Err fault)
line_fails version bytes rest c line text after e fault l s h want tell =
    or_same fault _ _ (l.same ∙ line_on line c rest text after s) (line_fault (after_line c (row_of c.version true text) text) line (λ d. lines_read (suc line) d (split 10 after)) e fault h want tell)

-- what stands behind the last end
last_is : (rest text : List ℕ) → split 10 rest ≡ text ∷ [] → text ≡ rest
last_is rest text e = sym (ap (joined 10) e) ∙ joined-split 10 rest

last_read : (version : Version) (bytes rest : List ℕ) (c : Code) (line : ℕ) (text : List ℕ) → Left version bytes rest c line → split 10 rest ≡ text ∷ []
    → lines_read 2 (empty version) (split 10 bytes) ≡ cond (is_empty rest) (Ok c) (Err (told line BadLine))
unfolding lines_read
last_read version bytes rest c line text l e =
    l.same ∙ ap (lines_read line c) e ∙ ap (λ (t : List ℕ). lines_read line c (t ∷ [])) (last_is rest text e)

none_behind : (rest : List ℕ) → length rest ≡ 0 → is_empty rest ≡ true
none_behind [] e = refl
none_behind (b ∷ rest) e = absurd (omega (arith, e))

some_behind : (rest : List ℕ) → (length rest ≡ 0 → ⊥) → is_empty rest ≡ false
some_behind [] h = absurd (h refl)
some_behind (b ∷ rest) h = refl

pub all_read : (version : Version) (bytes rest : List ℕ) (c : Code) (line : ℕ) (text : List ℕ) → Left version bytes rest c line → split 10 rest ≡ text ∷ []
    → length rest ≡ 0 → lines_read 2 (empty version) (split 10 bytes) ≡ Ok c
all_read version bytes rest c line text l e h = last_read version bytes rest c line text l e ∙ ap (λ t. cond t (Ok c) (Err (told line BadLine))) (none_behind rest h)

pub unended : (version : Version) (bytes rest : List ℕ) (c : Code) (line : ℕ) (text : List ℕ) → Left version bytes rest c line → split 10 rest ≡ text ∷ []
    → (length rest ≡ 0 → ⊥) → lines_read 2 (empty version) (split 10 bytes) ≡ Err (told line BadLine)
unended version bytes rest c line text l e h = last_read version bytes rest c line text l e ∙ ap (λ t. cond t (Ok c) (Err (told line BadLine))) (some_behind rest h)

-- ---- the first line

pub no_line : (bytes text : List ℕ) → split 10 bytes ≡ text ∷ [] → code_listed bytes ≡ Err (told 1 BadLine)
unfolding code_listed
no_line bytes text e = ap parts_read e

first_on : (bytes text after : List ℕ) → split 10 bytes ≡ text ∷ split 10 after → code_listed bytes ≡ on 1 (after_head (first_row true text) text) (λ c. lines_read 2 c (split 10 after))
unfolding code_listed
first_on bytes text after e =
    let s = split_some 10 after in
    ap parts_read e ∙ ap (λ ws. parts_read (text ∷ ws)) s.2 ∙ ap (λ ws. on 1 (after_head (first_row true text) text) (λ c. lines_read 2 c ws)) (sym s.2)

pub first_fails : (bytes text after : List ℕ) (e : ListCode) (fault : ListFault) → split 10 bytes ≡ text ∷ split 10 after
    → after_head (first_row true text) text ≡ Err e → (e ≡ NoMemory → IsWant fault) → ((e ≡ NoMemory → ⊥) → fault ≡ told 1 e)
    → IsWant fault ⊎ (code_listed bytes ≡ Err fault)
first_fails bytes text after e fault s h want tell =
    or_same fault _ _ (first_on bytes text after s) (line_fault (after_head (first_row true text) text) 1 (λ c. lines_read 2 c (split 10 after)) e fault (inr h) want tell)

pub first_goes : (version : Version) (bytes text after : List ℕ) (r : Result Code ListFault) → split 10 bytes ≡ text ∷ split 10 after
    → after_head (first_row true text) text ≡ Ok (empty version) → GivesOrWants r (lines_read 2 (empty version) (split 10 after))
    → GivesOrWants r (code_listed bytes)
first_goes version bytes text after r s h g = subst (GivesOrWants r) (sym (first_on bytes text after s ∙ ap (λ o. on 1 o (λ c. lines_read 2 c (split 10 after))) h)) g

-- ---- the two laws

-- what is left is shorter
pub cut_shorter : (rest text after : List ℕ) → split 10 rest ≡ text ∷ split 10 after → length after < length rest
cut_shorter rest text after e =
    let s = split_some 10 after in
    let whole : rest ≡ text ++ 10 ∷ after =
    sym (joined-split 10 rest) ∙ ap (joined 10) (e ∙ ap (λ ws. text ∷ ws) s.2) ∙ ap (λ l. text ++ 10 ∷ l) (ap (joined 10) (sym s.2) ∙ joined-split 10 after) in
    omega (arith, ap length whole, length-append text (10 ∷ after))

pub not_zero : (k : ℕ) → (k == 0) ≡ false → k ≡ 0 → ⊥
not_zero k e z = grind arith

pub bad_line : BadLine ≡ NoMemory → ⊥
bad_line e = cc

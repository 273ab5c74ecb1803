-- What a listing spells is read again.
use Rattle.std.proofs.Common.{◌≡◌, ℕ, suc, ◌+◌, ◌<◌, ◌≤◌, ◌==◌, true, List, [], ◌∷◌, ◌++◌, length, Result, Ok, Err, refl, sym, ap, ◌∙◌, subst, arith, append_assoc}
use Rattle.std.specs.List.{AllByRecursion}
use Rattle.std.proofs.lemmas.List.{append-nil, length-append}
use Rattle.vcm_code.specs.declared.code.Code.{Code}
use Rattle.vcm_code.specs.declared.version.Version.{Version}
use Rattle.vcm_code.specs.declared.version.Version.TheVariants.{One}
use Rattle.vcm_code.specs.Code.{CodeStatement}
use Rattle.vcm_spec.specs.Setup.{Variable as Entry}
use Rattle.vcm_items.specs.NameBytes.{IsName}
use Rattle.vcm_fields.specs.inner.Fitting.{FitsEntry, FitsLine}
use Rattle.vcm_image.specs.Whole.{FitsImage}
use Rattle.vcm_image.specs.inner.Fitted.{TablesFit}
use Rattle.vcm_image.proofs.ByTables.{tables_fit}
use Rattle.vcm_words.specs.declared.row.Row.TheVariants.{Head, Variable, Feature, Frame, Numbered}
use Rattle.vcm_words.specs.declared.fault.ListCode.{ListCode}
use Rattle.vcm_words.specs.declared.fault.ListFault.{ListFault}
use Rattle.vcm_words.specs.Cutting.{split}
use Rattle.vcm_words.specs.Rows.{ListRow, row_text, numbered, rows, text_of, listing}
use Rattle.vcm_words.specs.inner.Fitting.{FitsRow}
use Rattle.vcm_words.specs.Listing.{placed, added, after_line, empty, after_head, on, lines_read, parts_read, code_listed}
use Rattle.vcm_words.proofs.Cuts.{split-word}
use Rattle.vcm_words.proofs.Inverse.{all_append}
use Rattle.vcm_words.proofs.NumberLaws.{lt_true}
use Rattle.vcm_words.proofs.RowLaws.{row_again, row_plain}
use Rattle.vcm_listing.proofs.ListingRead.{code, good, added_keeps, ended_lines}

-- ---- what is spelled so is read again

-- the lines of rows, one after the other
reads_on : ℕ → Code → List ListRow → Result Code ListFault
reads_on n c [] = Ok c
reads_on n c (r ∷ rs) = on n (added c r) (λ d. reads_on (suc n) d rs)

on_same : (n : ℕ) (r : Result Code ListCode) (f g : Code → Result Code ListFault) → ((c : Code) → r ≡ Ok c → f c ≡ g c) → on n r f ≡ on n r g
on_same n (Ok c) f g h = h c refl
on_same n (Err e) f g h = refl

lines_again : (rs : List ListRow) (n : ℕ) (c : Code) → AllByRecursion (FitsRow c.version) rs → lines_read n c (ended_lines rs) ≡ reads_on n c rs
unfolding lines_read reads_on
lines_again [] n c h = refl
lines_again (r ∷ []) n c h = ap (λ o. on n (after_line c o (row_text r)) (λ d. lines_read (suc n) d ([] ∷ []))) (row_again c.version r h.0)
lines_again (r ∷ q ∷ rs) n c h =
    ap (λ o. on n (after_line c o (row_text r)) (λ d. lines_read (suc n) d (ended_lines (q ∷ rs)))) (row_again c.version r h.0)
    ∙ on_same n (added c r) _ _ (λ d e. lines_again (q ∷ rs) (suc n) d (subst (λ (v : Version). AllByRecursion (FitsRow v) (q ∷ rs)) (added_keeps c r d e) h.1))

room_for : (c : Code) (count limit : ℕ) → count < limit → placed count limit count true c ≡ Ok c
room_for c count limit h = let same : (count == count) ≡ true = grind arith in rw (lt_true count limit h, same) refl

-- the lines of one table after those that it has
variables_again : (version : Version) (n : ℕ) (front xs : List Entry) (rest : List ListRow) → length front + length xs ≤ 4096 → (m : ℕ)
    × (reads_on n (code version front [] [] []) (numbered Variable (length front) xs ++ rest) ≡ reads_on m (code version (front ++ xs) [] [] []) rest)
unfolding reads_on added
variables_again version n front [] rest h = (n, ap (λ l. reads_on n (code version l [] [] []) rest) (sym (append-nil front)))
variables_again version n front (x ∷ xs) rest h =
    let len : length (front ++ x ∷ []) ≡ suc (length front) = omega (arith, length-append front (x ∷ [])) in
    let more = variables_again version (suc n) (front ++ x ∷ []) xs rest (omega (arith, len, h)) in
    let here : reads_on n (code version front [] [] []) (numbered Variable (length front) (x ∷ xs) ++ rest) ≡ reads_on (suc n)
    (code version (front ++ x ∷ []) [] [] []) (numbered Variable (suc (length front)) xs ++ rest)
    = ap (λ r. on n r (λ d. reads_on (suc n) d (numbered Variable (suc (length front)) xs ++ rest))) (room_for (code version (front ++ x ∷ []) [] [] []) (length front) 4096 (omega (arith, h))) in (
      more.0,
      here ∙ ap (λ k. reads_on (suc n) (code version (front ++ x ∷ []) [] [] []) (numbered Variable k xs ++ rest)) (sym len) ∙ more.1
          ∙ ap (λ l. reads_on more.0 (code version l [] [] []) rest) (append_assoc front (x ∷ []) xs),
    )

features_again : (version : Version) (vs : List Entry) (n : ℕ) (front xs : List (List ℕ)) (rest : List ListRow) → length front + length xs ≤ 4096 → (m : ℕ)
    × (reads_on n (code version vs front [] []) (numbered Feature (length front) xs ++ rest) ≡ reads_on m (code version vs (front ++ xs) [] []) rest)
unfolding reads_on added
features_again version vs n front [] rest h = (n, ap (λ l. reads_on n (code version vs l [] []) rest) (sym (append-nil front)))
features_again version vs n front (x ∷ xs) rest h =
    let len : length (front ++ x ∷ []) ≡ suc (length front) = omega (arith, length-append front (x ∷ [])) in
    let more = features_again version vs (suc n) (front ++ x ∷ []) xs rest (omega (arith, len, h)) in
    let here : reads_on n (code version vs front [] []) (numbered Feature (length front) (x ∷ xs) ++ rest) ≡ reads_on (suc n)
    (code version vs (front ++ x ∷ []) [] []) (numbered Feature (suc (length front)) xs ++ rest)
    = ap (λ r. on n r (λ d. reads_on (suc n) d (numbered Feature (suc (length front)) xs ++ rest))) (room_for (code version vs (front ++ x ∷ []) [] []) (length front) 4096 (omega (arith, h))) in (
      more.0,
      here ∙ ap (λ k. reads_on (suc n) (code version vs (front ++ x ∷ []) [] []) (numbered Feature k xs ++ rest)) (sym len) ∙ more.1
          ∙ ap (λ l. reads_on more.0 (code version vs l [] []) rest) (append_assoc front (x ∷ []) xs),
    )

frames_again : (version : Version) (vs : List Entry) (fs : List (List ℕ)) (n : ℕ) (front xs : List (List ℕ)) (rest : List ListRow)
    → length front + length xs ≤ 4096 → (m : ℕ)
    × (reads_on n (code version vs fs front []) (numbered Frame (length front) xs ++ rest) ≡ reads_on m (code version vs fs (front ++ xs) []) rest)
unfolding reads_on added
frames_again version vs fs n front [] rest h = (n, ap (λ l. reads_on n (code version vs fs l []) rest) (sym (append-nil front)))
frames_again version vs fs n front (x ∷ xs) rest h =
    let len : length (front ++ x ∷ []) ≡ suc (length front) = omega (arith, length-append front (x ∷ [])) in
    let more = frames_again version vs fs (suc n) (front ++ x ∷ []) xs rest (omega (arith, len, h)) in
    let here : reads_on n (code version vs fs front []) (numbered Frame (length front) (x ∷ xs) ++ rest) ≡ reads_on (suc n)
    (code version vs fs (front ++ x ∷ []) []) (numbered Frame (suc (length front)) xs ++ rest)
    = ap (λ r. on n r (λ d. reads_on (suc n) d (numbered Frame (suc (length front)) xs ++ rest))) (room_for (code version vs fs (front ++ x ∷ []) []) (length front) 4096 (omega (arith, h))) in (
      more.0,
      here ∙ ap (λ k. reads_on (suc n) (code version vs fs (front ++ x ∷ []) []) (numbered Frame k xs ++ rest)) (sym len) ∙ more.1
          ∙ ap (λ l. reads_on more.0 (code version vs fs l []) rest) (append_assoc front (x ∷ []) xs),
    )

statements_again : (version : Version) (vs : List Entry) (fs : List (List ℕ)) (ds : List (List ℕ)) (n : ℕ) (front xs : List CodeStatement) (rest : List ListRow)
    → length front + length xs ≤ 20000 → (m : ℕ)
    × (reads_on n (code version vs fs ds front) (numbered Numbered (length front) xs ++ rest) ≡ reads_on m (code version vs fs ds (front ++ xs)) rest)
unfolding reads_on added
statements_again version vs fs ds n front [] rest h = (n, ap (λ l. reads_on n (code version vs fs ds l) rest) (sym (append-nil front)))
statements_again version vs fs ds n front (x ∷ xs) rest h =
    let len : length (front ++ x ∷ []) ≡ suc (length front) = omega (arith, length-append front (x ∷ [])) in
    let more = statements_again version vs fs ds (suc n) (front ++ x ∷ []) xs rest (omega (arith, len, h)) in
    let here : reads_on n (code version vs fs ds front) (numbered Numbered (length front) (x ∷ xs) ++ rest) ≡ reads_on (suc n)
    (code version vs fs ds (front ++ x ∷ [])) (numbered Numbered (suc (length front)) xs ++ rest)
    = ap (λ r. on n r (λ d. reads_on (suc n) d (numbered Numbered (suc (length front)) xs ++ rest))) (room_for (code version vs fs ds (front ++ x ∷ [])) (length front) 20000 (omega (arith, h))) in (
      more.0,
      here ∙ ap (λ k. reads_on (suc n) (code version vs fs ds (front ++ x ∷ [])) (numbered Numbered k xs ++ rest)) (sym len) ∙ more.1
          ∙ ap (λ l. reads_on more.0 (code version vs fs ds l) rest) (append_assoc front (x ∷ []) xs),
    )

rows_again : (c : Code) (n : ℕ) → TablesFit c
    → reads_on n (empty c.version) (numbered Variable 0 c.tables.variables ++
    (numbered Feature 0 c.tables.features ++ (numbered Frame 0 c.tables.frames ++ numbered Numbered 0 c.statements))) ≡ Ok c
unfolding reads_on
rows_again c n h =
    let v = variables_again c.version n [] c.tables.variables
    (numbered Feature 0 c.tables.features ++ (numbered Frame 0 c.tables.frames ++ numbered Numbered 0 c.statements)) (omega (arith, h.variables.0)) in
    let f = features_again c.version c.tables.variables v.0 [] c.tables.features (numbered Frame 0 c.tables.frames ++ numbered Numbered 0 c.statements) (omega (arith, h.features.0)) in
    let d = frames_again c.version c.tables.variables c.tables.features f.0 [] c.tables.frames (numbered Numbered 0 c.statements) (omega (arith, h.frames.0)) in
    let s = statements_again c.version c.tables.variables c.tables.features c.tables.frames d.0 [] c.statements [] (omega (arith, h.statements.0)) in
    v.1 ∙ f.1 ∙ d.1 ∙ ap (λ l. reads_on d.0 (code c.version c.tables.variables c.tables.features c.tables.frames []) l) (sym (append-nil (numbered Numbered 0 c.statements))) ∙ s.1

numbered_all : {A : Type 0} (version : Version) (f : ℕ → A → ListRow) (P : A → Type 0) (limit n : ℕ) (xs : List A)
    → ((i : ℕ) (x : A) → i < limit → P x → FitsRow version (f i x)) → n + length xs ≤ limit → AllByRecursion P xs
    → AllByRecursion (FitsRow version) (numbered f n xs)
numbered_all version f P limit n [] g l h = tt
numbered_all version f P limit n (x ∷ xs) g l h = (g n x (omega (arith, l)) h.0, numbered_all version f P limit (suc n) xs g (omega (arith, l)) h.1)

pub rows_fit : (c : Code) → TablesFit c → AllByRecursion (FitsRow c.version) (rows c)
rows_fit c h = (
  tt,
  all_append (FitsRow c.version) (numbered Variable 0 c.tables.variables) _
      (numbered_all c.version Variable FitsEntry 4096 0 c.tables.variables (λ i x l p. (omega (arith, l), p)) (omega (arith, h.variables.0)) h.variables.1)
      (all_append (FitsRow c.version) (numbered Feature 0 c.tables.features) _
      (numbered_all c.version Feature IsName 4096 0 c.tables.features (λ i x l p. (omega (arith, l), p)) (omega (arith, h.features.0)) h.features.1)
      (all_append (FitsRow c.version) (numbered Frame 0 c.tables.frames) _
      (numbered_all c.version Frame IsName 4096 0 c.tables.frames (λ i x l p. (omega (arith, l), p)) (omega (arith, h.frames.0)) h.frames.1)
      (numbered_all c.version Numbered (FitsLine c.version) 20000 0 c.statements (λ i x l p. (omega (arith, l), p)) (omega (arith, h.statements.0)) h.statements.1))),
)

pub cut_lines : (version : Version) (rs : List ListRow) → AllByRecursion (FitsRow version) rs → split 10 (text_of rs) ≡ ended_lines rs
cut_lines version [] h = refl
cut_lines version (r ∷ rs) h = ap (split 10) (append_assoc (row_text r) (10 ∷ []) (text_of rs))
    ∙ split-word 10 (row_text r) (text_of rs) (row_plain version r h.0) ∙ ap (λ l. row_text r ∷ l) (cut_lines version rs h.1)

parts_again : (version : Version) (rs : List ListRow) → AllByRecursion (FitsRow version) rs → parts_read (ended_lines (Head version ∷ rs)) ≡ reads_on 2 (empty version) rs
parts_again version [] h = ap (λ o. on 1 (after_head o (row_text (Head version))) (λ d. lines_read 2 d ([] ∷ []))) (row_again One (Head version) tt) ∙ lines_again [] 2 (empty version) h
parts_again version (r ∷ rs) h = ap (λ o. on 1 (after_head o (row_text (Head version))) (λ d. lines_read 2 d (ended_lines (r ∷ rs))))
    (row_again One (Head version) tt) ∙ lines_again (r ∷ rs) 2 (empty version) h

-- the listing of a code is read as that code
pub code_again : (c : Code) → FitsImage c → code_listed (listing c) ≡ Ok c
unfolding code_listed
code_again c fits =
    let h = tables_fit c fits in
    let f = rows_fit c h in
    ap parts_read (cut_lines c.version (rows c) f)
    ∙ parts_again c.version (numbered Variable 0 c.tables.variables ++
    (numbered Feature 0 c.tables.features ++ (numbered Frame 0 c.tables.frames ++ numbered Numbered 0 c.statements))) f.1 ∙ rows_again c 2 h

-- different codes have different listings
pub listing_once : (c d : Code) → FitsImage c → FitsImage d → listing c ≡ listing d → c ≡ d
listing_once c d h g e = let both : good {E = ListFault} c ≡ Ok d = sym (code_again c h) ∙ ap code_listed e ∙ code_again d g in cc

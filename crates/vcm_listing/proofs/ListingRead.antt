-- What is read of a listing is spelled so.
use Rattle.std.proofs.Common.{◌≡◌, ℕ, suc, ◌+◌, ◌<◌, ◌≤◌, ◌==◌, ◌&&◌, nat_lt, Bool, true, false, cond, List, [], ◌∷◌, ◌++◌, length, Option, Some, None, Result}
use Rattle.std.proofs.Common.{Ok, Err, refl, sym, ap, ◌∙◌, subst, arith, append_assoc}
use Rattle.std.specs.Prelude.{map}
use Rattle.std.specs.List.{AllByRecursion}
use Rattle.std.proofs.lemmas.Bool.{eqb-true, ltb-true, and_parts}
use Rattle.std.proofs.lemmas.List.{append-nil, length-append}
use Rattle.vcm_code.specs.declared.code.Code.{Code}
use Rattle.vcm_code.specs.declared.version.Version.{Version}
use Rattle.vcm_code.specs.declared.version.Version.TheVariants.{One}
use Rattle.vcm_code.specs.Code.{CodeStatement}
use Rattle.vcm_spec.specs.Setup.{Variable as Entry}
use Rattle.vcm_items.specs.NameBytes.{IsName}
use Rattle.vcm_fields.specs.inner.Fitting.{FitsEntry, FitsLine}
use Rattle.vcm_image.specs.Whole.{FitsImage}
use Rattle.vcm_image.specs.inner.Fitted.{TablesFit}
use Rattle.vcm_image.proofs.ByTables.{fits_by_tables}
use Rattle.vcm_words.specs.declared.row.Row.TheVariants.{Head, Variable, Feature, Frame, Numbered}
use Rattle.vcm_words.specs.declared.fault.ListCode.{ListCode}
use Rattle.vcm_words.specs.declared.fault.ListCode.TheVariants.{BadLine, BadNumber, OutOfOrder}
use Rattle.vcm_words.specs.declared.fault.ListFault.{ListFault}
use Rattle.vcm_words.specs.Cutting.{split, joined}
use Rattle.vcm_words.specs.Rows.{ListRow, row_text, numbered, rows, text_of, listing, row_of}
use Rattle.vcm_words.specs.inner.Fitting.{FitsRow}
use Rattle.vcm_words.specs.Listing.{is_empty, placed, added, after_line, first_row, empty, after_head, told, on, lines_read, parts_read, code_listed}
use Rattle.vcm_words.proofs.Cuts.{joined-split}
use Rattle.vcm_words.proofs.Inverse.{all_append}
use Rattle.vcm_words.proofs.RowLaws.{row_takes}

abbrev pub code : Version → List Entry → List (List ℕ) → List (List ℕ) → List CodeStatement → Code
code version vs fs ds ss = record { version = version; tables = record { variables = vs; features = fs; frames = ds }; statements = ss }

abbrev pub good : {A E : Type 0} → A → Result A E
good x = Ok x

-- ---- one more line

placed_takes : (count limit i : ℕ) (b : Bool) (c d : Code) → placed count limit i b c ≡ Ok d → (count < limit) × (i ≡ count) × (b ≡ true) × (c ≡ d)
placed_takes count limit i b c d e = room (nat_lt count limit) refl e
  where
    next : (t : Bool) → ((i == count) && b) ≡ t → cond t (good {E = ListCode} c) (Err OutOfOrder) ≡ Ok d → (i ≡ count) × (b ≡ true) × (c ≡ d)
    next true h f = let p = and_parts (i == count) b h in (eqb-true i count p.0, p.1, cc)
    next false h f = absurd cc

    room : (t : Bool) → nat_lt count limit ≡ t → cond t (cond ((i == count) && b) (good {E = ListCode} c) (Err OutOfOrder)) (Err BadNumber) ≡ Ok d
        → (count < limit) × (i ≡ count) × (b ≡ true) × (c ≡ d)
    room true h f = let n = next ((i == count) && b) refl f in (ltb-true count limit h, n.0, n.1, n.2)
    room false h f = absurd cc

nil : {A : Type 0} (xs : List A) → is_empty xs ≡ true → xs ≡ []
nil [] e = refl
nil (x ∷ xs) e = absurd cc

numbered-push : {A : Type 0} (f : ℕ → A → ListRow) (n : ℕ) (xs : List A) (x : A) → numbered f n (xs ++ x ∷ []) ≡ numbered f n xs ++ f (n + length xs) x ∷ []
numbered-push f n [] x = let e : n + 0 ≡ n = omega arith in rw e refl
numbered-push f n (y ∷ xs) x = let e : suc n + length xs ≡ n + suc (length xs) = omega arith in ap (λ r. f n y ∷ r) (numbered-push f (suc n) xs x ∙ ap (λ k. numbered f (suc n) xs ++ f k x ∷ []) e)

next_index : {i n : ℕ} → i ≡ n → 0 + n ≡ i
next_index e = omega (arith, e)

unfoldable pub Grows : Code → ListRow → Code → Type 0
Grows c r d = (rows d ≡ rows c ++ r ∷ []) × TablesFit d

push_all : {A : Type 0} (P : A → Type 0) (limit : ℕ) (xs : List A) (x : A) → (length xs ≤ limit) × AllByRecursion P xs → length xs < limit → P x
    → (length (xs ++ x ∷ []) ≤ limit) × AllByRecursion P (xs ++ x ∷ [])
push_all P limit xs x h l p = (omega (arith, length-append xs (x ∷ [])), all_append P xs (x ∷ []) h.1 (p, tt))

-- lists in a row, the last of which grows
grown : (a b : List ListRow) (r : ListRow) (b' : List ListRow) → b' ≡ b ++ r ∷ [] → a ++ b' ≡ (a ++ b) ++ r ∷ []
grown a b r b' e = ap (λ l. a ++ l) e ∙ sym (append_assoc a b (r ∷ []))

grown_last : (b : List ListRow) (r : ListRow) (b' : List ListRow) → b' ≡ b ++ r ∷ [] → b' ++ [] ≡ (b ++ []) ++ r ∷ []
grown_last b r b' e = append-nil b' ∙ e ∙ ap (λ l. l ++ r ∷ []) (sym (append-nil b))

add_variable : (version : Version) (vs : List Entry) (fs ds : List (List ℕ)) (ss : List CodeStatement) (i : ℕ) (v : Entry) → fs ≡ [] → ds ≡ [] → ss ≡ []
    → i ≡ length vs → rows (code version (vs ++ v ∷ []) fs ds ss) ≡ rows (code version vs fs ds ss) ++ Variable i v ∷ []
add_variable version vs [] [] [] i v ef ed es ei =
    ap (λ l. Head version ∷ l) (grown_last (numbered Variable 0 vs) (Variable i v) (numbered Variable 0 (vs ++ v ∷ []))
    (numbered-push Variable 0 vs v ∙ ap (λ k. numbered Variable 0 vs ++ Variable k v ∷ []) (next_index ei)))
add_variable version vs (f ∷ fs) ds ss i v ef ed es ei = absurd cc
add_variable version vs [] (d ∷ ds) ss i v ef ed es ei = absurd cc
add_variable version vs [] [] (s ∷ ss) i v ef ed es ei = absurd cc

add_feature : (version : Version) (vs : List Entry) (fs ds : List (List ℕ)) (ss : List CodeStatement) (i : ℕ) (v : List ℕ) → ds ≡ [] → ss ≡ [] → i ≡ length fs
    → rows (code version vs (fs ++ v ∷ []) ds ss) ≡ rows (code version vs fs ds ss) ++ Feature i v ∷ []
add_feature version vs fs [] [] i v ed es ei = ap (λ l. Head version ∷ l) (grown (numbered Variable 0 vs) (numbered Feature 0 fs ++ []) (Feature i v) (numbered Feature 0 (fs ++ v ∷ []) ++ [])
    (grown_last (numbered Feature 0 fs) (Feature i v) (numbered Feature 0 (fs ++ v ∷ [])) (numbered-push Feature 0 fs v ∙ ap (λ k. numbered Feature 0 fs ++ Feature k v ∷ []) (next_index ei))))
add_feature version vs fs (d ∷ ds) ss i v ed es ei = absurd cc
add_feature version vs fs [] (s ∷ ss) i v ed es ei = absurd cc

add_frame : (version : Version) (vs : List Entry) (fs ds : List (List ℕ)) (ss : List CodeStatement) (i : ℕ) (v : List ℕ) → ss ≡ [] → i ≡ length ds
    → rows (code version vs fs (ds ++ v ∷ []) ss) ≡ rows (code version vs fs ds ss) ++ Frame i v ∷ []
add_frame version vs fs ds [] i v es ei =
    ap (λ l. Head version ∷ l) (grown (numbered Variable 0 vs) (numbered Feature 0 fs ++ (numbered Frame 0 ds ++ [])) (Frame i v)
    (numbered Feature 0 fs ++ (numbered Frame 0 (ds ++ v ∷ []) ++ []))
    (grown (numbered Feature 0 fs) (numbered Frame 0 ds ++ []) (Frame i v) (numbered Frame 0 (ds ++ v ∷ []) ++ [])
    (grown_last (numbered Frame 0 ds) (Frame i v) (numbered Frame 0 (ds ++ v ∷ [])) (numbered-push Frame 0 ds v ∙ ap (λ k. numbered Frame 0 ds ++ Frame k v ∷ []) (next_index ei)))))
add_frame version vs fs ds (s ∷ ss) i v es ei = absurd cc

add_line : (version : Version) (vs : List Entry) (fs ds : List (List ℕ)) (ss : List CodeStatement) (i : ℕ) (s : CodeStatement) → i ≡ length ss
    → rows (code version vs fs ds (ss ++ s ∷ [])) ≡ rows (code version vs fs ds ss) ++ Numbered i s ∷ []
add_line version vs fs ds ss i s ei = ap (λ l. Head version ∷ l)
    (grown (numbered Variable 0 vs) (numbered Feature 0 fs ++ (numbered Frame 0 ds ++ numbered Numbered 0 ss)) (Numbered i s)
    (numbered Feature 0 fs ++ (numbered Frame 0 ds ++ numbered Numbered 0 (ss ++ s ∷ [])))
    (grown (numbered Feature 0 fs) (numbered Frame 0 ds ++ numbered Numbered 0 ss) (Numbered i s) (numbered Frame 0 ds ++ numbered Numbered 0 (ss ++ s ∷ []))
    (grown (numbered Frame 0 ds) (numbered Numbered 0 ss) (Numbered i s) (numbered Numbered 0 (ss ++ s ∷ []))
    (numbered-push Numbered 0 ss s ∙ ap (λ k. numbered Numbered 0 ss ++ Numbered k s ∷ []) (next_index ei)))))

pub added_takes : (c : Code) (r : ListRow) (d : Code) → TablesFit c → FitsRow c.version r → added c r ≡ Ok d → Grows c r d
unfolding added Grows
added_takes c (Head v) d h f e = absurd cc
added_takes c (Variable i v) d h f e =
    let p = placed_takes (length c.tables.variables) 4096 i (is_empty c.tables.features && (is_empty c.tables.frames && is_empty c.statements))
    (code c.version (c.tables.variables ++ v ∷ []) c.tables.features c.tables.frames c.statements) d e in
    let q = and_parts (is_empty c.tables.features) (is_empty c.tables.frames && is_empty c.statements) p.2 in
    let r = and_parts (is_empty c.tables.frames) (is_empty c.statements) q.1 in
    subst (λ (x : Code). (rows x ≡ rows c ++ Variable i v ∷ []) × TablesFit x) p.3 (
      add_variable c.version c.tables.variables c.tables.features c.tables.frames c.statements i v (nil c.tables.features q.0) (nil c.tables.frames r.0) (nil c.statements r.1) p.1,
      record { variables = push_all FitsEntry 4096 c.tables.variables v h.variables p.0 f.1; features = h.features; frames = h.frames; statements = h.statements },
    )
added_takes c (Feature i v) d h f e =
    let p = placed_takes (length c.tables.features) 4096 i (is_empty c.tables.frames && is_empty c.statements)
    (code c.version c.tables.variables (c.tables.features ++ v ∷ []) c.tables.frames c.statements) d e in
    let r = and_parts (is_empty c.tables.frames) (is_empty c.statements) p.2 in
    subst (λ (x : Code). (rows x ≡ rows c ++ Feature i v ∷ []) × TablesFit x) p.3 (
      add_feature c.version c.tables.variables c.tables.features c.tables.frames c.statements i v (nil c.tables.frames r.0) (nil c.statements r.1) p.1,
      record { variables = h.variables; features = push_all IsName 4096 c.tables.features v h.features p.0 f.1; frames = h.frames; statements = h.statements },
    )
added_takes c (Frame i v) d h f e =
    let p = placed_takes (length c.tables.frames) 4096 i (is_empty c.statements) (code c.version c.tables.variables c.tables.features (c.tables.frames ++ v ∷ []) c.statements) d e in
    subst (λ (x : Code). (rows x ≡ rows c ++ Frame i v ∷ []) × TablesFit x) p.3 (
      add_frame c.version c.tables.variables c.tables.features c.tables.frames c.statements i v (nil c.statements p.2) p.1,
      record { variables = h.variables; features = h.features; frames = push_all IsName 4096 c.tables.frames v h.frames p.0 f.1; statements = h.statements },
    )
added_takes c (Numbered i s) d h f e =
    let p = placed_takes (length c.statements) 20000 i true (code c.version c.tables.variables c.tables.features c.tables.frames (c.statements ++ s ∷ [])) d e in
    subst (λ (x : Code). (rows x ≡ rows c ++ Numbered i s ∷ []) × TablesFit x) p.3 (
      add_line c.version c.tables.variables c.tables.features c.tables.frames c.statements i s p.1,
      record { variables = h.variables; features = h.features; frames = h.frames; statements = push_all (FitsLine c.version) 20000 c.statements s h.statements p.0 f.1 },
    )

-- one more line keeps the version
pub added_keeps : (c : Code) (r : ListRow) (d : Code) → added c r ≡ Ok d → c.version ≡ d.version
unfolding added
added_keeps c (Head v) d e = absurd cc
added_keeps c (Variable i v) d e = ap (λ (x : Code). x.version)
    (placed_takes (length c.tables.variables) 4096 i (is_empty c.tables.features && (is_empty c.tables.frames && is_empty c.statements))
    (code c.version (c.tables.variables ++ v ∷ []) c.tables.features c.tables.frames c.statements) d e).3
added_keeps c (Feature i v) d e = ap (λ (x : Code). x.version)
    (placed_takes (length c.tables.features) 4096 i (is_empty c.tables.frames && is_empty c.statements)
    (code c.version c.tables.variables (c.tables.features ++ v ∷ []) c.tables.frames c.statements) d e).3
added_keeps c (Frame i v) d e = ap (λ (x : Code). x.version)
    (placed_takes (length c.tables.frames) 4096 i (is_empty c.statements)
    (code c.version c.tables.variables c.tables.features (c.tables.frames ++ v ∷ []) c.statements) d e).3
added_keeps c (Numbered i s) d e = ap (λ (x : Code). x.version)
    (placed_takes (length c.statements) 20000 i true (code c.version c.tables.variables c.tables.features c.tables.frames (c.statements ++ s ∷ [])) d e).3

-- ---- all lines

on_takes : (n : ℕ) (r : Result Code ListCode) (f : Code → Result Code ListFault) (d : Code) → on n r f ≡ Ok d → (c : Code) × (r ≡ Ok c) × (f c ≡ Ok d)
on_takes n (Ok c) f d e = (c, refl, e)
on_takes n (Err x) f d e = absurd cc

pub line_takes : (c : Code) (o : Option ListRow) (w : List ℕ) (d : Code) → after_line c o w ≡ Ok d → (r : ListRow) × (o ≡ Some r) × (added c r ≡ Ok d)
line_takes c (Some r) w d e = (r, refl, e)
line_takes c None w d e = absurd cc

head_takes : (o : Option ListRow) (w : List ℕ) (d : Code) → after_head o w ≡ Ok d → (version : Version) × (o ≡ Some (Head version)) × (empty version ≡ d)
head_takes (Some (Head version)) w d e = (version, refl, cc)
head_takes (Some (Variable i v)) w d e = absurd cc
head_takes (Some (Feature i v)) w d e = absurd cc
head_takes (Some (Frame i v)) w d e = absurd cc
head_takes (Some (Numbered i v)) w d e = absurd cc
head_takes None w d e = absurd cc

-- the lines of rows, and what stands behind the last end
abbrev pub ended_lines : List ListRow → List (List ℕ)
ended_lines rs = map row_text rs ++ [] ∷ []

record More (c d : Code) (ws : List (List ℕ)) : Type 0 where
  more : List ListRow
  are : rows d ≡ rows c ++ more
  lines : ws ≡ ended_lines more
  fits : TablesFit d

last_takes : (c d : Code) (w : List ℕ) (n : ℕ) → TablesFit c → cond (is_empty w) (good c) (Err (told n BadLine)) ≡ Ok d → More c d (w ∷ [])
last_takes c d [] n h e =
    let same : c ≡ d = cc in
    record { more = []; are = ap rows (sym same) ∙ sym (append-nil (rows c)); lines = refl; fits = subst TablesFit same h }
last_takes c d (b ∷ w) n h e = absurd cc

lines_take : (ws : List (List ℕ)) (n : ℕ) (c d : Code) → TablesFit c → lines_read n c ws ≡ Ok d → More c d ws
unfolding lines_read Grows
lines_take [] n c d h e = absurd cc
lines_take (w ∷ []) n c d h e = last_takes c d w n h e
lines_take (w ∷ v ∷ ws) n c d h e =
    let p = on_takes n (after_line c (row_of c.version true w) w) (λ x. lines_read (suc n) x (v ∷ ws)) d e in
    let q = line_takes c (row_of c.version true w) w p.0 p.1 in
    let t = row_takes c.version w q.0 q.1 in
    let g = added_takes c q.0 p.0 h t.1 q.2 in
    let m = lines_take (v ∷ ws) (suc n) p.0 d g.1 p.2 in
    record {
      more = q.0 ∷ m.more;
      are = m.are ∙ ap (λ l. l ++ m.more) g.0 ∙ append_assoc (rows c) (q.0 ∷ []) m.more;
      lines = ap (λ u. u ∷ v ∷ ws) t.0 ∙ ap (λ l. row_text q.0 ∷ l) m.lines;
      fits = m.fits;
    }

pub empty_fits : (version : Version) → TablesFit (empty version)
empty_fits version = record { variables = (omega arith, tt); features = (omega arith, tt); frames = (omega arith, tt); statements = (omega arith, tt) }

parts_take : (ws : List (List ℕ)) (d : Code) → parts_read ws ≡ Ok d → (ws ≡ ended_lines (rows d)) × TablesFit d
parts_take [] d e = absurd cc
parts_take (w ∷ []) d e = absurd cc
parts_take (w ∷ v ∷ ws) d e =
    let p = on_takes 1 (after_head (first_row true w) w) (λ x. lines_read 2 x (v ∷ ws)) d e in
    let q = head_takes (first_row true w) w p.0 p.1 in
    let t = row_takes One w (Head q.0) q.1 in
    let m = lines_take (v ∷ ws) 2 p.0 d (subst TablesFit q.2 (empty_fits q.0)) p.2 in
    let all : rows d ≡ Head q.0 ∷ m.more = m.are ∙ ap (λ (c : Code). rows c ++ m.more) (sym q.2) in
    (ap (λ u. u ∷ v ∷ ws) t.0 ∙ ap (λ l. row_text (Head q.0) ∷ l) m.lines ∙ ap ended_lines (sym all), m.fits)

-- the lines, put together
joined_lines : (rs : List ListRow) → joined 10 (ended_lines rs) ≡ text_of rs
joined_lines [] = refl
joined_lines (r ∷ []) = sym (append-nil (row_text r ++ 10 ∷ []))
joined_lines (r ∷ q ∷ rs) = ap (λ l. row_text r ++ 10 ∷ l) (joined_lines (q ∷ rs)) ∙ sym (append_assoc (row_text r) (10 ∷ []) (text_of (q ∷ rs)))

-- what is read is the listing of the code
pub code_takes : (bytes : List ℕ) (c : Code) → code_listed bytes ≡ Ok c → FitsImage c × (bytes ≡ listing c)
unfolding code_listed
code_takes bytes c e =
    let t = parts_take (split 10 bytes) c e in
    (fits_by_tables c t.1, sym (joined-split 10 bytes) ∙ ap (joined 10) t.0 ∙ joined_lines (rows c))

-- Lines: what is read is spelled so, and what is spelled so is read again.
use Rattle.std.proofs.Common.{◌≡◌, ℕ, ◌<◌, ◌^◌, ◌==◌, ◌&&◌, nat_le, true, false, List, [], ◌∷◌, ◌++◌, length, Option, Some, None, refl, sym, ap, ◌∙◌, subst, arith}
use Rattle.std.specs.Prelude.{decimal}
use Rattle.std.specs.List.{AllByRecursion, list_all}
use Rattle.std.specs.Char.{is_ascii_digit}
use Rattle.std.proofs.lemmas.Bool.{and_parts}
use Rattle.std.proofs.lemmas.List.{append-nil}
use Rattle.std.proofs.lemmas.Fmt.{decimal_nonempty}
use Rattle.vcm_num.specs.Literals.{AllDigits}
use Rattle.vcm_spec.specs.Setup.{Variable as Entry}
use Rattle.vcm_code.specs.declared.version.Version.{Version}
use Rattle.vcm_items.specs.NameBytes.{is_name_byte, is_name, IsName, is_variable_name, IsVariableName}
use Rattle.vcm_items.proofs.NameLemmas.{variable_name_is_name}
use Rattle.vcm_code.specs.Code.{CodeStatement}
use Rattle.vcm_fields.specs.inner.Fitting.{FitsEntry, FitsLine}
use Rattle.vcm_words.specs.declared.row.Row.TheVariants.{Head, Variable, Feature, Frame, Numbered}
use Rattle.vcm_words.specs.declared.row.Heading.{Heading}
use Rattle.vcm_words.specs.declared.row.Heading.TheVariants as headings
use Rattle.vcm_words.specs.Cutting.{split, joined}
use Rattle.vcm_words.specs.inner.Marks.{Without, IsWord}
use Rattle.vcm_words.specs.Numbers.{only_if}
use Rattle.vcm_num.specs.Words.{look_up}
use Rattle.vcm_words.specs.WordReaders.{Reader, one, via, ended, rows_of}
use Rattle.vcm_words.specs.Operands.{single, number_text, line}
use Rattle.vcm_code.specs.Shape.{kinds}
use Rattle.vcm_words.specs.Rows.{ListRow, version_text, versions, kind_text, heading_text, all_headings, row_words, row_text, version_at, entry_at, indexed_at, numbered_at, row_after, row_at, row_of}
use Rattle.vcm_words.specs.inner.Fitting.{FitsRow}
use Rattle.vcm_words.proofs.Cuts.{joined-split, split-joined, split_without}
use Rattle.vcm_words.proofs.Inverse.{Means, Reads, Ends, Bare, ends, bind_some, some_is, only_met, all_append, reads_one, reads_both, via_again, ends_via, ends_both}
use Rattle.vcm_words.proofs.NumberLaws.{decimal_digits}
use Rattle.vcm_words.proofs.TableLaws.{Any, means_any, kind_row, version_row, heading_row}
use Rattle.vcm_words.proofs.PlaceLaws.{reads_number}
use Rattle.vcm_words.proofs.LineLaws.{ends_line}

-- ---- names

name_byte_plain : (mark b : ℕ) → mark < 48 → is_name_byte b ≡ true → (b == mark) ≡ false
name_byte_plain mark b l h = grind arith

name_plain : (mark : ℕ) (bs : List ℕ) → mark < 48 → list_all is_name_byte bs ≡ true → Without mark bs
name_plain mark [] l h = tt
name_plain mark (b ∷ bs) l h = let t = and_parts (is_name_byte b) (list_all is_name_byte bs) h in (name_byte_plain mark b l t.0, name_plain mark bs l t.1)

name_word : (bs : List ℕ) → IsName bs → IsWord bs
name_word bs h = let t = and_parts (nat_le 1 (length bs) && nat_le (length bs) 16) (list_all is_name_byte bs) h in (name_plain 32 bs (omega arith) t.1, name_plain 10 bs (omega arith) t.1)

means_name : Means (λ w. only_if (is_name w) w) (λ w. w) IsName
means_name = record {
  takes = λ w x e. let g = only_met (is_name w) w x e in subst (λ (v : List ℕ). (w ≡ v) × IsName v) g.1 (refl, g.0);
  again = λ x h. rw h refl;
  words = λ x h. name_word x h;
}

means_variable_name : Means (λ w. only_if (is_variable_name w) w) (λ w. w) IsVariableName
means_variable_name = record {
  takes = λ w x e. let g = only_met (is_variable_name w) w x e in subst (λ (v : List ℕ). (w ≡ v) × IsVariableName v) g.1 (refl, g.0);
  again = λ x h. rw h refl;
  words = λ x h. name_word x (variable_name_is_name x h);
}

-- ---- tables

reads_kind : Reads (one (look_up (rows_of kind_text kinds))) (λ x. single (kind_text x)) Any
reads_kind = reads_one (means_any kind_text kinds kind_row)

means_heading : Means (look_up (rows_of heading_text all_headings)) heading_text Any
means_heading = means_any heading_text all_headings heading_row

heading_takes : (w : List ℕ) (x : Heading) → look_up (rows_of heading_text all_headings) w ≡ Some x → w ≡ heading_text x
heading_takes w x e = (means_heading.takes w x e).0

heading_word : (x : Heading) → IsWord (heading_text x)
unfolding Any
heading_word x = means_heading.words x tt

digit_isnt : (b m : ℕ) → is_ascii_digit b ≡ true → 57 < m → (b == m) ≡ false
digit_isnt b m e h = grind arith

no_heading : (w : List ℕ) → AllDigits w → 0 < length w → look_up (rows_of heading_text all_headings) w ≡ None
no_heading [] d h = absurd (omega arith)
no_heading (b ∷ bs) d h = rw (digit_isnt b 86 d.0 (omega arith), digit_isnt b 70 d.0 (omega arith)) refl

-- ---- lines

ends_version : Ends (version_at true) (λ v. single (version_text v)) Any
ends_version = ends (reads_one (means_any version_text versions version_row))

FitsPair : ℕ × Entry → Type 0
FitsPair o = (o.0 < 2 ^ 32) × FitsEntry o.1

ends_entry : Ends (entry_at true) (λ o. number_text o.0 ++ (single (kind_text o.1.kind) ++ (single o.1.name ++ number_text o.1.expansion))) FitsPair
unfolding entry_at FitsPair Any
ends_entry = ends_via (ends (reads_both (reads_number (2 ^ 32) (omega arith)) (reads_both reads_kind (reads_both (reads_one means_variable_name) (reads_number (2 ^ 32) (omega arith))))))
    (λ o. (o.0, record { name = o.1.1.0; kind = o.1.0; expansion = o.1.1.1 })) (λ o. (o.0, (o.1.kind, (o.1.name, o.1.expansion))))
    (λ o. number_text o.0 ++ (single (kind_text o.1.kind) ++ (single o.1.name ++ number_text o.1.expansion))) FitsPair
    (λ o h. refl) (λ o h. (h.0, (h.1.1.1, h.1.1.0))) (λ o h. (refl, refl, (h.0, (tt, (h.1.1, h.1.0)))))

FitsIndexed : ℕ × List ℕ → Type 0
FitsIndexed o = (o.0 < 2 ^ 32) × IsName o.1

ends_indexed : Ends (indexed_at true) (λ o. number_text o.0 ++ single o.1) FitsIndexed
unfolding indexed_at FitsIndexed
ends_indexed = ends (reads_both (reads_number (2 ^ 32) (omega arith)) (reads_one means_name))

FitsNumbered : Version → ℕ × CodeStatement → Type 0
FitsNumbered version o = (o.0 < 2 ^ 32) × FitsLine version o.1

ends_numbered : (version : Version) → Ends (numbered_at version true) (λ o. number_text o.0 ++ line o.1) (FitsNumbered version)
unfolding numbered_at FitsNumbered
ends_numbered version = ends_both (reads_number (2 ^ 32) (omega arith)) (ends_line version)

-- all of the words
ended_takes : {A : Type 0} (o : Option (A × List (List ℕ))) (x : A) → ended o ≡ Some x → o ≡ Some (x, [])
ended_takes None x e = absurd cc
ended_takes (Some (y, [])) x e = ap (λ z. Some (z, [])) (some_is _ _ e)
ended_takes (Some (y, w ∷ ws)) x e = absurd cc

whole_takes : {A B : Type 0} {a : Reader A} {s : A → List (List ℕ)} {P : A → Type 0} → Ends a s P → (f : A → B) (ws : List (List ℕ)) (y : B) → Bare ws
    → ended (via f a ws) ≡ Some y → (x : A) × (f x ≡ y) × (ws ≡ s x) × P x
whole_takes {A} {B} {a} {s} {P} r f ws y bare e =
    let all = ended_takes (via f a ws) y e in
    let p = bind_some (a ws) (λ u. Some (f u.0, u.1)) (y, []) all in
    let t = r.takes ws p.0 bare p.1 in
    let made : B × List (List ℕ) = (f p.0.0, p.0.1) in
    let same : made ≡ (y, []) = some_is _ _ p.2 in
    let left : p.0.1 ≡ [] = ap (λ (z : B × List (List ℕ)). z.1) same in
    (p.0.0, ap (λ (z : B × List (List ℕ)). z.0) same, t.0 ∙ ap (λ r. s p.0.0 ++ r) left ∙ append-nil (s p.0.0), t.1)

whole_again : {A B : Type 0} {a : Reader A} {s : A → List (List ℕ)} {P : A → Type 0} → Ends a s P → (f : A → B) (x : A) → P x → ended (via f a (s x)) ≡ Some (f x)
whole_again {A} {B} {a} {s} {P} r f x h = ap (λ ws. ended (via f a ws)) (sym (append-nil (s x))) ∙ ap ended (via_again r f x h)

Spelled : Version → List (List ℕ) → ListRow → Type 0
Spelled version ws r = (ws ≡ row_words r) × FitsRow version r

cons_is : {w v : List ℕ} {ws vs : List (List ℕ)} → w ≡ v → ws ≡ vs → w ∷ ws ≡ v ∷ vs
cons_is {w} {v} {ws} {vs} e f = ap (λ u. u ∷ ws) e ∙ ap (λ us. v ∷ us) f

after_takes : (version : Version) (o : Option Heading) (w : List ℕ) (ws : List (List ℕ)) (r : ListRow) → look_up (rows_of heading_text all_headings) w ≡ o
    → Bare (w ∷ ws) → row_after version true o w ws ≡ Some r → Spelled version (w ∷ ws) r
unfolding row_after Spelled FitsPair FitsIndexed FitsNumbered Any
after_takes version (Some headings.Head) w ws r n bare e =
    let t = whole_takes ends_version Head ws r bare.1 e in
    subst (Spelled version (w ∷ ws)) t.1 (cons_is (heading_takes w headings.Head n) t.2, tt)
after_takes version (Some headings.Variables) w ws r n bare e =
    let t = whole_takes ends_entry (λ o. Variable o.0 o.1) ws r bare.1 e in
    subst (Spelled version (w ∷ ws)) t.1 (cons_is (heading_takes w headings.Variables n) t.2, t.3)
after_takes version (Some headings.Features) w ws r n bare e =
    let t = whole_takes ends_indexed (λ o. Feature o.0 o.1) ws r bare.1 e in
    subst (Spelled version (w ∷ ws)) t.1 (cons_is (heading_takes w headings.Features n) t.2, t.3)
after_takes version (Some headings.Frames) w ws r n bare e =
    let t = whole_takes ends_indexed (λ o. Frame o.0 o.1) ws r bare.1 e in
    subst (Spelled version (w ∷ ws)) t.1 (cons_is (heading_takes w headings.Frames n) t.2, t.3)
after_takes version None w ws r n bare e =
    let t = whole_takes (ends_numbered version) (λ o. Numbered o.0 o.1) (w ∷ ws) r bare e in
    subst (Spelled version (w ∷ ws)) t.1 (t.2, t.3)

at_takes : (version : Version) (ws : List (List ℕ)) (r : ListRow) → Bare ws → row_at version true ws ≡ Some r → Spelled version ws r
at_takes version [] r bare e = absurd cc
at_takes version (w ∷ ws) r bare e = after_takes version (look_up (rows_of heading_text all_headings) w) w ws r refl bare e

-- what is read is spelled so
pub row_takes : (version : Version) (bytes : List ℕ) (r : ListRow) → row_of version true bytes ≡ Some r → (bytes ≡ row_text r) × FitsRow version r
unfolding row_of row_text Spelled
row_takes version bytes r e =
    let t = at_takes version (split 32 bytes) r (split_without 32 bytes) e in
    (sym (joined-split 32 bytes) ∙ ap (joined 32) t.0, t.1)

at_again : (version : Version) (r : ListRow) → FitsRow version r → row_at version true (row_words r) ≡ Some r
unfolding row_after FitsPair FitsIndexed FitsNumbered Any
at_again version (Head v) h = whole_again ends_version Head v tt
at_again version (Variable i v) h = whole_again ends_entry (λ o. Variable o.0 o.1) (i, v) h
at_again version (Feature i name) h = whole_again ends_indexed (λ o. Feature o.0 o.1) (i, name) h
at_again version (Frame i name) h = whole_again ends_indexed (λ o. Frame o.0 o.1) (i, name) h
at_again version (Numbered n s) h =
    let small : n < 2 ^ 64 = omega (arith, h.0) in
    rw (no_heading (decimal n) (decimal_digits n small) (decimal_nonempty n small)) (whole_again (ends_numbered version) (λ o. Numbered o.0 o.1) (n, s) h)

row_are_words : (version : Version) (r : ListRow) → FitsRow version r → AllByRecursion IsWord (row_words r)
unfolding FitsPair FitsIndexed FitsNumbered Any
row_are_words version (Head v) h = (heading_word headings.Head, ends_version.words v tt)
row_are_words version (Variable i v) h = (heading_word headings.Variables, ends_entry.words (i, v) h)
row_are_words version (Feature i name) h = (heading_word headings.Features, ends_indexed.words (i, name) h)
row_are_words version (Frame i name) h = (heading_word headings.Frames, ends_indexed.words (i, name) h)
row_are_words version (Numbered n s) h = (ends_numbered version).words (n, s) h

all_left : (ws : List (List ℕ)) → AllByRecursion IsWord ws → AllByRecursion (Without 32) ws
all_left [] h = tt
all_left (w ∷ ws) h = (h.0.0, all_left ws h.1)

joined_plain : (ws : List (List ℕ)) → AllByRecursion IsWord ws → Without 10 (joined 32 ws)
joined_plain [] h = tt
joined_plain (w ∷ []) h = h.0.1
joined_plain (w ∷ v ∷ ws) h = all_append _ w (32 ∷ joined 32 (v ∷ ws)) h.0.1 (refl, joined_plain (v ∷ ws) h.1)

cut_again : (ws : List (List ℕ)) → 0 < length ws → AllByRecursion IsWord ws → split 32 (joined 32 ws) ≡ ws
cut_again [] l h = absurd (omega arith)
cut_again (w ∷ ws) l h = split-joined 32 w ws (all_left (w ∷ ws) h)

row_some : (r : ListRow) → 0 < length (row_words r)
row_some (Head v) = omega arith
row_some _ = omega arith

-- what is spelled so is read again
pub row_again : (version : Version) (r : ListRow) → FitsRow version r → row_of version true (row_text r) ≡ Some r
unfolding row_of row_text
row_again version r h = ap (row_at version true) (cut_again (row_words r) (row_some r) (row_are_words version r h)) ∙ at_again version r h

-- a line has no end in it
pub row_plain : (version : Version) (r : ListRow) → FitsRow version r → Without 10 (row_text r)
unfolding row_text
row_plain version r h = joined_plain (row_words r) (row_are_words version r h)

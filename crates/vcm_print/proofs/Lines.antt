-- What is written of a line is what the listing says.
use Rattle.std.proofs.Common.{◌≡◌, ℕ, List, [], ◌∷◌, ◌++◌, refl, sym, ap, ◌∙◌, append_assoc, codes, subst, Option, Some}
use Rattle.std.specs.Prelude.{flat_map, decimal, Result}
use Rattle.std.proofs.lemmas.List.{append-nil}
use Rattle.vcm_num.specs.Written.{Wrote}
use Rattle.vcm_spec.specs.declared.expression.Item.{Item}
use Rattle.vcm_spec.specs.Setup.{Variable as Entry}
use Rattle.vcm_code.specs.declared.branch.Branch.{Branch}
use Rattle.vcm_code.specs.declared.version.Version.{Version}
use Rattle.vcm_code.specs.declared.version.Version.TheVariants.{One, Two}
use Rattle.vcm_code.specs.Code.{CodeStatement}
use Rattle.vcm_code.specs.Shape.{Place, Said, Filled, Parted, parted, places, taken_apart, over_places, over_parted, over_operands}
use Rattle.vcm_code.specs.Shape as at
use Rattle.vcm_spec.specs.Words.{quarters_number, word_number}
use Rattle.vcm_code.specs.Words.{word_of, word_text}
use Rattle.vcm_fields.specs.Fields.{PlainField, in_plain}
use Rattle.vcm_words.specs.declared.row.Row.TheVariants as rows
use Rattle.vcm_words.specs.Enclosed.{closed, opened}
use Rattle.vcm_words.specs.Items.{item_text, expression}
use Rattle.vcm_words.specs.Branches.{branch_text, branches}
use Rattle.vcm_words.specs.Operands.{operands, place_words, single, lettered, axis_text, direction_text, setting_text, source_text, turn_text}
use Rattle.vcm_words.specs.Rows.{row_text, kind_text}
use Rattle.vcm_print.specs.inner.Written.{heading, items_bytes, branches_bytes, place_bytes, statement_bytes, variable_bytes, name_bytes}
use Rattle.vcm_print.specs.Listed.{listed}
use Rattle.vcm_print.proofs.Joining.{blanked, blanked_append, joined_is, text_is}

-- what is written of fields
abbrev pub bytes_of : List PlainField → List ℕ
bytes_of fs = flat_map (in_plain place_bytes) fs

-- values behind the first one, with a blank in front of each
more_of : {A : Type 0} → (A → List ℕ) → List A → List ℕ
more_of text xs = flat_map (λ x. 32 ∷ text x) xs

-- values up to a mark
closed_is : {A : Type 0} (mark : ℕ) (text : A → List ℕ) (x : A) (xs : List A) → blanked (closed mark text (x ∷ xs)) ≡ (32 ∷ text x) ++ (more_of text xs ++ mark ∷ [])
unfolding more_of
closed_is mark text x [] = ap (λ l. 32 ∷ l) (append-nil (text x ++ mark ∷ []))
closed_is mark text x (y ∷ xs) = ap (λ l. (32 ∷ text x) ++ l) (closed_is mark text y xs ∙ sym (append_assoc (32 ∷ text y) (more_of text xs) (mark ∷ [])))

-- values between marks
enclosed_is : {A : Type 0} (left right : ℕ) (text : A → List ℕ) (x : A) (xs : List A) → blanked (opened left (closed right text (x ∷ xs))) ≡ (32 ∷ left ∷ text x) ++ (more_of text xs ++ right ∷ [])
unfolding more_of
enclosed_is left right text x [] = ap (λ l. 32 ∷ left ∷ l) (append-nil (text x ++ right ∷ []))
enclosed_is left right text x (y ∷ xs) = ap (λ l. 32 ∷ left ∷ text x ++ l) (closed_is right text y xs ∙ sym (append_assoc (32 ∷ text y) (more_of text xs) (right ∷ [])))

items_are : (is : List Item) → blanked (expression is) ≡ items_bytes is
unfolding more_of
items_are [] = refl
items_are (i ∷ is) = enclosed_is 91 93 item_text i is

branches_are : (bs : List Branch) → blanked (branches bs) ≡ branches_bytes bs
unfolding more_of
branches_are [] = refl
branches_are (b ∷ bs) = enclosed_is 123 125 branch_text b bs

two_are : (v w : List (List ℕ)) (a b : List ℕ) → blanked v ≡ a → blanked w ≡ b → blanked (v ++ w) ≡ a ++ b
two_are v w a b e f = blanked_append v w ∙ ap (λ l. l ++ blanked w) e ∙ ap (λ l. a ++ l) f

one_is : (w : List ℕ) → blanked (single w) ≡ 32 ∷ w
one_is w = ap (λ l. 32 ∷ l) (append-nil w)

-- the words of a place, with a blank in front of each
place_is : (p : Place) (x : Said p) → blanked (place_words p x) ≡ place_bytes p x
unfolding place_bytes
place_is (at.variable k) n = one_is (86 ∷ decimal n)
place_is at.feature n = one_is (70 ∷ decimal n)
place_is at.frame n = one_is (68 ∷ decimal n)
place_is at.pair n = one_is (76 ∷ decimal n)
place_is at.target n = one_is (64 ∷ decimal n)
place_is (at.items k) e = items_are e
place_is (at.three k) t = two_are (expression t.0) (expression t.1.0 ++ expression t.1.1) _ _ (items_are t.0) (two_are (expression t.1.0) (expression t.1.1) _ _ (items_are t.1.0) (items_are t.1.1))
place_is at.assigned o = two_are (lettered 86 o.0) (expression o.1) _ _ (one_is (86 ∷ decimal o.0)) (items_are o.1)
place_is at.axis d = one_is (axis_text d)
place_is at.direction d = one_is (direction_text d)
place_is at.setting which = one_is (setting_text which)
place_is at.source which = one_is (source_text which)
place_is at.turn axis = one_is (turn_text axis)
place_is at.quarters n = one_is (decimal (quarters_number n))
place_is at.part n = one_is (decimal (word_number n))
place_is at.text bs = text_is (39 ∷ bs ++ 39 ∷ [])
place_is at.branches bs = branches_are bs

places_are : (ps : List Place) (x : Filled ps) → blanked (over_places place_words ps x) ≡ over_places place_bytes ps x
places_are [] x = refl
places_are (p ∷ []) x = place_is p x
places_are (p ∷ q ∷ ps) x = two_are (place_words p x.0) (over_places place_words (q ∷ ps) x.1) _ _ (place_is p x.0) (places_are (q ∷ ps) x.1)

parted_are : (p : Parted) → blanked (over_parted place_words p) ≡ over_parted place_bytes p
parted_are (parted w x) = places_are (places w) x

assoc : (a b c p e : List ℕ) → (a ++ (b ++ (c ++ p))) ++ e ≡ (a ++ (b ++ c)) ++ (p ++ e)
assoc a b c p e =
    append_assoc a (b ++ (c ++ p)) e
    ∙ ap (λ l. a ++ l) (ap (λ l. l ++ e) (sym (append_assoc b c p)) ∙ append_assoc (b ++ c) p e)
    ∙ sym (append_assoc a (b ++ c) (p ++ e))

-- a statement's line is written as it is listed
pub line_is : (n : ℕ) (s : CodeStatement) → statement_bytes n s ≡ listed (rows.Numbered n s)
unfolding listed row_text
line_is n s =
    let words : List (List ℕ) = decimal s.line ∷ word_text (word_of s.op) ∷ operands s.op in
    sym (ap (λ l. l ++ codes "\n") (joined_is (decimal n) words ∙ ap (λ l. decimal n ++ (32 ∷ decimal s.line ++ (32 ∷ word_text (word_of s.op) ++ l))) (parted_are (taken_apart s.op)))
    ∙ assoc (decimal n) (32 ∷ decimal s.line) (32 ∷ word_text (word_of s.op)) (over_operands place_bytes s.op) (codes "\n"))

-- the line of a feature, and that of a frame
pub feature_is : (n : ℕ) (name : List ℕ) → name_bytes (codes "FEATURE ") n name ≡ listed (rows.Feature n name)
unfolding listed row_text
feature_is n name = sym (ap (λ l. codes "FEATURE " ++ l) (append_assoc (decimal n) (32 ∷ name) (codes "\n")))

pub frame_is : (n : ℕ) (name : List ℕ) → name_bytes (codes "FRAME ") n name ≡ listed (rows.Frame n name)
unfolding listed row_text
frame_is n name = sym (ap (λ l. codes "FRAME " ++ l) (append_assoc (decimal n) (32 ∷ name) (codes "\n")))

-- the line of a variable
pub variable_is : (n : ℕ) (v : Entry) → variable_bytes n v.kind v.name v.expansion ≡ listed (rows.Variable n v)
unfolding listed row_text
variable_is n v =
    sym (ap (λ l. codes "VAR " ++ l) (append_assoc (decimal n) (32 ∷ kind_text v.kind ++ (32 ∷ v.name ++ (32 ∷ decimal v.expansion))) (codes "\n")
    ∙ ap (λ l. decimal n ++ (32 ∷ l)) (append_assoc (kind_text v.kind) (32 ∷ v.name ++ (32 ∷ decimal v.expansion)) (codes "\n")
    ∙ ap (λ l. kind_text v.kind ++ (32 ∷ l)) (append_assoc v.name (32 ∷ decimal v.expansion) (codes "\n")))))

-- the first line
pub head_is : (version : Version) → heading version ≡ listed (rows.Head version)
unfolding listed row_text
head_is One = refl
head_is Two = refl

same_line : (o : Option CodeStatement) (s t : CodeStatement) → o ≡ Some s → o ≡ Some t → s ≡ t
same_line o s t e f = cc

-- the line that was written is that of the statement at this place
pub wrote_listed : {A E : Type 0} (a b : Option (List ℕ)) (n : ℕ) (t s : CodeStatement) (r : Result A E) (o : Option CodeStatement) → o ≡ Some t → o ≡ Some s
    → Wrote a b (statement_bytes n t) r → Wrote a b (listed (rows.Numbered n s)) r
wrote_listed a b n t s r o e f h = subst (λ l. Wrote a b l r) (ap (λ x. statement_bytes n x) (same_line o t s e f) ∙ line_is n s) h

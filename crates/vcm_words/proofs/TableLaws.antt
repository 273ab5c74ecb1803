-- Small tables: what is found by a word has this word, and each value of a table is found by its own.
use Rattle.std.proofs.Common.{◌≡◌, ℕ, ◌<◌, ◌==◌, ◌&&◌, not, Bool, true, false, cond, List, [], ◌∷◌, Option, Some, refl, subst}
use Rattle.std.specs.Str.{bytes_eq}
use Rattle.std.specs.List.{AllByRecursion, list_all}
use Rattle.std.proofs.lemmas.Bool.{and_parts}
use Rattle.std.proofs.lemmas.Slice.Eq.{bytes_eq-Decides}
use Rattle.vcm_num.specs.Words.{look_up}
use Rattle.vcm_num.specs.declared.number.Kind.{Kind}
use Rattle.vcm_num.specs.declared.number.Kind.TheVariants.{Int}
use Rattle.vcm_num.specs.declared.axis.Axis.{Axis}
use Rattle.vcm_num.specs.declared.axis.Axis.TheVariants.{PlusX}
use Rattle.vcm_spec.specs.declared.words.Setting.{Setting}
use Rattle.vcm_spec.specs.declared.words.Setting.TheVariants.{Approach}
use Rattle.vcm_spec.specs.declared.words.Source.{Source}
use Rattle.vcm_spec.specs.declared.words.Source.TheVariants.{Nominal}
use Rattle.vcm_spec.specs.declared.words.FrameAxis.{FrameAxis}
use Rattle.vcm_spec.specs.declared.words.FrameAxis.TheVariants as frame_axis
use Rattle.vcm_code.specs.declared.version.Version.{Version}
use Rattle.vcm_code.specs.declared.version.Version.TheVariants.{One}
use Rattle.vcm_code.specs.declared.word.Word.{Word}
use Rattle.vcm_code.specs.declared.word.Word.TheVariants as words
use Rattle.vcm_words.specs.declared.row.Heading.{Heading}
use Rattle.vcm_words.specs.declared.row.Heading.TheVariants as headings
use Rattle.vcm_words.specs.inner.Marks.{Without, IsWord}
use Rattle.vcm_words.specs.WordReaders.{rows_of}
use Rattle.vcm_code.specs.Shape.{axes, directions, settings, sources, frame_axes, kinds, all_words}
use Rattle.vcm_code.specs.Words.{word_text}
use Rattle.vcm_words.specs.Operands.{axis_text, direction_text, setting_text, source_text, turn_text}
use Rattle.vcm_words.specs.Rows.{kind_text, version_text, versions, heading_text, all_headings}
use Rattle.vcm_words.proofs.Inverse.{Means, some_is}

-- ---- tables

pub turned : (b : Bool) → not b ≡ true → b ≡ false
turned true h = absurd cc
turned false h = refl

-- neither a blank, the end of a line nor a bracket
abbrev pub is_plain_byte : ℕ → Bool
is_plain_byte b = not (b == 32) && (not (b == 10) && not (b == 93))

-- a word that ends no list of items
abbrev pub IsPlain : List ℕ → Type 0
IsPlain w = IsWord w × Without 93 w

pub plain_word : (w : List ℕ) → list_all is_plain_byte w ≡ true → IsPlain w
plain_word [] h = ((tt, tt), tt)
plain_word (b ∷ bs) h =
    let t = and_parts (is_plain_byte b) (list_all is_plain_byte bs) h in
    let u = and_parts (not (b == 32)) (not (b == 10) && not (b == 93)) t.0 in
    let v = and_parts (not (b == 10)) (not (b == 93)) u.1 in
    let r = plain_word bs t.1 in
    (((turned (b == 32) u.0, r.0.0), (turned (b == 10) v.0, r.0.1)), (turned (b == 93) v.1, r.1))

-- a value that is found by its word, which is plain
abbrev pub IsRow : {A : Type 0} → (A → List ℕ) → List A → A → Type 0
IsRow text xs x = (look_up (rows_of text xs) (text x) ≡ Some x) × (list_all is_plain_byte (text x) ≡ true)

pub table_takes : {A : Type 0} (text : A → List ℕ) (P : A → Type 0) (xs : List A) (w : List ℕ) (x : A) → AllByRecursion P xs → look_up (rows_of text xs) w ≡ Some x → (w ≡ text x) × P x
table_takes text P [] w x h e = absurd cc
table_takes {A} text P (y ∷ xs) w x h e = split (λ g. table_takes text P xs w x h.1 g) (bytes_eq w (text y)) refl e
  where
    split : (look_up (rows_of text xs) w ≡ Some x → (w ≡ text x) × P x) → (t : Bool) → bytes_eq w (text y) ≡ t → cond t (Some y) (look_up (rows_of text xs) w) ≡ Some x → (w ≡ text x) × P x
    split more true t g = subst (λ (z : A). (w ≡ text z) × P z) (some_is _ _ g) ((bytes_eq-Decides _ _).0 t, h.0)
    split more false t g = more g

pub means_table : {A : Type 0} (text : A → List ℕ) (P : A → Type 0) (xs : List A) → AllByRecursion P xs → ((x : A) → P x → IsRow text xs x) → Means (look_up (rows_of text xs)) text P
means_table text P xs h row = record {
  takes = λ w x e. table_takes text P xs w x h e;
  again = λ x p. (row x p).0;
  words = λ x p. (plain_word (text x) (row x p).1).0;
}

-- ---- the values of each table

unfoldable pub Any : {A : Type 0} → A → Type 0
Any x = Unit {0}

all_any : {A : Type 0} (xs : List A) → AllByRecursion Any xs
unfolding Any
all_any [] = tt
all_any (x ∷ xs) = (tt, all_any xs)

pub means_any : {A : Type 0} (text : A → List ℕ) (xs : List A) → ((x : A) → IsRow text xs x) → Means (look_up (rows_of text xs)) text Any
means_any text xs row = means_table text Any xs (all_any xs) (λ x h. row x)

pub axis_row : (x : Axis) → IsRow axis_text axes x
axis_row PlusX = (refl, refl)
axis_row _ = (refl, refl)

pub direction_row : (x : Option Axis) → IsRow direction_text directions x
direction_row (Some PlusX) = (refl, refl)
direction_row _ = (refl, refl)

pub setting_row : (x : Setting) → IsRow setting_text settings x
setting_row Approach = (refl, refl)
setting_row _ = (refl, refl)

pub source_row : (x : Source) → IsRow source_text sources x
source_row Nominal = (refl, refl)
source_row _ = (refl, refl)

pub kind_row : (x : Kind) → IsRow kind_text kinds x
kind_row Int = (refl, refl)
kind_row _ = (refl, refl)

pub version_row : (x : Version) → IsRow version_text versions x
version_row One = (refl, refl)
version_row _ = (refl, refl)

pub heading_row : (x : Heading) → IsRow heading_text all_headings x
heading_row headings.Head = (refl, refl)
heading_row _ = (refl, refl)

pub word_row : (x : Word) → IsRow word_text all_words x
word_row words.EndFil = (refl, refl)
word_row _ = (refl, refl)

pub turn_row : (x : FrameAxis) → IsRow turn_text frame_axes x
turn_row frame_axis.X = (refl, refl)
turn_row _ = (refl, refl)

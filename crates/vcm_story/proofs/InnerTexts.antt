-- Each text within a line of a story is one: printable, and no <.
use Rattle.std.proofs.Common.{◌≡◌, ℕ, zero, suc, ℤ, pos, negsuc, ◌+◌, ◌/◌, ◌%◌, ◌<◌, ◌==◌, Bool, true, false, List, [], ◌∷◌, ◌++◌, slice_get, unwrap_or, Option, Some, None, refl, ap, ◌∙◌, arith}
use Rattle.std.specs.Prelude.{if◌then◌else◌, ◌&&◌, codes, decimal}
use Rattle.std.specs.Fmt.{digits, digits_onto, digit_glyph, signed_decimal}
use Rattle.std.specs.Char.{is_ascii_digit}
use Rattle.std.specs.List.{list_all}
use Rattle.std.proofs.Math.Nat.{mod-lt}
use Rattle.std.proofs.lemmas.Bool.{and_from}
use Rattle.vcm_num.specs.declared.number.Kind.{Kind}
use Rattle.vcm_num.specs.declared.number.Kind.TheVariants.{Int, Real, Bool as Truth}
use Rattle.vcm_num.specs.declared.point.Point.{Point}
use Rattle.vcm_num.specs.Axis.{unit}
use Rattle.vcm_num.specs.Point.{coordinate}
use Rattle.vcm_num.specs.Texts.{three_digits, size_text, thousandths}
use Rattle.vcm_items.specs.NameBytes.{is_name_byte, IsName, is_variable_name}
use Rattle.vcm_items.specs.Names.{AreNamed}
use Rattle.vcm_spec.specs.declared.feature.Feature.{Feature}
use Rattle.vcm_spec.specs.declared.words.Source.{Source}
use Rattle.vcm_spec.specs.declared.words.Source.TheVariants.{Nominal, Actual}
use Rattle.vcm_spec.specs.Setup.{Tables, Variable}
use Rattle.vcm_spec.specs.Texts.{three_texts, letters, feature_line}
use Rattle.vcm_spec.specs.Value.{is_true}
use Rattle.vcm_code.specs.Ranges.{AllAreNames}
use Rattle.vcm_report.specs.Printed.{in_a_row, name_at, feature_words, feature_text}
use Rattle.vcm_console.specs.Replies.{named, number_sign, kind_value, value_text}
use Rattle.vcm_rows.specs.Rows.{point_then}
use Rattle.vcm_rows.specs.Spelled.{is_plain, hex_digit, spelled_byte, spelled}
use Rattle.vcm_story.proofs.ReadTexts.{both, holds_at}
use Rattle.vcm_story.proofs.LineTexts.{Goes, goes_in, lines_behind, end_behind, no_end, clear_inner, is_inner, Inner, inner, join, in_row, each, either, LineEnd, end, onto}

abbrev AllInner : List ℕ → Type 0
AllInner xs = list_all is_inner xs ≡ true

-- a byte of such a text, or one that may stand in it
get_inner : (xs : List ℕ) (i d : ℕ) → AllInner xs → is_inner d ≡ true → is_inner (unwrap_or (slice_get xs i) d) ≡ true
get_inner [] i d h e = e
get_inner (x ∷ xs) zero d h e = (both (is_inner x) (list_all is_inner xs) h).0
get_inner (x ∷ xs) (suc i) d h e = get_inner xs i d (both (is_inner x) (list_all is_inner xs) h).1 e

-- ---- numbers

digit_inner : (d : ℕ) → d < 10 → is_inner (48 + d) ≡ true
digit_inner d l = holds_at (λ d. is_inner (48 + d)) 10 d refl l

glyph_digit : (d : ℕ) → d < 10 → is_ascii_digit (digit_glyph false d) ≡ true
glyph_digit d l = holds_at (λ d. is_ascii_digit (digit_glyph false d)) 10 d refl l

inner_digit : (b : ℕ) → is_ascii_digit b ≡ true → is_inner b ≡ true
inner_digit b e = grind (arith, e)

inner_digits : (bs : List ℕ) → list_all is_ascii_digit bs ≡ true → AllInner bs
inner_digits [] h = refl
inner_digits (b ∷ bs) h = let p = both (is_ascii_digit b) (list_all is_ascii_digit bs) h in and_from _ _ (inner_digit b p.0) (inner_digits bs p.1)

-- a digit, and more of them
abbrev pub is_number : List ℕ → Bool
is_number [] = false
is_number (b ∷ bs) = is_ascii_digit b && list_all is_ascii_digit bs

some_digits : (bs : List ℕ) → is_number bs ≡ true → list_all is_ascii_digit bs ≡ true
some_digits [] h = refl
some_digits (b ∷ bs) h = h

either_number : (b : Bool) (xs ys : List ℕ) → is_number xs ≡ true → is_number ys ≡ true → is_number (if b then xs else ys) ≡ true
either_number true xs ys p q = p
either_number false xs ys p q = q

onto_digits : (k n : ℕ) (b : ℕ) (acc : List ℕ) → is_number (b ∷ acc) ≡ true → is_number (digits_onto k 10 false n (b ∷ acc)) ≡ true
onto_digits zero n b acc h = h
onto_digits (suc k) n b acc h =
    let g = glyph_digit (n % 10) (mod-lt n (omega arith)) in
    let more : is_number (digit_glyph false (n % 10) ∷ b ∷ acc) ≡ true = and_from _ _ g h in
    either_number (n / 10 == 0) (digit_glyph false (n % 10) ∷ b ∷ acc) (digits_onto k 10 false (n / 10) (digit_glyph false (n % 10) ∷ b ∷ acc)) more
    (onto_digits k (n / 10) (digit_glyph false (n % 10)) (b ∷ acc) more)

pub number_digits : (n : ℕ) → is_number (decimal n) ≡ true
unfolding digits
number_digits n =
    let g = glyph_digit (n % 10) (mod-lt n (omega arith)) in
    let first : is_number (digit_glyph false (n % 10) ∷ []) ≡ true = and_from _ _ g refl in
    either_number (n / 10 == 0) (digit_glyph false (n % 10) ∷ []) (digits_onto 63 10 false (n / 10) (digit_glyph false (n % 10) ∷ [])) first
    (onto_digits 63 (n / 10) (digit_glyph false (n % 10)) [] first)

pub number : (n : ℕ) → Inner (decimal n)
number n = inner (inner_digits (decimal n) (some_digits (decimal n) (number_digits n)))

pub signed : (z : ℤ) → Inner (signed_decimal z)
signed (pos n) = number n
signed (negsuc n) = join (codes "-") (decimal (suc n)) (inner refl) (number (suc n))

three : (n : ℕ) → n < 1000 → Inner (three_digits n)
three n l =
    inner (and_from _ _ (digit_inner (n / 100) (omega (arith, l)))
    (and_from _ _ (digit_inner ((n / 10) % 10) (mod-lt (n / 10) (omega arith))) (and_from _ _ (digit_inner (n % 10) (mod-lt n (omega arith))) refl)))

size : (n : ℕ) → Inner (size_text n)
size n = join (decimal (n / 1000)) (codes "." ++ three_digits (n % 1000)) (number (n / 1000)) (join (codes ".") (three_digits (n % 1000)) (inner refl) (three (n % 1000) (mod-lt n (omega arith))))

pub length : (z : ℤ) → Inner (thousandths z)
length (pos n) = size n
length (negsuc n) = join (codes "-") (size_text (suc n)) (inner refl) (size (suc n))

-- ---- names

name_byte : (b : ℕ) → is_name_byte b ≡ true → is_inner b ≡ true
name_byte b e = grind (arith, e)

name_bytes : (bs : List ℕ) → list_all is_name_byte bs ≡ true → AllInner bs
name_bytes [] h = refl
name_bytes (b ∷ bs) h = let p = both (is_name_byte b) (list_all is_name_byte bs) h in and_from _ _ (name_byte b p.0) (name_bytes bs p.1)

name : (bs : List ℕ) → IsName bs → Inner bs
name bs h = inner (name_bytes bs (both _ (list_all is_name_byte bs) h).1)

pub at_index : (ns : List (List ℕ)) → AllAreNames ns → (i : ℕ) → Inner (name_at ns i)
at_index [] h i = inner refl
at_index (n ∷ ns) h zero = name n h.0
at_index (n ∷ ns) h (suc i) = at_index ns h.1 i

variable : (bs : List ℕ) → is_variable_name bs ≡ true → Inner bs
variable [] h = inner refl
variable (b ∷ bs) h = name (b ∷ bs) (both _ _ h).1

pub named_there : (vs : List Variable) → AreNamed vs → (i : ℕ) → Inner (named (slice_get vs i))
named_there [] h i = inner refl
named_there (v ∷ vs) h zero =
    join v.name (number_sign v.expansion) (variable v.name h.0)
    (either (v.expansion == 0) [] (codes "#" ++ decimal v.expansion) (inner refl)
    (join (codes "#") (decimal v.expansion) (inner refl) (number v.expansion)))
named_there (v ∷ vs) h (suc i) = named_there vs h.1 i

-- ---- values, points and features

kind : (k : Kind) (z : ℤ) → Inner (kind_value k z)
kind Int z = signed z
kind Real z = length z
kind Truth z = either (is_true z) (codes ".TRUE.") (codes ".FALSE.") (inner refl) (inner refl)

pub value : (o : Option Variable) (z : ℤ) → Inner (value_text o z)
value None z = inner refl
value (Some v) z = kind v.kind z

-- a point, and what ends its line
pub point : (p : Point) (behind : List (List ℕ)) → LineEnd (in_a_row behind) → LineEnd (in_a_row (point_then p behind))
point p behind h =
    onto _ _ (signed (coordinate p 0)) (onto (codes " ") _ (inner refl) (onto _ _ (signed (coordinate p 1)) (onto (codes " ") _ (inner refl) (onto _ _ (signed (coordinate p 2)) h))))

pub point_alone : (p : Point) → Inner (in_a_row (point_then p []))
point_alone p = in_row (point_then p []) (signed (coordinate p 0), (inner refl, (signed (coordinate p 1), (inner refl, (signed (coordinate p 2), tt)))))

three_text : (text : ℕ → List ℕ) → ((k : ℕ) → Inner (text k)) → Inner (three_texts text)
three_text text h =
    let a = text 0 ++ codes "," in
    let b = a ++ text 1 in
    let c = b ++ codes "," in
    join c (text 2) (join b (codes ",") (join a (text 1) (join (text 0) (codes ",") (h 0) (inner refl)) (h 1)) (inner refl)) (h 2)

source_letters : (source : Source) → Inner (letters source)
source_letters Nominal = inner refl
source_letters Actual = inner refl

module _ (tables : Tables) (names : AllAreNames tables.features) (source : Source) (i : ℕ) where
  there : (f : Feature) → Inner (feature_line source (name_at tables.features i) f)
  there f =
      let at = three_texts (λ k. thousandths (coordinate f.at k)) in
      let toward = three_texts (λ k. signed_decimal (unit f.toward k)) in
      let own = name_at tables.features i in
      let a = letters source ++ own in
      let b = a ++ codes ")=FEAT/POINT,CART," in
      let c = b ++ at in
      let d = c ++ codes "," in
      join d toward (join c (codes ",") (join b at (join a (codes ")=FEAT/POINT,CART,") (join (letters source) own (source_letters source) (at_index tables.features names i)) (inner refl))
      (three_text (λ k. thousandths (coordinate f.at k)) (λ k. length (coordinate f.at k)))) (inner refl))
      (three_text (λ k. signed_decimal (unit f.toward k)) (λ k. signed (unit f.toward k)))

  words : (f : Option Feature) → Inner (feature_words tables source i f)
  words (Some f) = there f
  words None = join (letters source) (name_at tables.features i ++ codes ") undefined") (source_letters source)
      (join (name_at tables.features i) (codes ") undefined") (at_index tables.features names i) (inner refl))

  pub feature : (f : Option Feature) → LineEnd (feature_text tables source i f)
  feature f = onto (feature_words tables source i f) (codes "\n") (words f) end

-- ---- spelled texts

plain : (b : ℕ) → is_plain b ≡ true → is_inner b ≡ true
plain b e = grind (arith, e)

hex : (n : ℕ) → is_inner (hex_digit n) ≡ true
hex n = get_inner (codes "0123456789ABCDEF") n 48 refl refl

byte : (b : ℕ) → Inner (spelled_byte b)
byte b = by (is_plain b) refl
  where
    by : (p : Bool) → is_plain b ≡ p → Inner (if p then b ∷ [] else 37 ∷ hex_digit (b / 16) ∷ hex_digit (b % 16) ∷ [])
    by true e = inner (and_from _ _ (plain b e) refl)
    by false e = inner (and_from _ _ (hex (b / 16)) (and_from _ _ (hex (b % 16)) refl))

pub spelled_text : (bs : List ℕ) → Inner (spelled bs)
spelled_text bs = each spelled_byte bs byte

-- ---- lines that begin with a number

-- a number begins such a line, and what follows within it stands there too
pub number_first : (n : ℕ) {rest : List ℕ} → Inner rest → Goes None (decimal n ++ rest) (decimal n ++ rest) (Some true)
number_first n {rest} h = by (decimal n) (number_digits n)
  where
    by : (ds : List ℕ) → is_number ds ≡ true → Goes None (ds ++ rest) (ds ++ rest) (Some true)
    by [] e = absurd cc
    by (b ∷ bs) e =
        let p = both (is_ascii_digit b) (list_all is_ascii_digit bs) e in
        let more = goes_in true (bs ++ rest) (join bs rest (inner (inner_digits bs p.1)) h) in
        record {
          shown = lines_behind b true (bs ++ rest) (no_end b (inner_digit b p.0)) p.0 ∙ ap (λ l. b ∷ l) more.shown;
          ends = end_behind b true (bs ++ rest) (no_end b (inner_digit b p.0)) p.0 ∙ more.ends;
          clear = and_from _ _ (clear_inner b (inner_digit b p.0)) more.clear;
        }

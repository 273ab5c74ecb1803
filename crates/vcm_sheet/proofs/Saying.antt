-- What is said by bytes that are appended one after another.
use Rattle.std.proofs.Common.{◌≡◌, ◌∙◌, sym, ap, subst, refl, ℕ, ◌+◌, ◌<◌, ℤ, ◌≤◌, List, [], ◌∷◌, ◌++◌, length, take, get_or, append_assoc, append-nil}
use Rattle.std.specs.Prelude.{Result, Ok, Err, OnOk, IfOk, flat_map}
use Rattle.std.proofs.lemmas.List.{take_more, take_all}
use Rattle.vcm_svg.specs.declared.rect.Spot.{Spot}
use Rattle.vcm_svg.specs.declared.shapes.Placement.{Placement}
use Rattle.vcm_svg.specs.declared.shapes.Lettering.{Lettering}
use Rattle.vcm_svg.specs.declared.shapes.Lettering.TheVariants.{Plain, Heading, Number, Name, Note}
use Rattle.vcm_svg.specs.declared.legend.Sign.{Sign}
use Rattle.vcm_svg.specs.declared.shapes.Class.{Class}
use Rattle.vcm_svg.specs.Legend.{sign_in_row, words_label, row_text}
use Rattle.vcm_svg.specs.Pieces.{joined}
use Rattle.vcm_svg.specs.Shapes.{attribute, path, text}
use Rattle.vcm_sheet.specs.Sayings.{Saying, Words, WordsAt, IsMute, AreInTag, text_with, IsText, IsSaid, Says, Adds, say}
use Rattle.vcm_sheet.specs.Painted.{line_text}
use Rattle.vcm_sheet.proofs.Mute.{mute_none, mute_both, mute_line, mute_path}

-- ---- what bytes say

-- bytes that say nothing before others
quiet_before : (ss : List Saying) (x y : List ℕ) → IsMute x → Says ss y → Says ss (x ++ y)
quiet_before [] x y h k = mute_both x y h k
quiet_before (s ∷ ss) x y h k = record {
  gap = x ++ k.gap;
  first = k.first;
  rest = k.rest;
  mute = mute_both x k.gap h k.mute;
  says_first = k.says_first;
  says_rest = k.says_rest;
  bytes_are = ap (λ l. x ++ l) k.bytes_are ∙ sym (append_assoc x k.gap (k.first ++ k.rest));
}

says_both : (ss ts : List Saying) (x y : List ℕ) → Says ss x → Says ts y → Says (ss ++ ts) (x ++ y)
says_both [] ts x y h k = quiet_before ts x y h k
says_both (s ∷ ss) ts x y h k = record {
  gap = h.gap;
  first = h.first;
  rest = h.rest ++ y;
  mute = h.mute;
  says_first = h.says_first;
  says_rest = says_both ss ts h.rest y h.says_rest k;
  bytes_are = ap (λ l. l ++ y) h.bytes_are ∙ append_assoc h.gap (h.first ++ h.rest) y ∙ ap (λ l. h.gap ++ l) (append_assoc h.first h.rest y);
}

says_one : (s : Saying) (x : List ℕ) → IsSaid s x → Says (s ∷ []) x
says_one s x h = record {
  gap = [];
  first = x;
  rest = [];
  mute = mute_none;
  says_first = h;
  says_rest = mute_none;
  bytes_are = sym (append-nil x);
}

-- ---- what was appended

pub adds_none : (o : List ℕ) → Adds [] o o
adds_none o = record { more = []; says = mute_none; new_is = sym (append-nil o) }

pub adds_mute : (o n x : List ℕ) → IsMute x → n ≡ o ++ x → Adds [] o n
adds_mute o n x h e = record { more = x; says = h; new_is = e }

pub adds_said : (s : Saying) (o n x : List ℕ) → IsSaid s x → n ≡ o ++ x → Adds (s ∷ []) o n
adds_said s o n x h e = record { more = x; says = says_one s x h; new_is = e }

-- a saying after bytes that say nothing
pub adds_after : (s : Saying) (o n x y : List ℕ) → IsMute x → IsSaid s y → n ≡ o ++ (x ++ y) → Adds (s ∷ []) o n
adds_after s o n x y h k e = record { more = x ++ y; says = quiet_before (s ∷ []) x y h (says_one s y k); new_is = e }

pub adds_both : (ss ts : List Saying) (o n m : List ℕ) → Adds ss o n → Adds ts n m → Adds (ss ++ ts) o m
adds_both ss ts o n m h k = record {
  more = h.more ++ k.more;
  says = says_both ss ts h.more k.more h.says k.says;
  new_is = k.new_is ∙ ap (λ l. l ++ k.more) h.new_is ∙ append_assoc o h.more k.more;
}

pub adds_three : (ss ts us : List Saying) (o n m l : List ℕ) → Adds ss o n → Adds ts n m → Adds us m l → Adds (ss ++ (ts ++ us)) o l
adds_three ss ts us o n m l h k j = adds_both ss (ts ++ us) o n l h (adds_both ts us n m l k j)

pub adds_four : (ss ts us vs : List Saying) (o n m l k : List ℕ) → Adds ss o n → Adds ts n m → Adds us m l → Adds vs l k
    → Adds (ss ++ (ts ++ (us ++ vs))) o k
adds_four ss ts us vs o n m l k a b c d = adds_both ss (ts ++ (us ++ vs)) o n k a (adds_three ts us vs n m l k b c d)

-- what one call appended, and then the last one
pub adds_then : {A E : Type 0} (r : Result A E) (ss ts : List Saying) (o n m : List ℕ) → Adds ss o n → OnOk r (Adds ts n m) → OnOk r (Adds (ss ++ ts) o m)
adds_then (Ok a) ss ts o n m h k = adds_both ss ts o n m h k
adds_then (Err e) ss ts o n m h k = k

pub adds_last : {A E : Type 0} (r : Result A E) (ss ts : List Saying) (o n m : List ℕ) → Adds ss o n → IfOk r (λ a. Adds ts n m) → IfOk r (λ a. Adds (ss ++ ts) o m)
adds_last (Ok a) ss ts o n m h k = adds_both ss ts o n m h k
adds_last (Err e) ss ts o n m h k = k

-- what one call appended, and then the last one, which says nothing
pub adds_end : {A E : Type 0} (r : Result A E) (ss : List Saying) (o n x m : List ℕ) → IsMute x → Adds ss o n → OnOk r (m ≡ n ++ x) → OnOk r (Adds ss o m)
adds_end (Ok a) ss o n x m h k e = subst (λ l. Adds l o m) (append-nil ss) (adds_both ss [] o n m k (adds_mute n m x h e))
adds_end (Err f) ss o n x m h k e = e

-- what the last call appended, which says nothing
pub last_mute : {A E : Type 0} (r : Result A E) (o n x : List ℕ) → IsMute x → OnOk r (n ≡ o ++ x) → OnOk r (Adds [] o n)
last_mute (Ok a) o n x h e = adds_mute o n x h e
last_mute (Err f) o n x h e = e

-- ---- texts

in_tag : (c : Lettering) → AreInTag (attribute c)
in_tag Plain = refl
in_tag Heading = refl
in_tag Number = refl
in_tag Name = refl
in_tag Note = refl

pub text_said : (l : Placement) (w : List ℕ) → IsText l.at w (text l w)
unfolding text_with
text_said l w = record { size = l.size; attributes = attribute l.class; in_tag = in_tag l.class; bytes_are = refl }

pub adds_text : (l : Placement) (w o n : List ℕ) → n ≡ o ++ text l w → Adds (Words w ∷ []) o n
adds_text l w o n e = adds_said (Words w) o n (text l w) (record { at = l.at; is_text = text_said l w }) e

-- a row of a legend
pub adds_row : (at : Spot) (u : ℤ) (row : ℕ × Class × Sign × List ℕ) (o n : List ℕ) → n ≡ o ++ row_text at u row → Adds (say (row.3 ∷ []) ∷ []) o n
adds_row at u row o n e =
    adds_after (say (row.3 ∷ [])) o n (path row.1 (sign_in_row at u row.0 row.2)) (text (words_label at u row.0) (joined (row.3 ∷ [])))
    (mute_path row.1 (sign_in_row at u row.0 row.2))
    (record { at = (words_label at u row.0).at; is_text = text_said (words_label at u row.0) (joined (row.3 ∷ [])) }) e

pub last_text : {A E : Type 0} (r : Result A E) (l : Placement) (w o n : List ℕ) → OnOk r (n ≡ o ++ text l w) → OnOk r (Adds (Words w ∷ []) o n)
last_text (Ok a) l w o n e = adds_text l w o n e
last_text (Err f) l w o n e = e

-- a text with attributes
pub last_with : {A E : Type 0} (r : Result A E) (at : Spot) (size : ℤ) (attributes w o n : List ℕ) → AreInTag attributes
    → OnOk r (n ≡ o ++ text_with at size attributes w) → OnOk r (Adds (Words w ∷ []) o n)
last_with (Ok a) at size attributes w o n h e =
    adds_said (Words w) o n (text_with at size attributes w)
    (record { at = at; is_text = record { size = size; attributes = attributes; in_tag = h; bytes_are = refl } }) e
last_with (Err f) at size attributes w o n h e = e

-- a line, which says nothing
pub last_line : {A E : Type 0} (r : Result A E) (c : List ℕ) (a b : Spot) (o n : List ℕ) → IsMute c → OnOk r (n ≡ o ++ line_text c a b) → OnOk r (Adds [] o n)
last_line r c a b o n h e = last_mute r o n (line_text c a b) (mute_line c a b h) e

pub adds_line : (c : List ℕ) (a b : Spot) (o n : List ℕ) → IsMute c → n ≡ o ++ line_text c a b → Adds [] o n
adds_line c a b o n h e = adds_mute o n (line_text c a b) (mute_line c a b h) e

-- the same at its place
pub last_at : {A E : Type 0} (r : Result A E) (at : Spot) (size : ℤ) (attributes w o n : List ℕ) → AreInTag attributes
    → OnOk r (n ≡ o ++ text_with at size attributes w) → OnOk r (Adds (WordsAt at w ∷ []) o n)
last_at (Ok a) at size attributes w o n h e =
    adds_said (WordsAt at w) o n (text_with at size attributes w) (record { size = size; attributes = attributes; in_tag = h; bytes_are = refl }) e
last_at (Err f) at size attributes w o n h e = e

-- ---- one row after another

flat_more : {A : Type 0} (f : A → List Saying) (xs : List A) (x : A) → flat_map f (xs ++ x ∷ []) ≡ flat_map f xs ++ f x
flat_more f [] x = append-nil (f x)
flat_more f (y ∷ ys) x = ap (λ l. f y ++ l) (flat_more f ys x) ∙ sym (append_assoc (f y) (flat_map f ys) (f x))

pub row_more : {A : Type 0} (f : A → List Saying) (xs : List A) (i : ℕ) (d : A) (o n m : List ℕ) → i < length xs
    → Adds (flat_map f (take i xs)) o n → Adds (f (get_or xs i d)) n m → Adds (flat_map f (take (i + 1) xs)) o m
row_more f xs i d o n m h k r =
    let e : flat_map f (take (i + 1) xs) ≡ flat_map f (take i xs) ++ f (get_or xs i d) = ap (flat_map f) (take_more xs i d h) ∙ flat_more f (take i xs) (get_or xs i d) in
    subst (λ l. Adds l o m) (sym e) (adds_both _ _ o n m k r)

pub all_rows : {A : Type 0} (f : A → List Saying) (xs : List A) (i : ℕ) (o n : List ℕ) → length xs ≤ i → Adds (flat_map f (take i xs)) o n
    → Adds (flat_map f xs) o n
all_rows f xs i o n h k = subst (λ l. Adds (flat_map f l) o n) (take_all i xs h) k

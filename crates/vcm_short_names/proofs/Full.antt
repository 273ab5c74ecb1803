-- A short name has sixteen bytes, so words that have as many are enough to tell whether it is taken.
use Rattle.std.proofs.Common.{◌≡◌, ℕ, zero, suc, ◌+◌, ◌<◌, ◌≤◌, ◌/◌, ◌%◌, ◌==◌, Bool, true, false, ◌&&◌, ◌||◌, nat_lt, if◌then◌else◌, List, [], ◌∷◌, ◌++◌, length, map, take, Option, Some, refl, sym, ap, ◌∙◌, arith, length-append}
use Rattle.std.specs.List.{list_any, list_all, filter}
use Rattle.std.proofs.lemmas.Grind.{common_steps}
use Rattle.std.proofs.lemmas.List.{length-map, length-take-le}
use Rattle.std.proofs.lemmas.List.Folds.{list_all-append}
use Rattle.std.proofs.lemmas.Slice.Eq.{bytes_eq-Decides}
use Rattle.vcm_lines.specs.Bytes.{upper}
use Rattle.vcm_num.specs.declared.limits.TheConstants.{LONGEST_NAME}
use Rattle.vcm_short_names.specs.declared.pieces.Piece.{Piece}
use Rattle.vcm_short_names.specs.declared.long.LongName.{LongName}
use Rattle.vcm_short_names.specs.declared.short.ShortName.{ShortName}
use Rattle.vcm_short_names.specs.declared.short.TheConstants.{LONGEST_FRONT, MOST_ALIKE}
use Rattle.vcm_short_names.specs.Short.{is_same, is_new, longs_behind, longs_from, longs_in, made_short, is_taken, free_from, free_short, named, names_from, names_in}
use Rattle.vcm_short_names.specs.inner.Full.{is_full}
use Rattle.vcm_short_names.proofs.Bools.{both_are, first_of, second_of}

-- ---- lengths

same_length : (v w : List ℕ) → is_same v w ≡ true → length v ≡ length w
same_length v w e =
    let d = bytes_eq-Decides (map upper v) (map upper w) in
    sym (length-map v upper) ∙ ap length (d.0 e) ∙ length-map w upper

pub is_sixteen : (t : Bool) (long : List ℕ) (a b : ℕ) → 16 < length long → length (if t then take LONGEST_NAME long else take LONGEST_FRONT long ++ 95 ∷ a ∷ b ∷ []) ≡ 16
is_sixteen true long a b more = let h : 16 ≤ length long = omega arith in length-take-le 16 long h
is_sixteen false long a b more =
    let h : 13 ≤ length long = omega arith in
    length-append (take 13 long) (95 ∷ a ∷ b ∷ []) ∙ ap (λ n. n + 3) (length-take-le 13 long h)

-- ---- full pieces

-- whether a piece is this word
abbrev is_it : List ℕ → Piece → Bool
is_it w p = p.word && is_same p.bytes w

never : (word same : Bool) → (same ≡ true → ⊥) → (word && same) ≡ false
never true true h = absurd (h refl)
never true false h = refl
never false same h = refl

other_length : (p : Piece) (w : List ℕ) → length w ≡ 16 → is_full p ≡ false → is_it w p ≡ false
other_length p w sixteen e =
    never p.word (is_same p.bytes w) (λ same.
    let here : (length p.bytes == 16) ≡ true = rw (same_length p.bytes w same ∙ sixteen) refl in
    cc)

one_full : (w : List ℕ) (p : Piece) (ps : List Piece) (full : Bool) → (full ≡ false → is_it w p ≡ false)
    → list_any (is_it w) (filter is_full ps) ≡ list_any (is_it w) ps
    → list_any (is_it w) (if full then p ∷ filter is_full ps else filter is_full ps) ≡ (is_it w p || list_any (is_it w) ps)
one_full w p ps true other more = ap (λ b. is_it w p || b) more
one_full w p ps false other more = more ∙ sym (ap (λ b. b || list_any (is_it w) ps) (other refl))

full_are_enough : (w : List ℕ) (ps : List Piece) → length w ≡ 16 → list_any (is_it w) (filter is_full ps) ≡ list_any (is_it w) ps
full_are_enough w [] sixteen = refl
full_are_enough w (p ∷ ps) sixteen = one_full w p ps (is_full p) (other_length p w sixteen) (full_are_enough w ps sixteen)

taken_alike : (ps : List Piece) (names : List ShortName) (w : List ℕ) → length w ≡ 16 → is_taken (filter is_full ps) names w ≡ is_taken ps names w
taken_alike ps names w sixteen = ap (λ b. b || list_any (λ n. is_same n.short w) names) (full_are_enough w ps sixteen)

free_alike : (ps : List Piece) (names : List ShortName) (long : List ℕ) (most n : ℕ) → 16 < length long → free_from (filter is_full ps) names long most n ≡ free_from ps names long most n
unfolding free_from
free_alike ps names long zero n more = refl
free_alike ps names long (suc most) n more =
    ap (λ (t : Bool). if t then free_from (filter is_full ps) names long most (suc n) else Some (made_short n long))
    (taken_alike ps names (made_short n long) (is_sixteen (n == 0) long (48 + n / 10) (48 + n % 10) more))
    ∙ ap (λ (free : Option (List ℕ)). if is_taken ps names (made_short n long) then free else Some (made_short n long)) (free_alike ps names long most (suc n) more)

-- ---- long names are long

-- whether a name has more than sixteen bytes
abbrev is_more : LongName → Bool
is_more l = nat_lt LONGEST_NAME (length l.name)

pub more_of : (word more begins other : Bool) → (word && ((more && begins) && other)) ≡ true → more ≡ true
more_of word more begins other e = first_of more begins (first_of (more && begins) other (second_of word ((more && begins) && other) e))

one_long : (longs : List LongName) (p : Piece) (new : Bool) → (new ≡ true → nat_lt LONGEST_NAME (length p.bytes) ≡ true) → list_all is_more longs ≡ true
    → list_all is_more (if new then longs ++ record { name = map upper p.bytes; line = p.line } ∷ [] else longs) ≡ true
one_long longs p true more all =
    let here : nat_lt LONGEST_NAME (length (map upper p.bytes)) ≡ true = rw (length-map p.bytes upper) (more refl) in
    let last : List LongName = record { name = map upper p.bytes; line = p.line } ∷ [] in
    list_all-append is_more longs last ∙ both_are (list_all is_more longs) (list_all is_more last) all (both_are (nat_lt LONGEST_NAME (length (map upper p.bytes))) true here refl)
one_long longs p false more all = all

all_long : (longs : List LongName) (ps : List Piece) → list_all is_more longs ≡ true → list_all is_more (longs_from longs ps) ≡ true
all_long longs [] all = all
all_long longs (p ∷ ps) all =
    all_long (longs_behind longs p) ps
    (one_long longs p (is_new longs p) (more_of p.word (nat_lt LONGEST_NAME (length p.bytes)) _ _) all)

-- ---- names are alike

names_alike : (ps : List Piece) (names : List ShortName) (longs : List LongName) → list_all is_more longs ≡ true → names_from (filter is_full ps) names longs ≡ names_from ps names longs
names_alike ps names [] all = refl
names_alike ps names (l ∷ longs) all =
    let test : nat_lt 16 (length l.name) ≡ true = first_of (is_more l) (list_all is_more longs) all in
    let more : 16 < length l.name = grind (arith, common_steps) in
    ap (λ (free : Option (List ℕ)). names_from (filter is_full ps) (names ++ named l free) longs) (free_alike ps names l.name MOST_ALIKE 0 more)
    ∙ names_alike ps (names ++ named l (free_short ps names l.name)) longs (second_of (is_more l) (list_all is_more longs) all)

-- the names that pieces get by full ones alone are those that they get
pub full_names : (ps : List Piece) → names_from (filter is_full ps) [] (longs_in ps) ≡ names_in ps
full_names ps = names_alike ps [] (longs_in ps) (all_long [] ps refl)

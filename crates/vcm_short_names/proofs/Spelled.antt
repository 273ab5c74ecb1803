-- Short names are names of the language: sixteen upper-case letters, digits and underscores.
use Rattle.std.proofs.Common.{◌≡◌, ℕ, zero, suc, ◌+◌, ◌/◌, ◌%◌, ◌<◌, ◌≤◌, ◌==◌, Bool, true, false, not, ◌&&◌, ◌||◌, nat_lt, if◌then◌else◌, List, [], ◌∷◌, ◌++◌, length, map, take, drop, Option, Some, None, refl, sym, ap, ◌∙◌, arith}
use Rattle.std.specs.List.{list_all}
use Rattle.std.proofs.lemmas.Grind.{common_steps}
use Rattle.std.proofs.lemmas.List.{take-append-drop, length-map}
use Rattle.std.proofs.lemmas.List.Folds.{list_all-append}
use Rattle.vcm_num.specs.declared.limits.TheConstants.{LONGEST_NAME}
use Rattle.vcm_lines.specs.Bytes.{is_run, upper}
use Rattle.vcm_items.specs.NameBytes.{is_name_byte, is_name}
use Rattle.vcm_short_names.specs.declared.pieces.Piece.{Piece}
use Rattle.vcm_short_names.specs.declared.pieces.Stand.{Stand}
use Rattle.vcm_short_names.specs.declared.pieces.Stand.TheVariants.{Between, Word, Dollar, Quoted, Comment}
use Rattle.vcm_short_names.specs.declared.long.LongName.{LongName}
use Rattle.vcm_short_names.specs.declared.short.ShortName.{ShortName}
use Rattle.vcm_short_names.specs.declared.short.TheConstants.{LONGEST_FRONT, MOST_ALIKE}
use Rattle.vcm_short_names.specs.Pieces.{Reading, is_line_end, stand_outside, stand_behind, is_word, is_end, open_piece, closed, read_as, read_from, unread, pieces}
use Rattle.vcm_short_names.specs.Short.{is_new, longs_behind, longs_from, longs_in, made_short, is_taken, free_from, free_short, named, names_behind, names_from, short_names}
use Rattle.vcm_short_names.proofs.Bools.{both_are, first_of, second_of}
use Rattle.vcm_short_names.proofs.Full.{is_sixteen, more_of}

-- ---- words are runs

outside_run : (run quote dollar : Bool) → is_word (if run then Word else if quote then Quoted else if dollar then Dollar else Between) ≡ true → run ≡ true
outside_run true quote dollar e = refl
outside_run false true dollar e = e
outside_run false false true e = e
outside_run false false false e = e

dollar_run : (dollar : Bool) (s : Stand) → is_word (if dollar then Comment else s) ≡ true → is_word s ≡ true
dollar_run true s e = cc
dollar_run false s e = e

quoted_run : (end : Bool) (run : Bool) → is_word (if end then Between else Quoted) ≡ true → run ≡ true
quoted_run true run e = cc
quoted_run false run e = cc

comment_run : (end : Bool) (run : Bool) → is_word (if end then Between else Comment) ≡ true → run ≡ true
comment_run true run e = cc
comment_run false run e = cc

-- a byte behind which the reading stands in a word is a run's
word_is_run : (s : Stand) (b : ℕ) → is_word (stand_behind s b) ≡ true → is_run b ≡ true
word_is_run Between b e = outside_run (is_run b) (b == 39) (b == 36) e
word_is_run Word b e = outside_run (is_run b) (b == 39) (b == 36) e
word_is_run Dollar b e = outside_run (is_run b) (b == 39) (b == 36) (dollar_run (b == 36) (stand_outside b) e)
word_is_run Quoted b e = quoted_run (b == 39 || is_line_end b) (is_run b) e
word_is_run Comment b e = comment_run (is_line_end b) (is_run b) e

-- whether bytes are a run, if they are a word
abbrev is_spelled : Bool → List ℕ → Bool
is_spelled word bs = not word || list_all is_run bs

abbrev is_spelled_piece : Piece → Bool
is_spelled_piece p = is_spelled p.word p.bytes

record AreSpelled (r : Reading) : Type 0 where
  before : list_all is_spelled_piece r.pieces ≡ true
  last : is_spelled (is_word r.stand) r.bytes ≡ true

closed_spelled : (r : Reading) → AreSpelled r → list_all is_spelled_piece (closed r).pieces ≡ true
closed_spelled r a =
    list_all-append is_spelled_piece r.pieces (open_piece r ∷ [])
    ∙ both_are (list_all is_spelled_piece r.pieces) (list_all is_spelled_piece (open_piece r ∷ [])) a.before
    (both_are (is_spelled (is_word r.stand) r.bytes) true a.last refl)

added_before : (r : Reading) (end : Bool) → list_all is_spelled_piece r.pieces ≡ true → list_all is_spelled_piece (closed r).pieces ≡ true
    → list_all is_spelled_piece (if end then closed r else r).pieces ≡ true
added_before r true before closed = closed
added_before r false before closed = before

one_more_run : (bs : List ℕ) (b : ℕ) → list_all is_run bs ≡ true → is_run b ≡ true → list_all is_run (bs ++ b ∷ []) ≡ true
one_more_run bs b all here = list_all-append is_run bs (b ∷ []) ∙ both_are (list_all is_run bs) (list_all is_run (b ∷ [])) all (both_are (is_run b) true here refl)

added_last : (r : Reading) (b : ℕ) (was is : Bool) → is_spelled was r.bytes ≡ true → (is ≡ true → is_run b ≡ true)
    → is_spelled is ((if is_end was is then closed r else r).bytes ++ b ∷ []) ≡ true
added_last r b true true last run = one_more_run r.bytes b last (run refl)
added_last r b false true last run = both_are (is_run b) true (run refl) refl
added_last r b true false last run = refl
added_last r b false false last run = refl

read_spelled : (r : Reading) (bs : List ℕ) → AreSpelled r → list_all is_spelled_piece (closed (read_from r bs)).pieces ≡ true
read_spelled r [] a = closed_spelled r a
read_spelled r (b ∷ bs) a =
    let s = stand_behind r.stand b in
    let next : AreSpelled (read_as s r b) = record {
      before = added_before r (is_end (is_word r.stand) (is_word s)) a.before (closed_spelled r a);
      last = added_last r b (is_word r.stand) (is_word s) a.last (word_is_run r.stand b);
    } in
    read_spelled (read_as s r b) bs next

all_spelled : (text : List ℕ) → list_all is_spelled_piece (pieces text) ≡ true
all_spelled text = read_spelled unread text (record { before = refl; last = refl })

-- ---- long names are name bytes

raised_run : (b : ℕ) → is_run b ≡ true → is_name_byte (upper b) ≡ true
raised_run b e = grind arith

raised_all : (bs : List ℕ) → list_all is_run bs ≡ true → list_all is_name_byte (map upper bs) ≡ true
raised_all [] e = refl
raised_all (b ∷ bs) e =
    both_are (is_name_byte (upper b)) (list_all is_name_byte (map upper bs))
    (raised_run b (first_of (is_run b) (list_all is_run bs) e)) (raised_all bs (second_of (is_run b) (list_all is_run bs) e))

-- whether a name is long, and may be a name of the language but for that
abbrev is_good : LongName → Bool
is_good l = nat_lt LONGEST_NAME (length l.name) && list_all is_name_byte l.name

new_word : (word more begins other : Bool) → (word && ((more && begins) && other)) ≡ true → word ≡ true
new_word word more begins other e = first_of word ((more && begins) && other) e

spelled_word : (word : Bool) (bs : List ℕ) → is_spelled word bs ≡ true → word ≡ true → list_all is_run bs ≡ true
spelled_word true bs e w = e
spelled_word false bs e w = cc

one_good : (longs : List LongName) (p : Piece) (new : Bool) → (new ≡ true → p.word ≡ true) → (new ≡ true → nat_lt LONGEST_NAME (length p.bytes) ≡ true)
    → is_spelled_piece p ≡ true → list_all is_good longs ≡ true
    → list_all is_good (if new then longs ++ record { name = map upper p.bytes; line = p.line } ∷ [] else longs) ≡ true
one_good longs p true word more spelled all =
    let l : LongName = record { name = map upper p.bytes; line = p.line } in
    let long : nat_lt LONGEST_NAME (length (map upper p.bytes)) ≡ true = rw (length-map p.bytes upper) (more refl) in
    let bytes : list_all is_name_byte (map upper p.bytes) ≡ true = raised_all p.bytes (spelled_word p.word p.bytes spelled (word refl)) in
    let good : is_good l ≡ true = both_are (nat_lt LONGEST_NAME (length (map upper p.bytes))) (list_all is_name_byte (map upper p.bytes)) long bytes in
    list_all-append is_good longs (l ∷ [])
    ∙ both_are (list_all is_good longs) (list_all is_good (l ∷ [])) all (both_are (is_good l) true good refl)
one_good longs p false word more spelled all = all

all_good : (longs : List LongName) (ps : List Piece) → list_all is_spelled_piece ps ≡ true → list_all is_good longs ≡ true → list_all is_good (longs_from longs ps) ≡ true
all_good longs [] spelled all = all
all_good longs (p ∷ ps) spelled all =
    all_good (longs_behind longs p) ps (second_of (is_spelled_piece p) (list_all is_spelled_piece ps) spelled)
    (one_good longs p (is_new longs p) (new_word p.word (nat_lt LONGEST_NAME (length p.bytes)) _ _) (more_of p.word (nat_lt LONGEST_NAME (length p.bytes)) _ _)
    (first_of (is_spelled_piece p) (list_all is_spelled_piece ps) spelled) all)

-- ---- what is made short is a name

first_bytes : (n : ℕ) (bs : List ℕ) → list_all is_name_byte bs ≡ true → list_all is_name_byte (take n bs) ≡ true
first_bytes n bs e =
    first_of (list_all is_name_byte (take n bs)) (list_all is_name_byte (drop n bs))
    (sym (list_all-append is_name_byte (take n bs) (drop n bs)) ∙ ap (list_all is_name_byte) (take-append-drop n bs) ∙ e)

digit_byte : (d : ℕ) → d < 10 → is_name_byte (48 + d) ≡ true
digit_byte d few = grind arith

short_bytes : (t : Bool) (long : List ℕ) (a b : ℕ) → a < 10 → b < 10 → list_all is_name_byte long ≡ true
    → list_all is_name_byte (if t then take LONGEST_NAME long else take LONGEST_FRONT long ++ 95 ∷ (48 + a) ∷ (48 + b) ∷ []) ≡ true
short_bytes true long a b few less all = first_bytes 16 long all
short_bytes false long a b few less all =
    list_all-append is_name_byte (take 13 long) (95 ∷ (48 + a) ∷ (48 + b) ∷ [])
    ∙ both_are (list_all is_name_byte (take 13 long)) (list_all is_name_byte (95 ∷ (48 + a) ∷ (48 + b) ∷ [])) (first_bytes 13 long all)
    (both_are (is_name_byte (48 + a)) (is_name_byte (48 + b) && true) (digit_byte a few) (both_are (is_name_byte (48 + b)) true (digit_byte b less) refl))

of_sixteen : (bs : List ℕ) → length bs ≡ 16 → list_all is_name_byte bs ≡ true → is_name bs ≡ true
of_sixteen bs e all = rw (e, all) refl

made_name : (n : ℕ) (long : List ℕ) → n < 100 → 16 < length long → list_all is_name_byte long ≡ true → is_name (made_short n long) ≡ true
made_name n long few more all =
    let tens : n / 10 < 10 = omega arith in
    let ones : n % 10 < 10 = omega arith in
    of_sixteen (made_short n long) (is_sixteen (n == 0) long (48 + n / 10) (48 + n % 10) more) (short_bytes (n == 0) long (n / 10) (n % 10) tens ones all)

found_name : (t : Bool) (w s : List ℕ) (next : Option (List ℕ)) → is_name w ≡ true → (next ≡ Some s → is_name s ≡ true) → (if t then next else Some w) ≡ Some s → is_name s ≡ true
found_name true w s next name behind e = behind e
found_name false w s next name behind e = let same : w ≡ s = cc in sym (ap is_name same) ∙ name

free_name : (ps : List Piece) (names : List ShortName) (long : List ℕ) (most n : ℕ) (s : List ℕ) → n + most ≤ 100 → 16 < length long → list_all is_name_byte long ≡ true
    → free_from ps names long most n ≡ Some s → is_name s ≡ true
unfolding free_from
free_name ps names long zero n s within more all e = cc
free_name ps names long (suc most) n s within more all e =
    let few : n < 100 = omega arith in
    let next : suc n + most ≤ 100 = omega arith in
    found_name (is_taken ps names (made_short n long)) (made_short n long) s (free_from ps names long most (suc n)) (made_name n long few more all)
    (free_name ps names long most (suc n) s next more all) e

-- ---- all names

named_so : (l : LongName) (free : Option (List ℕ)) → ((s : List ℕ) → free ≡ Some s → is_name s ≡ true) → list_all (λ n. is_name n.short) (named l free) ≡ true
named_so l None is = refl
named_so l (Some s) is = both_are (is_name s) true (is s refl) refl

all_names : (ps : List Piece) (names : List ShortName) (longs : List LongName) → list_all is_good longs ≡ true → list_all (λ n. is_name n.short) names ≡ true
    → list_all (λ n. is_name n.short) (names_from ps names longs) ≡ true
all_names ps names [] good all = all
all_names ps names (l ∷ longs) good all =
    let here : is_good l ≡ true = first_of (is_good l) (list_all is_good longs) good in
    let test : nat_lt 16 (length l.name) ≡ true = first_of (nat_lt 16 (length l.name)) (list_all is_name_byte l.name) here in
    let bytes : list_all is_name_byte l.name ≡ true = second_of (nat_lt 16 (length l.name)) (list_all is_name_byte l.name) here in
    let more : 16 < length l.name = grind (arith, common_steps) in
    let within : 0 + 100 ≤ 100 = omega arith in
    let new = named l (free_short ps names l.name) in
    all_names ps (names_behind ps names l) longs (second_of (is_good l) (list_all is_good longs) good)
    (list_all-append (λ n. is_name n.short) names new
    ∙ both_are (list_all (λ n. is_name n.short) names) (list_all (λ n. is_name n.short) new) all
    (named_so l (free_short ps names l.name) (λ s e. free_name ps names l.name MOST_ALIKE 0 s within more bytes e)))

pub names_are_names : (text : List ℕ) → list_all (λ n. is_name n.short) (short_names text) ≡ true
names_are_names text = all_names (pieces text) [] (longs_in (pieces text)) (all_good [] (pieces text) (all_spelled text) refl) refl

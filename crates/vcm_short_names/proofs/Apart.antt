-- Short names are apart from each other, and from the words of the text.
use Rattle.std.proofs.Common.{◌≡◌, ℕ, zero, suc, Bool, true, false, not, ◌&&◌, ◌||◌, if◌then◌else◌, List, [], ◌∷◌, ◌++◌, map, Option, Some, None, refl, sym, ap, ◌∙◌}
use Rattle.std.specs.List.{list_any, list_all, filter}
use Rattle.std.proofs.lemmas.List.{append-nil}
use Rattle.std.proofs.lemmas.List.Folds.{list_any-append, list_all-append}
use Rattle.vcm_short_names.specs.declared.pieces.Piece.{Piece}
use Rattle.vcm_short_names.specs.declared.long.LongName.{LongName}
use Rattle.vcm_short_names.specs.declared.short.ShortName.{ShortName}
use Rattle.vcm_short_names.specs.declared.short.TheConstants.{MOST_ALIKE}
use Rattle.vcm_short_names.specs.Pieces.{pieces, words}
use Rattle.vcm_short_names.specs.Short.{is_same, made_short, is_taken, free_from, free_short, named, names_behind, names_from, longs_in, short_names}
use Rattle.vcm_short_names.specs.Laws.{are_apart, is_no_word}
use Rattle.vcm_short_names.proofs.Bools.{neither_first, neither_second, both_are, first_of, second_of}
use Rattle.vcm_short_names.proofs.Whole.{asked_in_pieces}

-- ---- what isn't taken

chosen : (t : Bool) (ps : List Piece) (names : List ShortName) (w s : List ℕ) (next : Option (List ℕ)) → is_taken ps names w ≡ t
    → (next ≡ Some s → is_taken ps names s ≡ false) → (if t then next else Some w) ≡ Some s → is_taken ps names s ≡ false
chosen true ps names w s next is behind e = behind e
chosen false ps names w s next is behind e = let same : w ≡ s = cc in sym (ap (is_taken ps names) same) ∙ is

-- the short name that is found isn't taken
free_is_free : (ps : List Piece) (names : List ShortName) (long : List ℕ) (most n : ℕ) (s : List ℕ) → free_from ps names long most n ≡ Some s → is_taken ps names s ≡ false
unfolding free_from
free_is_free ps names long zero n s e = cc
free_is_free ps names long (suc most) n s e =
    chosen (is_taken ps names (made_short n long)) ps names (made_short n long) s (free_from ps names long most (suc n)) refl (free_is_free ps names long most (suc n) s) e

-- ---- one more name

still_not : (a b : Bool) → not a ≡ true → b ≡ false → not (a || (b || false)) ≡ true
still_not true b ea eb = ea
still_not false b ea eb = rw eb refl

-- names that are apart, and one that is apart from each of them
one_more : (names : List ShortName) (n : ShortName) → are_apart names ≡ true → list_any (λ m. is_same m.short n.short) names ≡ false → are_apart (names ++ n ∷ []) ≡ true
one_more [] n apart other = refl
one_more (m ∷ names) n apart other =
    let here = list_any (λ k. is_same m.short k.short) names in
    let same = is_same m.short n.short in
    let more = list_any (λ k. is_same k.short n.short) names in
    both_are (not (list_any (λ k. is_same m.short k.short) (names ++ n ∷ []))) (are_apart (names ++ n ∷ []))
    (ap not (list_any-append (λ k. is_same m.short k.short) names (n ∷ []))
    ∙ still_not here same (first_of (not here) (are_apart names) apart) (neither_first same more other))
    (one_more names n (second_of (not here) (are_apart names) apart) (neither_second same more other))

-- ---- all names

-- names that are apart, and no words of these pieces
record Apart (ws : List (List ℕ)) (names : List ShortName) : Type 0 where
  apart : are_apart names ≡ true
  no_words : list_all (is_no_word ws) names ≡ true

-- the words of pieces
abbrev words_in : List Piece → List (List ℕ)
words_in ps = map (λ p. p.bytes) (filter (λ p. p.word) ps)

stays_so : (a : Bool) → a ≡ false → (not a && true) ≡ true
stays_so a e = rw e refl

name_added : (ps : List Piece) (names : List ShortName) (l : LongName) (free : Option (List ℕ))
    → ((s : List ℕ) → free ≡ Some s → is_taken ps names s ≡ false) → Apart (words_in ps) names → Apart (words_in ps) (names ++ named l free)
name_added ps names l None is a = rw append-nil a
name_added ps names l (Some s) is a =
    let n : ShortName = record { long = l.name; short = s; line = l.line } in
    let among = list_any (λ p. p.word && is_same p.bytes s) ps in
    let given = list_any (λ m. is_same m.short s) names in
    record {
      apart = one_more names n a.apart (neither_second among given (is s refl));
      no_words =
          list_all-append (is_no_word (words_in ps)) names (n ∷ [])
          ∙ both_are (list_all (is_no_word (words_in ps)) names) (list_all (is_no_word (words_in ps)) (n ∷ [])) a.no_words
          (stays_so (list_any (λ w. is_same w s) (words_in ps)) (asked_in_pieces (λ w. is_same w s) ps ∙ neither_first among given (is s refl)));
    }

all_added : (ps : List Piece) (names : List ShortName) (longs : List LongName) → Apart (words_in ps) names → Apart (words_in ps) (names_from ps names longs)
all_added ps names [] a = a
all_added ps names (l ∷ longs) a =
    all_added ps (names_behind ps names l) longs (name_added ps names l (free_short ps names l.name) (free_is_free ps names l.name MOST_ALIKE 0) a)

all_apart : (text : List ℕ) → Apart (words text) (short_names text)
all_apart text = all_added (pieces text) [] (longs_in (pieces text)) (record { apart = refl; no_words = refl })

pub names_are_apart : (text : List ℕ) → are_apart (short_names text) ≡ true
names_are_apart text = (all_apart text).apart

pub names_are_no_words : (text : List ℕ) → list_all (is_no_word (words text)) (short_names text) ≡ true
names_are_no_words text = (all_apart text).no_words

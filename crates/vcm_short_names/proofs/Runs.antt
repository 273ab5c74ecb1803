-- A text without a word of more than sixteen bytes has no long one.
use Rattle.std.proofs.Common.{◌≡◌, ℕ, ◌+◌, Bool, true, false, ◌&&◌, ◌||◌, nat_lt, if◌then◌else◌, List, [], ◌∷◌, ◌++◌, length, refl, sym, ap, ◌∙◌, length-append}
use Rattle.std.specs.List.{list_any}
use Rattle.std.proofs.lemmas.List.Folds.{list_any-append}
use Rattle.vcm_num.specs.declared.limits.TheConstants.{LONGEST_NAME}
use Rattle.vcm_short_names.specs.declared.pieces.Piece.{Piece}
use Rattle.vcm_short_names.specs.Pieces.{Reading, is_word, is_end, open_piece, closed, read_as, stand_behind, read_from, unread, pieces, words}
use Rattle.vcm_short_names.specs.Short.{begins_name, is_long, short_names, shortened}
use Rattle.vcm_short_names.specs.inner.Runs.{count_behind, has_more_from, has_more}
use Rattle.vcm_short_names.proofs.Bools.{neither_first, neither_second}
use Rattle.vcm_short_names.proofs.Whole.{asked_in_pieces, no_names, stays}

-- whether a piece is a long word
abbrev is_long_word : Piece → Bool
is_long_word p = p.word && is_long p.bytes

-- how many bytes an open word has
abbrev open_count : Bool → List ℕ → ℕ
open_count word bs = if word then length bs else 0

-- no word was long, and the open one has so many bytes
record AreShort (r : Reading) (count : ℕ) : Type 0 where
  before : list_any is_long_word r.pieces ≡ false
  count_is : count ≡ open_count (is_word r.stand) r.bytes
  few : nat_lt LONGEST_NAME count ≡ false

not_long : (word : Bool) (bs : List ℕ) → nat_lt LONGEST_NAME (open_count word bs) ≡ false → (word && (nat_lt LONGEST_NAME (length bs) && begins_name bs)) ≡ false
not_long true bs e = rw e refl
not_long false bs e = refl

none_of : (a b : Bool) → a ≡ false → b ≡ false → (a || (b || false)) ≡ false
none_of a b ea eb = rw (ea, eb) refl

closed_short : (r : Reading) (count : ℕ) → AreShort r count → list_any is_long_word (closed r).pieces ≡ false
closed_short r count a =
    list_any-append is_long_word r.pieces (open_piece r ∷ [])
    ∙ none_of (list_any is_long_word r.pieces) (is_long_word (open_piece r)) a.before
    (not_long (is_word r.stand) r.bytes (ap (nat_lt LONGEST_NAME) (sym a.count_is) ∙ a.few))

-- one more byte, by whether the bytes before it and the byte are a word's
added_short : (r : Reading) (count : ℕ) (b : ℕ) (was is : Bool) → list_any is_long_word r.pieces ≡ false → list_any is_long_word (closed r).pieces ≡ false
    → list_any is_long_word (if is_end was is then closed r else r).pieces ≡ false
added_short r count b true true before closed = before
added_short r count b true false before closed = closed
added_short r count b false true before closed = closed
added_short r count b false false before closed = before

added_count : (r : Reading) (count : ℕ) (b : ℕ) (was is : Bool) → count ≡ open_count was r.bytes
    → (if is then count + 1 else 0) ≡ open_count is ((if is_end was is then closed r else r).bytes ++ b ∷ [])
added_count r count b true true e = ap (λ n. n + 1) e ∙ sym (length-append r.bytes (b ∷ []))
added_count r count b true false e = refl
added_count r count b false true e = ap (λ n. n + 1) e
added_count r count b false false e = refl

read_short : (r : Reading) (count : ℕ) (bs : List ℕ) → AreShort r count → has_more_from r.stand count bs ≡ false → list_any is_long_word (closed (read_from r bs)).pieces ≡ false
read_short r count [] a e = closed_short r count a
read_short r count (b ∷ bs) a e =
    let s = stand_behind r.stand b in
    let more = nat_lt LONGEST_NAME (count_behind s count) in
    let rest = has_more_from s (count_behind s count) bs in
    let next : AreShort (read_as s r b) (count_behind s count) = record {
      before = added_short r count b (is_word r.stand) (is_word s) a.before (closed_short r count a);
      count_is = added_count r count b (is_word r.stand) (is_word s) a.count_is;
      few = neither_first more rest e;
    } in
    read_short (read_as s r b) (count_behind s count) bs next (neither_second more rest e)

none_long : (text : List ℕ) → has_more text ≡ false → list_any is_long (words text) ≡ false
none_long text e = asked_in_pieces is_long (pieces text) ∙ read_short unread 0 text (record { before = refl; count_is = refl; few = refl }) e

pub no_names_there : (text : List ℕ) → has_more text ≡ false → short_names text ≡ []
no_names_there text e = no_names text (none_long text e)

pub stays_there : (text : List ℕ) → has_more text ≡ false → shortened text ≡ text
stays_there text e = stays text (none_long text e)

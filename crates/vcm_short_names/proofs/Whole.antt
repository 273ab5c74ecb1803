-- The pieces of a text are the text, and a text without a long word stays.
use Rattle.std.proofs.Common.{◌≡◌, ℕ, Bool, true, false, ◌&&◌, ◌||◌, if◌then◌else◌, List, [], ◌∷◌, ◌++◌, map, refl, sym, ap, ◌∙◌, append_assoc}
use Rattle.std.specs.List.{list_any, filter, flat_map}
use Rattle.std.proofs.lemmas.List.{append-nil}
use Rattle.std.proofs.lemmas.List.Concat.{flat_map-append}
use Rattle.vcm_short_names.specs.declared.pieces.Piece.{Piece}
use Rattle.vcm_short_names.specs.declared.pieces.Stand.{Stand}
use Rattle.vcm_short_names.specs.Pieces.{Reading, is_word, is_end, open_piece, closed, added, read_as, stand_behind, read_from, unread, pieces, words}
use Rattle.vcm_short_names.proofs.Bools.{neither_first, neither_second}
use Rattle.vcm_short_names.specs.Short.{is_long, longs_behind, longs_from, names_from, text_out, short_names, shortened}

-- ---- all bytes of a reading

-- the bytes of pieces
abbrev pub bytes_in : List Piece → List ℕ
bytes_in ps = flat_map (λ p. p.bytes) ps

-- all bytes that were read
abbrev all_of : Reading → List ℕ
all_of r = bytes_in r.pieces ++ r.bytes

closed_has_all : (r : Reading) → bytes_in (closed r).pieces ≡ all_of r
closed_has_all r = flat_map-append (λ p. p.bytes) r.pieces (open_piece r ∷ []) ∙ ap (λ bs. bytes_in r.pieces ++ bs) (append-nil r.bytes)

closed_is_all : (r : Reading) → all_of (closed r) ≡ all_of r
closed_is_all r = append-nil (bytes_in (closed r).pieces) ∙ closed_has_all r

added_is_all : (s : Stand) (r : Reading) (b : ℕ) → all_of (added s r b) ≡ all_of r ++ b ∷ []
added_is_all s r b = sym (append_assoc (bytes_in r.pieces) r.bytes (b ∷ []))

step_is_all : (end : Bool) (s : Stand) (r : Reading) (b : ℕ) → all_of (added s (if end then closed r else r) b) ≡ all_of r ++ b ∷ []
step_is_all true s r b = added_is_all s (closed r) b ∙ ap (λ bs. bs ++ b ∷ []) (closed_is_all r)
step_is_all false s r b = added_is_all s r b

read_is_all : (r : Reading) (bs : List ℕ) → all_of (read_from r bs) ≡ all_of r ++ bs
read_is_all r [] = sym (append-nil (all_of r))
read_is_all r (b ∷ bs) =
    let s = stand_behind r.stand b in
    read_is_all (read_as s r b) bs
    ∙ ap (λ all. all ++ bs) (step_is_all (is_end (is_word r.stand) (is_word s)) s r b)
    ∙ append_assoc (all_of r) (b ∷ []) bs

pub pieces_are_whole : (text : List ℕ) → bytes_in (pieces text) ≡ text
pieces_are_whole text = closed_has_all (read_from unread text) ∙ read_is_all unread text

-- ---- words, asked piece by piece

asked_one : (word : Bool) (test : List ℕ → Bool) (bs : List ℕ) (more : List (List ℕ)) → list_any test (if word then bs ∷ more else more) ≡ ((word && test bs) || list_any test more)
asked_one true test bs more = refl
asked_one false test bs more = refl

asked_first : (test : List ℕ → Bool) (p : Piece) (ps : List Piece) (word : Bool)
    → list_any test (map (λ q. q.bytes) (if word then p ∷ filter (λ q. q.word) ps else filter (λ q. q.word) ps))
    ≡ ((word && test p.bytes) || list_any test (map (λ q. q.bytes) (filter (λ q. q.word) ps)))
asked_first test p ps true = refl
asked_first test p ps false = refl

-- a test of words is a test of pieces
pub asked_in_pieces : (test : List ℕ → Bool) (ps : List Piece)
    → list_any test (map (λ p. p.bytes) (filter (λ p. p.word) ps)) ≡ list_any (λ p. p.word && test p.bytes) ps
asked_in_pieces test [] = refl
asked_in_pieces test (p ∷ ps) = asked_first test p ps p.word ∙ ap (λ b. (p.word && test p.bytes) || b) (asked_in_pieces test ps)

-- ---- no long words

not_new : (word long : Bool) → (word && long) ≡ false → (word && (long && true)) ≡ false
not_new true true e = e
not_new true false e = refl
not_new false long e = refl

none_behind : (p : Piece) → (p.word && is_long p.bytes) ≡ false → longs_behind [] p ≡ []
none_behind p e = rw (not_new p.word (is_long p.bytes) e) refl

none_from : (ps : List Piece) → list_any (λ p. p.word && is_long p.bytes) ps ≡ false → longs_from [] ps ≡ []
none_from [] e = refl
none_from (p ∷ ps) e =
    let a = p.word && is_long p.bytes in
    let more = list_any (λ q. q.word && is_long q.bytes) ps in
    ap (λ longs. longs_from longs ps) (none_behind p (neither_first a more e)) ∙ none_from ps (neither_second a more e)

pub no_names : (text : List ℕ) → list_any is_long (words text) ≡ false → short_names text ≡ []
no_names text e = ap (names_from (pieces text) []) (none_from (pieces text) (sym (asked_in_pieces is_long (pieces text)) ∙ e))

either : (b : Bool) (bs : List ℕ) → (if b then bs else bs) ≡ bs
either true bs = refl
either false bs = refl

kept_out : (ps : List Piece) → text_out [] ps ≡ bytes_in ps
kept_out [] = refl
kept_out (p ∷ ps) = rw (either (p.word && is_long p.bytes) p.bytes, kept_out ps) refl

pub stays : (text : List ℕ) → list_any is_long (words text) ≡ false → shortened text ≡ text
stays text e = ap (λ names. text_out names (pieces text)) (no_names text e) ∙ kept_out (pieces text) ∙ pieces_are_whole text

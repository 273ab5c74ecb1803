-- A text stays where none of its words is a short name.
use Rattle.std.proofs.Common.{◌≡◌, ℕ, Bool, true, false, ◌&&◌, if◌then◌else◌, List, [], ◌∷◌, ◌++◌, refl, sym, ap, ◌∙◌}
use Rattle.std.specs.List.{list_any}
use Rattle.vcm_short_names.specs.declared.pieces.Piece.{Piece}
use Rattle.vcm_short_names.specs.declared.short.ShortName.{ShortName}
use Rattle.vcm_short_names.specs.Pieces.{pieces}
use Rattle.vcm_short_names.specs.Short.{is_same}
use Rattle.vcm_short_names.specs.Lengthened.{long_out, long_pieces, is_short}
use Rattle.vcm_short_names.specs.Laws.{OtherWordsStay}
use Rattle.vcm_short_names.proofs.Bools.{neither_first, neither_second}
use Rattle.vcm_short_names.proofs.Whole.{bytes_in, pieces_are_whole, asked_in_pieces}

word_stays : (names : List ShortName) (w : List ℕ) → is_short names w ≡ false → long_out names w ≡ w
word_stays [] w e = refl
word_stays (n ∷ names) w e =
    ap (λ b. if b then n.long else long_out names w) (neither_first (is_same n.short w) (is_short names w) e)
    ∙ word_stays names w (neither_second (is_same n.short w) (is_short names w) e)

piece_stays : (names : List ShortName) (bytes : List ℕ) (word : Bool) → (word && is_short names bytes) ≡ false → (if word then long_out names bytes else bytes) ≡ bytes
piece_stays names bytes true e = word_stays names bytes e
piece_stays names bytes false e = refl

pieces_stay : (names : List ShortName) (ps : List Piece) → list_any (λ p. p.word && is_short names p.bytes) ps ≡ false → long_pieces names ps ≡ bytes_in ps
pieces_stay names [] e = refl
pieces_stay names (p ∷ ps) e =
    let one = p.word && is_short names p.bytes in
    let more = list_any (λ q. q.word && is_short names q.bytes) ps in
    ap (λ bs. bs ++ long_pieces names ps) (piece_stays names p.bytes p.word (neither_first one more e))
    ∙ ap (λ bs. p.bytes ++ bs) (pieces_stay names ps (neither_second one more e))

pub other_words_stay : OtherWordsStay
other_words_stay names text e = pieces_stay names (pieces text) (sym (asked_in_pieces (is_short names) (pieces text)) ∙ e) ∙ pieces_are_whole text

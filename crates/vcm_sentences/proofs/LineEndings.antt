-- The lines of a text as they stand in it, and as they are read.
use Rattle.std.proofs.Common.{◌≡◌, ℕ, suc, ◌+◌, ◌<◌, ◌≤◌, Bool, true, false, cond, eqb, List, [], ◌∷◌, ◌++◌, length, map, drop, nat_eq, refl, sym, ap, subst, ◌∙◌, arith}
use Rattle.std.specs.Prelude.{◌==◌, if◌then◌else◌}
use Rattle.std.specs.List.{flat_map, onto_first, slice_split, starts_with}
use Rattle.std.specs.Str.Lines.{lines, lines_of_parts, strip_carriage_return}
use Rattle.std.proofs.lemmas.Bool.{and_parts, eqb-true}
use Rattle.vcm_num.specs.Lines.{whole_lines}
use Rattle.vcm_num.proofs.LineFeeds.{ends_line}
use Rattle.vcm_num.proofs.WholeLines.{whole_feed, whole_other, whole_nil, AreFeedless}
use Rattle.vcm_lines.proofs.SegmentLemmas.{neq-eqb, segments_none}
use Rattle.vcm_lines.specs.Statements.{kept_lines_from, kept_lines, lines_of}
use Rattle.vcm_sentences.specs.Stretches.{first_of, said_at, text_line, next, text_lines_from, text_lines}
use Rattle.vcm_sentences.specs.Laws.{kept_in}
use Rattle.vcm_sentences.proofs.StretchLaws.{flat_whole}

-- ---- the parts between line feeds

-- the lines as they stand, of these parts
abbrev whole_of : List (List ℕ) → List (List ℕ)
whole_of [] = []
whole_of (p ∷ []) = if length p == 0 then [] else p ∷ []
whole_of (p ∷ q ∷ ps) = (p ++ 10 ∷ []) ∷ whole_of (q ∷ ps)

cut_some : (t : Bool) (b : ℕ) (parts : List (List ℕ)) → (p : List ℕ) × (ps : List (List ℕ)) × (cond t ([] ∷ parts) (onto_first b parts) ≡ p ∷ ps)
cut_some true b parts = ([], parts, refl)
cut_some false b [] = (b ∷ [], [], refl)
cut_some false b (p ∷ ps) = (b ∷ p, ps, refl)

parts_some : (bs : List ℕ) → (p : List ℕ) × (ps : List (List ℕ)) × (slice_split ends_line bs ≡ p ∷ ps)
parts_some [] = ([], [], refl)
parts_some (b ∷ bs) = cut_some (ends_line b) b (slice_split ends_line bs)

one_part : (b : ℕ) (bs : List ℕ) → whole_of ((b ∷ bs) ∷ []) ≡ (b ∷ bs) ∷ []
one_part b bs = rw (neq-eqb (suc (length bs)) 0 (λ e. omega arith)) refl

whole_ends : (p : List ℕ) (ps : List (List ℕ)) (parts : List (List ℕ)) → parts ≡ p ∷ ps → whole_of ([] ∷ parts) ≡ (10 ∷ []) ∷ whole_of parts
whole_ends p ps parts e = rw e refl

whole_onto : (b : ℕ) (p : List ℕ) (ps : List (List ℕ)) → whole_of (onto_first b (p ∷ ps)) ≡ onto_first b (whole_of (p ∷ ps))
whole_onto b [] [] = one_part b []
whole_onto b (c ∷ p) [] = one_part b (c ∷ p) ∙ ap (onto_first b) (sym (one_part c p))
whole_onto b p (q ∷ ps) = refl

whole_byte : (t : Bool) (b : ℕ) (bs : List ℕ) → eqb b 10 ≡ t → whole_lines bs ≡ whole_of (slice_split ends_line bs)
    → whole_lines (b ∷ bs) ≡ whole_of (cond t ([] ∷ slice_split ends_line bs) (onto_first b (slice_split ends_line bs)))
whole_byte true b bs e h = let q = parts_some bs in
    whole_feed b bs e ∙ ap (λ (d : ℕ). (d ∷ []) ∷ whole_lines bs) (eqb-true b 10 e) ∙ ap (λ (ls : List (List ℕ)). (10 ∷ []) ∷ ls) h ∙ sym (whole_ends q.0 q.1 _ q.2)
whole_byte false b bs e h = let q = parts_some bs in
    whole_other b bs e ∙ ap (onto_first b) (h ∙ ap whole_of q.2) ∙ sym (ap (λ (ps : List (List ℕ)). whole_of (onto_first b ps)) q.2 ∙ whole_onto b q.0 q.1)

whole_split : (text : List ℕ) → whole_lines text ≡ whole_of (slice_split ends_line text)
whole_split [] = whole_nil
whole_split (b ∷ bs) = whole_byte (eqb b 10) b bs refl (whole_split bs)

-- parts have no line feeds
abbrev AreAllFeedless : List (List ℕ) → Type 0
AreAllFeedless [] = Unit {0}
AreAllFeedless (p ∷ ps) = AreFeedless p × AreAllFeedless ps

onto_feedless : (b : ℕ) (ps : List (List ℕ)) → eqb b 10 ≡ false → AreAllFeedless ps → AreAllFeedless (onto_first b ps)
onto_feedless b [] e h = ((e, tt), tt)
onto_feedless b (p ∷ ps) e h = ((e, h.0), h.1)

feedless_byte : (t : Bool) (b : ℕ) (ps : List (List ℕ)) → eqb b 10 ≡ t → AreAllFeedless ps → AreAllFeedless (cond t ([] ∷ ps) (onto_first b ps))
feedless_byte true b ps e h = (tt, h)
feedless_byte false b ps e h = onto_feedless b ps e h

split_feedless : (text : List ℕ) → AreAllFeedless (slice_split ends_line text)
split_feedless [] = (tt, tt)
split_feedless (b ∷ bs) = feedless_byte (eqb b 10) b (slice_split ends_line bs) refl (split_feedless bs)

alone_split : (p : List ℕ) → AreFeedless p → slice_split ends_line p ≡ p ∷ []
alone_split [] h = refl
alone_split (b ∷ bs) h = rw (h.0, alone_split bs h.1) refl

feed_split : (p : List ℕ) → AreFeedless p → slice_split ends_line (p ++ 10 ∷ []) ≡ p ∷ [] ∷ []
feed_split [] h = refl
feed_split (b ∷ bs) h = rw (h.0, feed_split bs h.1) refl

-- what a line says, without its ending
abbrev bare : List ℕ → List ℕ
bare raw = first_of (lines raw)

one_line : (b : ℕ) (bs : List ℕ) → lines_of_parts ((b ∷ bs) ∷ []) ≡ (b ∷ bs) ∷ []
one_line b bs = rw (neq-eqb (suc (length bs)) 0 (λ e. omega arith)) refl

bare_last : (b : ℕ) (bs : List ℕ) → AreFeedless (b ∷ bs) → bare (b ∷ bs) ≡ b ∷ bs
bare_last b bs h = ap first_of (ap lines_of_parts (alone_split (b ∷ bs) h) ∙ one_line b bs)

bare_fed : (p : List ℕ) → AreFeedless p → bare (p ++ 10 ∷ []) ≡ strip_carriage_return p
bare_fed p h = ap first_of (ap lines_of_parts (feed_split p h))

lines_are_bare : (ps : List (List ℕ)) → AreAllFeedless ps → lines_of_parts ps ≡ map bare (whole_of ps)
lines_are_bare [] h = refl
lines_are_bare ([] ∷ []) h = refl
lines_are_bare ((b ∷ bs) ∷ []) h = one_line b bs ∙ ap (λ (l : List ℕ). l ∷ []) (sym (bare_last b bs h.0)) ∙ ap (map bare) (sym (one_part b bs))
lines_are_bare (p ∷ q ∷ ps) h = ap (λ (ls : List (List ℕ)). strip_carriage_return p ∷ ls) (lines_are_bare (q ∷ ps) h.1)
    ∙ ap (λ (l : List ℕ). l ∷ map bare (whole_of (q ∷ ps))) (sym (bare_fed p h.0))

pub lines_bare : (text : List ℕ) → lines text ≡ map bare (whole_lines text)
lines_bare text = lines_are_bare (slice_split ends_line text) (split_feedless text) ∙ ap (map bare) (sym (whole_split text))

-- ---- the kept lines

next_is : (n : ℕ) → n < 4294967295 → next n ≡ n + 1
next_is n lt = omega arith

said_is : (n : ℕ) (raw : List ℕ) → 1 < n → said_at n raw ≡ bare raw
said_is n raw lt = rw (neq-eqb n 1 (λ e. omega arith)) refl

kept_from : (n : ℕ) (ws : List (List ℕ)) → 1 < n → n + length ws ≤ 4294967295 → kept_lines_from n (map bare ws) ≡ kept_in (text_lines_from n ws)
kept_from n [] lt within = refl
kept_from n (w ∷ ws) lt within =
    let rest : kept_lines_from (n + 1) (map bare ws) ≡ kept_in (text_lines_from (n + 1) ws) = kept_from (n + 1) ws (omega arith) (omega arith) in
    rw (said_is n w lt, next_is n (omega arith), rest) refl

kept_first : (raw w : List ℕ) (ws : List (List ℕ)) → said_at 1 raw ≡ bare w → suc (length ws) < 4294967295
    → kept_lines_from 1 (bare w ∷ map bare ws) ≡ kept_in (text_line 1 raw ∷ text_lines_from (next 1) ws)
kept_first raw w ws e within =
    let rest : kept_lines_from 2 (map bare ws) ≡ kept_in (text_lines_from 2 ws) = kept_from 2 ws (omega arith) (omega arith) in
    rw (e, rest) refl

-- ---- the byte order mark

abbrev the_mark : List ℕ
the_mark = 239 ∷ 187 ∷ 191 ∷ []

mark_is : (text : List ℕ) → starts_with nat_eq text the_mark ≡ true → text ≡ 239 ∷ 187 ∷ 191 ∷ drop 3 text
mark_is [] e = absurd cc
mark_is (a ∷ []) e = let p = and_parts (eqb 239 a) _ e in absurd cc
mark_is (a ∷ b ∷ []) e = let p = and_parts (eqb 239 a) _ e in let q = and_parts (eqb 187 b) _ p.1 in absurd cc
mark_is (a ∷ b ∷ c ∷ bs) e =
    let p = and_parts (eqb 239 a) _ e in
    let q = and_parts (eqb 187 b) _ p.1 in
    let r = and_parts (eqb 191 c) _ q.1 in
    rw (← eqb-true 239 a p.0, ← eqb-true 187 b q.0, ← eqb-true 191 c r.0) refl

whole_marked : (bs : List ℕ) → whole_lines (239 ∷ 187 ∷ 191 ∷ bs) ≡ onto_first 239 (onto_first 187 (onto_first 191 (whole_lines bs)))
whole_marked bs = whole_other 239 (187 ∷ 191 ∷ bs) refl ∙ ap (onto_first 239) (whole_other 187 (191 ∷ bs) refl ∙ ap (onto_first 187) (whole_other 191 bs refl))

mark_alone : kept_in (text_lines_from 1 (the_mark ∷ [])) ≡ []
mark_alone = rw segments_none refl

kept_marked : (bs : List ℕ) (ws : List (List ℕ)) → whole_lines bs ≡ ws → length ws < 4294967295
    → kept_lines_from 1 (map bare ws) ≡ kept_in (text_lines_from 1 (onto_first 239 (onto_first 187 (onto_first 191 ws))))
kept_marked bs [] e within = sym mark_alone
kept_marked bs (w ∷ ws) e within = kept_first (239 ∷ 187 ∷ 191 ∷ w) w ws refl within

-- ---- the first line

marked_front : (w rest : List ℕ) → starts_with nat_eq w the_mark ≡ true → starts_with nat_eq (w ++ rest) the_mark ≡ true
marked_front w rest e = rw (mark_is w e) refl

unmarked : (t : Bool) (w rest text : List ℕ) → starts_with nat_eq w the_mark ≡ t → text ≡ w ++ rest → starts_with nat_eq text the_mark ≡ false → t ≡ false
unmarked true w rest text e is none = let some : starts_with nat_eq text the_mark ≡ true = rw is (marked_front w rest e) in absurd cc
unmarked false w rest text e is none = refl

lines_of_unmarked : (text : List ℕ) → starts_with nat_eq text the_mark ≡ false → lines_of text ≡ lines text
lines_of_unmarked text e = rw e refl

lines_of_marked : (bs : List ℕ) → lines_of (239 ∷ 187 ∷ 191 ∷ bs) ≡ lines bs
lines_of_marked bs = refl

kept_unmarked : (text : List ℕ) (ws : List (List ℕ)) → whole_lines text ≡ ws → starts_with nat_eq text the_mark ≡ false → length ws < 4294967295
    → kept_lines_from 1 (map bare ws) ≡ kept_in (text_lines_from 1 ws)
kept_unmarked text [] e none within = refl
kept_unmarked text (w ∷ ws) e none within =
    let is : text ≡ w ++ flat_map (λ l. l) ws = sym (flat_whole text) ∙ ap (flat_map (λ l. l)) e in
    let said : said_at 1 w ≡ bare w = ap first_of (lines_of_unmarked w (unmarked _ w (flat_map (λ l. l) ws) text refl is none)) in
    kept_first w w ws said within

few : (ws : List (List ℕ)) → length (onto_first 239 (onto_first 187 (onto_first 191 ws))) < 4294967295 → length ws < 4294967295
few [] less = omega arith
few (w ∷ ws) less = less

kept_by : (t : Bool) (text : List ℕ) → starts_with nat_eq text the_mark ≡ t → length (whole_lines text) < 4294967295 → kept_lines (lines_of text) ≡ kept_in (text_lines text)
kept_by true text e within = subst (λ (t : List ℕ). length (whole_lines t) < 4294967295 → kept_lines (lines_of t) ≡ kept_in (text_lines t)) (sym (mark_is text e))
    (λ less. ap kept_lines (lines_bare (drop 3 text))
    ∙ kept_marked (drop 3 text) (whole_lines (drop 3 text)) refl (few (whole_lines (drop 3 text)) (rw (whole_marked (drop 3 text)) at less))
    ∙ ap (λ (ws : List (List ℕ)). kept_in (text_lines_from 1 ws)) (sym (whole_marked (drop 3 text)))) within
kept_by false text e within = ap kept_lines (lines_of_unmarked text e ∙ lines_bare text) ∙ kept_unmarked text (whole_lines text) refl e within

-- The kept lines of a text are those of its lines as they stand.
pub kept_are : (text : List ℕ) → length (whole_lines text) < 4294967295 → kept_lines (lines_of text) ≡ kept_in (text_lines text)
kept_are text within = kept_by (starts_with nat_eq text the_mark) text refl within

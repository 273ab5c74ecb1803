-- What a reader of programs sees of lines that are put otherwise.
use Rattle.std.proofs.Common.{◌≡◌, ℕ, ◌+◌, Bool, true, false, eqb, List, [], ◌∷◌, ◌++◌, refl, ap, ◌∙◌, arith}
use Rattle.std.specs.Prelude.{◌||◌, ◌&&◌}
use Rattle.std.specs.List.{list_any, flat_map}
use Rattle.std.proofs.lemmas.Bool.{and_right}
use Rattle.std.proofs.lemmas.List.{append-nil}
use Rattle.std.proofs.lemmas.List.Folds.{list_any-append}
use Rattle.std.proofs.lemmas.List.Concat.{flat_map-append}
use Rattle.vcm_lines.specs.Segments.{Segment, Quoted, Open, Comment, Plain, onto_text, segments_from, segments_of, is_dollar, kept, text_of, continues}
use Rattle.vcm_lines.specs.Statements.{is_empty, kept_lines_from, kept_lines}
use Rattle.vcm_lines.proofs.SegmentLemmas.{segments_none, segments_comment}
use Rattle.vcm_adapt.specs.declared.edit.Edit.{Edit}
use Rattle.vcm_adapt.specs.declared.edit.Edit.TheVariants.{Keep, LeaveOut, Put}
use Rattle.vcm_adapt.specs.Marks.{mark}
use Rattle.vcm_adapt.specs.Adapted.{edited, edited_lines}
use Rattle.vcm_adapt.specs.Read.{is_loose, IsClosed, AreClosed, seen, seen_lines}

-- two blanks and a comment
abbrev tail : List ℕ → List ℕ
tail rest = 32 ∷ 32 ∷ 36 ∷ 36 ∷ rest

abbrev tail_segments : List ℕ → List Segment
tail_segments rest = Plain 32 ∷ Plain 32 ∷ Comment rest ∷ []

tail_cut : (rest : List ℕ) → segments_from false (tail rest) ≡ tail_segments rest
unfolding segments_from
tail_cut rest = refl

quote_inside : (b : ℕ) (bs : List ℕ) → eqb b 39 ≡ true → segments_from true (b ∷ bs) ≡ Quoted [] ∷ segments_from false bs
unfolding segments_from
quote_inside b bs e = rw e refl

other_inside : (b : ℕ) (bs : List ℕ) → eqb b 39 ≡ false → segments_from true (b ∷ bs) ≡ onto_text b (segments_from true bs)
unfolding segments_from
other_inside b bs e = rw e refl

none_inside : segments_from true [] ≡ Open [] ∷ []
unfolding segments_from
none_inside = refl

quote_outside : (b c : ℕ) (bs : List ℕ) → eqb b 39 ≡ true → segments_from false (b ∷ c ∷ bs) ≡ segments_from true (c ∷ bs)
unfolding segments_from
quote_outside b c bs e = rw e refl

comment_outside : (b c : ℕ) (bs : List ℕ) → eqb b 39 ≡ false → (eqb b 36 && eqb c 36) ≡ true → segments_from false (b ∷ c ∷ bs) ≡ Comment bs ∷ []
unfolding segments_from
comment_outside b c bs e f = rw (e, f) refl

plain_outside : (b c : ℕ) (bs : List ℕ) → eqb b 39 ≡ false → (eqb b 36 && eqb c 36) ≡ false → segments_from false (b ∷ c ∷ bs) ≡ Plain b ∷ segments_from false (c ∷ bs)
unfolding segments_from
plain_outside b c bs e f = rw (e, f) refl

quote_last : (b : ℕ) → eqb b 39 ≡ true → segments_from false (b ∷ []) ≡ Open [] ∷ []
unfolding segments_from
quote_last b e = rw e refl

plain_last : (b : ℕ) → eqb b 39 ≡ false → segments_from false (b ∷ []) ≡ Plain b ∷ []
unfolding segments_from
plain_last b e = rw e refl

differs : true ≡ false → ⊥
differs e = grind arith

-- segments of which none is loose
abbrev AreTight : List Segment → Type 0
AreTight ps = list_any is_loose ps ≡ false

onto_tight : (b : ℕ) (ps : List Segment) → AreTight (onto_text b ps) → AreTight ps
onto_tight b (Quoted t ∷ ps) h = h
onto_tight b (Open t ∷ ps) h = h
onto_tight b (Plain c ∷ ps) h = h
onto_tight b (Comment t ∷ ps) h = h
onto_tight b [] h = h

onto_behind : (b : ℕ) (rest : List ℕ) (ps : List Segment) → onto_text b (ps ++ tail_segments rest) ≡ onto_text b ps ++ tail_segments rest
onto_behind b rest (Quoted t ∷ ps) = refl
onto_behind b rest (Open t ∷ ps) = refl
onto_behind b rest (Plain c ∷ ps) = refl
onto_behind b rest (Comment t ∷ ps) = refl
onto_behind b rest [] = refl

-- what is known of bytes, inside a text or outside: their segments stay where a comment comes behind
abbrev Stays : List ℕ → Bool → List ℕ → Type 0
Stays rest inside bs = AreTight (segments_from inside bs) → segments_from inside (bs ++ tail rest) ≡ segments_from inside bs ++ tail_segments rest

in_text : (t : Bool) (rest : List ℕ) (b : ℕ) (bs : List ℕ) → eqb b 39 ≡ t → Stays rest false bs → Stays rest true bs → Stays rest true (b ∷ bs)
in_text true rest b bs e p q h =
    quote_inside b (bs ++ tail rest) e ∙ rw (quote_inside b bs e) (ap (λ (x : List Segment). Quoted [] ∷ x) (p (rw (quote_inside b bs e) at h)))
in_text false rest b bs e p q h =
    other_inside b (bs ++ tail rest) e ∙ rw (other_inside b bs e)
    (ap (onto_text b) (q (onto_tight b (segments_from true bs) (rw (other_inside b bs e) at h))) ∙ onto_behind b rest (segments_from true bs))

at_end : (t : Bool) (rest : List ℕ) (b : ℕ) → eqb b 39 ≡ t → Stays rest false (b ∷ [])
at_end true rest b e h = absurd (differs (rw (quote_last b e) at h))
at_end false rest b e h =
    plain_outside b 32 (32 ∷ 36 ∷ 36 ∷ rest) e (and_right _ _ refl) ∙ rw (plain_last b e) (ap (λ (x : List Segment). Plain b ∷ x) (tail_cut rest))

outside : (t u : Bool) (rest : List ℕ) (b c : ℕ) (bs : List ℕ) → eqb b 39 ≡ t → (eqb b 36 && eqb c 36) ≡ u → Stays rest true (c ∷ bs) → Stays rest false (c ∷ bs) → Stays rest false (b ∷ c ∷ bs)
outside true u rest b c bs e f p q h =
    quote_outside b c (bs ++ tail rest) e ∙ rw (quote_outside b c bs e) (p (rw (quote_outside b c bs e) at h))
outside false true rest b c bs e f p q h = absurd (differs (rw (comment_outside b c bs e f) at h))
outside false false rest b c bs e f p q h =
    plain_outside b c (bs ++ tail rest) e f ∙ rw (plain_outside b c bs e f) (ap (λ (x : List Segment). Plain b ∷ x) (q (rw (plain_outside b c bs e f) at h)))

stays : (rest : List ℕ) (inside : Bool) (bs : List ℕ) → Stays rest inside bs
stays rest true [] h = absurd (differs (rw none_inside at h))
stays rest true (b ∷ bs) h = in_text (eqb b 39) rest b bs refl (stays rest false bs) (stays rest true bs) h
stays rest false [] h = rw segments_none (tail_cut rest)
stays rest false (b ∷ []) h = at_end (eqb b 39) rest b refl h
stays rest false (b ∷ c ∷ bs) h = outside (eqb b 39) (eqb b 36 && eqb c 36) rest b c bs refl refl (stays rest true (c ∷ bs)) (stays rest false (c ∷ bs)) h

or_nothing : (x : Bool) → (x || false) ≡ x
or_nothing true = refl
or_nothing false = refl

-- the reader sees the same of two lines
abbrev SeenAlike : List ℕ → List ℕ → Type 0
SeenAlike l m = (text_of l ≡ text_of m) × (continues l ≡ continues m)

put_alike : (new line : List ℕ) → AreTight (segments_of new) → SeenAlike (new ++ (32 ∷ 32 ∷ (mark ++ line))) new
put_alike new line h =
    let e = stays (45 ∷ 32 ∷ line) false new h in (
      ap (flat_map kept) e ∙ flat_map-append kept (segments_of new) (tail_segments (45 ∷ 32 ∷ line)) ∙ append-nil (text_of new),
      ap (list_any is_dollar) e ∙ list_any-append is_dollar (segments_of new) (tail_segments (45 ∷ 32 ∷ line)) ∙ or_nothing (continues new),
    )

left_alike : (line : List ℕ) → SeenAlike (mark ++ line) []
left_alike line = rw (segments_comment (45 ∷ 32 ∷ line), segments_none) (refl, refl)

edited_alike : (e : Edit) (line : List ℕ) → IsClosed e → SeenAlike (edited e line) (seen e line)
edited_alike Keep line h = (refl, refl)
edited_alike LeaveOut line h = left_alike line
edited_alike (Put new) line h = put_alike new line h

pub empty_behind : (line : List ℕ) → is_empty (mark ++ line) ≡ true
empty_behind line = rw (segments_comment (45 ∷ 32 ∷ line)) refl

seen_from : (n : ℕ) (es : List Edit) (ls : List (List ℕ)) → AreClosed es → kept_lines_from n (edited_lines es ls) ≡ kept_lines_from n (seen_lines es ls)
seen_from n [] ls h = refl
seen_from n (e ∷ es) [] h = refl
seen_from n (e ∷ es) (l ∷ ls) h = let p = edited_alike e l h.0 in rw (p.0, p.1, seen_from (n + 1) es ls h.1) refl

pub seen_alike : (es : List Edit) (ls : List (List ℕ)) → AreClosed es → kept_lines (edited_lines es ls) ≡ kept_lines (seen_lines es ls)
seen_alike es ls h = seen_from 1 es ls h

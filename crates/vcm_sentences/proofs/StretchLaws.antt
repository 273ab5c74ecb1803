-- What the stretches of a text are: its lines, its statements, and what its lines are to them.
use Rattle.std.proofs.Common.{◌≡◌, ℕ, suc, Bool, true, false, eqb, List, [], ◌∷◌, ◌++◌, length, map, refl, sym, ap, ◌∙◌, append_assoc, arith}
use Rattle.std.specs.Prelude.{◌==◌, ◌&&◌, not, if◌then◌else◌}
use Rattle.std.specs.List.{filter, flat_map, onto_first}
use Rattle.std.proofs.lemmas.Bool.{and_parts, eqb-true}
use Rattle.std.proofs.lemmas.List.{append-nil}
use Rattle.vcm_num.specs.Lines.{whole_lines}
use Rattle.vcm_num.proofs.WholeLines.{whole_feed, whole_other, whole_nil}
use Rattle.vcm_lines.specs.Segments.{text_of, continues}
use Rattle.vcm_lines.specs.Statements.{KeptLine, kept_line, is_empty, grouped, bytes_of, first_line}
use Rattle.vcm_sentences.specs.declared.sentences.Owner.{Owner}
use Rattle.vcm_sentences.specs.declared.sentences.Owner.TheVariants.{Nobody, First, Other}
use Rattle.vcm_sentences.specs.Stretches.{TextLine, next, text_lines_from, text_lines, goes_on, put_before, stretches, raw_of, bytes_in, number_of, begins_statement, is_told, told, owner, owners_from}
use Rattle.vcm_sentences.specs.Laws.{kept_in, first_numbers}

-- ---- the stretches are the lines

raw_before : (goes : Bool) (l : TextLine) (ss : List (List TextLine)) → flat_map raw_of (put_before goes l ss) ≡ l.raw ++ flat_map raw_of ss
raw_before true l [] = append-nil (l.raw ++ []) ∙ append-nil l.raw ∙ sym (append-nil l.raw)
raw_before true l (s ∷ ss) = append_assoc l.raw (raw_of s) (flat_map raw_of ss)
raw_before false l ss = ap (λ (t : List ℕ). t ++ flat_map raw_of ss) (append-nil l.raw)

raw_stretches : (within : Bool) (ls : List TextLine) → flat_map raw_of (stretches within ls) ≡ raw_of ls
raw_stretches within [] = refl
raw_stretches within (l ∷ ls) = raw_before (goes_on within l) l (stretches (goes_on within l) ls) ∙ ap (λ (t : List ℕ). l.raw ++ t) (raw_stretches (goes_on within l) ls)

raw_lines : (n : ℕ) (ls : List (List ℕ)) → raw_of (text_lines_from n ls) ≡ flat_map (λ l. l) ls
raw_lines n [] = refl
raw_lines n (l ∷ ls) = ap (λ (t : List ℕ). l ++ t) (raw_lines (next n) ls)

flat_first : (b : ℕ) (ls : List (List ℕ)) → flat_map (λ l. l) (onto_first b ls) ≡ b ∷ flat_map (λ l. l) ls
flat_first b [] = refl
flat_first b (l ∷ ls) = refl

flat_byte : (t : Bool) (b : ℕ) (bs : List ℕ) → eqb b 10 ≡ t → flat_map (λ l. l) (whole_lines bs) ≡ bs → flat_map (λ l. l) (whole_lines (b ∷ bs)) ≡ b ∷ bs
flat_byte true b bs e all = rw (whole_feed b bs e) (ap (λ (t : List ℕ). b ∷ t) all)
flat_byte false b bs e all = rw (whole_other b bs e) (flat_first b (whole_lines bs) ∙ ap (λ (t : List ℕ). b ∷ t) all)

pub flat_whole : (text : List ℕ) → flat_map (λ l. l) (whole_lines text) ≡ text
flat_whole [] = rw whole_nil refl
flat_whole (b ∷ bs) = flat_byte (eqb b 10) b bs refl (flat_whole bs)

pub stretches_whole : (text : List ℕ) → flat_map raw_of (stretches false (text_lines text)) ≡ text
stretches_whole text = raw_stretches false (text_lines text) ∙ raw_lines 1 (whole_lines text) ∙ flat_whole text

-- ---- the stretches that begin a statement are the groups of kept lines

abbrev groups : List (List TextLine) → List (List KeptLine)
groups ss = map kept_in (filter begins_statement ss)

-- kept lines in front of those of others, if there are any
abbrev with_head : List KeptLine → List (List KeptLine) → List (List KeptLine)
with_head [] gs = gs
with_head (r ∷ rs) gs = (r ∷ rs) ∷ gs

-- the groups of stretches that begin within a statement
abbrev heads : List (List TextLine) → List (List KeptLine)
heads [] = []
heads (s ∷ ss) = with_head (kept_in s) (groups ss)

-- where nothing is kept of the first stretch, it is the last
abbrev EndsBare : List (List TextLine) → Type 0
EndsBare [] = Unit {0}
EndsBare (s ∷ ss) = kept_in s ≡ [] → ss ≡ []

bare_onto : (l : TextLine) (ss : List (List TextLine)) → EndsBare ss → EndsBare (onto_first l ss)
bare_onto l [] h = λ e. refl
bare_onto l (s ∷ ss) h = onto_by (is_empty l.text) refl
  where
    onto_by : (t : Bool) → is_empty l.text ≡ t → kept_in (l ∷ s) ≡ [] → ss ≡ []
    onto_by true e none = h (rw e at none)
    onto_by false e none = let some : kept_line l.number l.text ∷ kept_in s ≡ [] = rw e at none in absurd cc

bare_before : (goes : Bool) (l : TextLine) (ss : List (List TextLine)) → (goes ≡ true → EndsBare ss) → (goes ≡ false → is_empty l.text ≡ false) → EndsBare (put_before goes l ss)
bare_before true l ss h f = bare_onto l ss (h refl)
bare_before false l ss h f = λ none. let some : kept_line l.number l.text ∷ [] ≡ [] = rw (f refl) at none in absurd cc

stays_open : (empty goes : Bool) → (if empty then true else goes) ≡ false → empty ≡ false
stays_open true goes e = absurd cc
stays_open false goes e = refl

ends_bare : (ls : List TextLine) → EndsBare (stretches true ls)
ends_bare [] = tt
ends_bare (l ∷ ls) = bare_before (goes_on true l) l (stretches (goes_on true l) ls)
    (λ e. rw e (ends_bare ls)) (λ e. stays_open (is_empty l.text) (continues l.text) e)

-- the first stretch begins a statement, and the first line is kept
groups_one : (s : List TextLine) (ss : List (List TextLine)) → begins_statement s ≡ true → groups (s ∷ ss) ≡ kept_in s ∷ groups ss
groups_one s ss e = rw e refl

kept_cons : (l : TextLine) (ls : List TextLine) → is_empty l.text ≡ false → kept_in (l ∷ ls) ≡ kept_line l.number l.text ∷ kept_in ls
kept_cons l ls e = rw e refl

grouped_goes : (r : KeptLine) (rs : List KeptLine) → r.goes_on ≡ true → grouped (r ∷ rs) ≡ onto_first r (grouped rs)
grouped_goes r rs e = rw e refl

grouped_ends : (r : KeptLine) (rs : List KeptLine) → r.goes_on ≡ false → grouped (r ∷ rs) ≡ (r ∷ []) ∷ grouped rs
grouped_ends r rs e = rw e refl

-- a kept line in front of a stretch within a statement
onto_heads : (r : KeptLine) (rs : List KeptLine) (s : List TextLine) (ss : List (List TextLine)) → kept_in s ≡ rs → EndsBare (s ∷ ss)
    → (r ∷ kept_in s) ∷ groups ss ≡ onto_first r (with_head (kept_in s) (groups ss))
onto_heads r [] s ss none h = rw (none, h none) refl
onto_heads r (q ∷ rs) s ss some h = rw some refl

-- a kept line that goes on
goes_before : (l : TextLine) (ss : List (List TextLine)) → is_empty l.text ≡ false → EndsBare ss → groups (onto_first l ss) ≡ onto_first (kept_line l.number l.text) (heads ss)
goes_before l [] e h = groups_one (l ∷ []) [] (ap not e) ∙ ap (λ (g : List KeptLine). g ∷ []) (kept_cons l [] e)
goes_before l (s ∷ ss) e h = groups_one (l ∷ s) ss (ap not e) ∙ ap (λ (g : List KeptLine). g ∷ groups ss) (kept_cons l s e)
    ∙ onto_heads (kept_line l.number l.text) (kept_in s) s ss refl h

-- a line in front of stretches within a statement
heads_onto : (l : TextLine) (ss : List (List TextLine)) → is_empty l.text ≡ true → heads (onto_first l ss) ≡ heads ss
heads_onto l [] e = rw e refl
heads_onto l (s ∷ ss) e = rw e refl

heads_kept : (l : TextLine) (ss : List (List TextLine)) → is_empty l.text ≡ false → EndsBare ss → heads (onto_first l ss) ≡ onto_first (kept_line l.number l.text) (heads ss)
heads_kept l [] e h = ap (λ (g : List KeptLine). with_head g []) (kept_cons l [] e)
heads_kept l (s ∷ ss) e h = ap (λ (g : List KeptLine). with_head g (groups ss)) (kept_cons l s e) ∙ onto_heads (kept_line l.number l.text) (kept_in s) s ss refl h

-- ---- by what a line is

-- the first stretch
cut_goes : (within : Bool) (l : TextLine) (ls : List TextLine) → goes_on within l ≡ true → stretches within (l ∷ ls) ≡ onto_first l (stretches true ls)
cut_goes within l ls e = rw e refl

cut_ends : (within : Bool) (l : TextLine) (ls : List TextLine) → goes_on within l ≡ false → stretches within (l ∷ ls) ≡ (l ∷ []) ∷ stretches false ls
cut_ends within l ls e = rw e refl

goes_kept : (within goes : Bool) (l : TextLine) → is_empty l.text ≡ false → continues l.text ≡ goes → goes_on within l ≡ goes
goes_kept within goes l e c = rw e c

goes_empty : (within : Bool) (l : TextLine) → is_empty l.text ≡ true → goes_on within l ≡ within
goes_empty within l e = rw e refl

kept_none : (l : TextLine) (ls : List TextLine) → is_empty l.text ≡ true → kept_in (l ∷ ls) ≡ kept_in ls
kept_none l ls e = rw e refl

grouped_more_goes : (l : TextLine) (ls : List TextLine) → is_empty l.text ≡ false → continues l.text ≡ true
    → grouped (kept_in (l ∷ ls)) ≡ onto_first (kept_line l.number l.text) (grouped (kept_in ls))
grouped_more_goes l ls e c = ap grouped (kept_cons l ls e) ∙ grouped_goes (kept_line l.number l.text) (kept_in ls) c

grouped_more_ends : (l : TextLine) (ls : List TextLine) → is_empty l.text ≡ false → continues l.text ≡ false
    → grouped (kept_in (l ∷ ls)) ≡ (kept_line l.number l.text ∷ []) ∷ grouped (kept_in ls)
grouped_more_ends l ls e c = ap grouped (kept_cons l ls e) ∙ grouped_ends (kept_line l.number l.text) (kept_in ls) c

outside_by : (empty goes : Bool) (l : TextLine) (ls : List TextLine) → is_empty l.text ≡ empty → continues l.text ≡ goes
    → groups (stretches false ls) ≡ grouped (kept_in ls) → heads (stretches true ls) ≡ grouped (kept_in ls) → groups (stretches false (l ∷ ls)) ≡ grouped (kept_in (l ∷ ls))
outside_by true goes l ls e c out in_ = ap groups (cut_ends false l ls (goes_empty false l e)) ∙ (rw e out) ∙ ap grouped (sym (kept_none l ls e))
outside_by false true l ls e c out in_ = ap groups (cut_goes false l ls (goes_kept false true l e c)) ∙ goes_before l (stretches true ls) e (ends_bare ls)
    ∙ ap (onto_first (kept_line l.number l.text)) in_ ∙ sym (grouped_more_goes l ls e c)
outside_by false false l ls e c out in_ = ap groups (cut_ends false l ls (goes_kept false false l e c)) ∙ groups_one (l ∷ []) (stretches false ls) (ap not e)
    ∙ ap (λ (g : List KeptLine). g ∷ groups (stretches false ls)) (kept_cons l [] e)
    ∙ ap (λ (gs : List (List KeptLine)). (kept_line l.number l.text ∷ []) ∷ gs) out ∙ sym (grouped_more_ends l ls e c)

within_by : (empty goes : Bool) (l : TextLine) (ls : List TextLine) → is_empty l.text ≡ empty → continues l.text ≡ goes
    → groups (stretches false ls) ≡ grouped (kept_in ls) → heads (stretches true ls) ≡ grouped (kept_in ls) → heads (stretches true (l ∷ ls)) ≡ grouped (kept_in (l ∷ ls))
within_by true goes l ls e c out in_ = ap heads (cut_goes true l ls (goes_empty true l e)) ∙ heads_onto l (stretches true ls) e ∙ in_ ∙ ap grouped (sym (kept_none l ls e))
within_by false true l ls e c out in_ = ap heads (cut_goes true l ls (goes_kept true true l e c)) ∙ heads_kept l (stretches true ls) e (ends_bare ls)
    ∙ ap (onto_first (kept_line l.number l.text)) in_ ∙ sym (grouped_more_goes l ls e c)
within_by false false l ls e c out in_ = ap heads (cut_ends true l ls (goes_kept true false l e c))
    ∙ ap (λ (g : List KeptLine). with_head g (groups (stretches false ls))) (kept_cons l [] e)
    ∙ ap (λ (gs : List (List KeptLine)). (kept_line l.number l.text ∷ []) ∷ gs) out ∙ sym (grouped_more_ends l ls e c)

both_grouped : (ls : List TextLine) → (groups (stretches false ls) ≡ grouped (kept_in ls)) × (heads (stretches true ls) ≡ grouped (kept_in ls))
both_grouped [] = (refl, refl)
both_grouped (l ∷ ls) = let p = both_grouped ls in
    (outside_by (is_empty l.text) (continues l.text) l ls refl refl p.0 p.1, within_by (is_empty l.text) (continues l.text) l ls refl refl p.0 p.1)

pub stretches_grouped : (ls : List TextLine) → groups (stretches false ls) ≡ grouped (kept_in ls)
stretches_grouped ls = (both_grouped ls).0

-- ---- what is told of them

nothing_left : (bs : List ℕ) (goes : Bool) → (length bs == 0 && goes) ≡ true → bs ≡ []
nothing_left [] goes e = refl
nothing_left (b ∷ bs) goes e = let p = and_parts (eqb (suc (length bs)) 0) goes e in absurd (omega (arith, eqb-true (suc (length bs)) 0 p.0))

empty_text : (line : List ℕ) → is_empty line ≡ true → text_of line ≡ []
empty_text line e = nothing_left (text_of line) (not (continues line)) e

bytes_by : (t : Bool) (l : TextLine) (ls : List TextLine) → is_empty l.text ≡ t → bytes_in ls ≡ bytes_of (kept_in ls) → bytes_in (l ∷ ls) ≡ bytes_of (kept_in (l ∷ ls))
bytes_by true l ls e h = ap (λ (t : List ℕ). t ++ bytes_in ls) (empty_text l.text e) ∙ h ∙ ap bytes_of (sym (kept_none l ls e))
bytes_by false l ls e h = ap (λ (t : List ℕ). text_of l.text ++ t) h ∙ ap bytes_of (sym (kept_cons l ls e))

bytes_kept : (ls : List TextLine) → bytes_in ls ≡ bytes_of (kept_in ls)
bytes_kept [] = refl
bytes_kept (l ∷ ls) = bytes_by (is_empty l.text) l ls refl (bytes_kept ls)

number_kept : (ls : List TextLine) → begins_statement ls ≡ true → number_of ls ≡ first_line (kept_in ls)
number_kept [] e = absurd cc
number_kept (l ∷ ls) e = number_by (is_empty l.text) refl e
  where
    number_by : (t : Bool) → is_empty l.text ≡ t → not t ≡ true → l.number ≡ first_line (kept_in (l ∷ ls))
    number_by true e f = absurd cc
    number_by false e f = ap first_line (sym (kept_cons l ls e))

pub all_bytes : (ss : List (List TextLine)) → map bytes_in ss ≡ map bytes_of (map kept_in ss)
all_bytes [] = refl
all_bytes (s ∷ ss) = rw (bytes_kept s, all_bytes ss) refl

numbers_by : (t : Bool) (s : List TextLine) (ss : List (List TextLine)) → begins_statement s ≡ t
    → map number_of (filter begins_statement ss) ≡ map first_line (groups ss) → map number_of (filter begins_statement (s ∷ ss)) ≡ map first_line (groups (s ∷ ss))
numbers_by true s ss e h = rw (e, number_kept s e, h) refl
numbers_by false s ss e h = rw e h

pub all_numbers : (ss : List (List TextLine)) → map number_of (filter begins_statement ss) ≡ map first_line (groups ss)
all_numbers [] = refl
all_numbers (s ∷ ss) = numbers_by (begins_statement s) s ss refl (all_numbers ss)

told_by : (t : Bool) (s : List TextLine) (ss : List (List TextLine)) → begins_statement s ≡ t
    → filter is_told (filter begins_statement ss) ≡ filter begins_statement ss → filter is_told (filter begins_statement (s ∷ ss)) ≡ filter begins_statement (s ∷ ss)
told_by true s ss e h = rw (e, e, h) refl
told_by false s ss e h = rw e h

pub begun_told : (ss : List (List TextLine)) → filter is_told (filter begins_statement ss) ≡ filter begins_statement ss
begun_told [] = refl
begun_told (s ∷ ss) = told_by (begins_statement s) s ss refl (begun_told ss)

-- ---- the other stretches

abbrev is_other : List TextLine → Bool
is_other s = not (begins_statement s)

abbrev tail_of : List (List TextLine) → List (List TextLine)
tail_of [] = []
tail_of (s ∷ ss) = ss

tail_onto : (l : TextLine) (ss : List (List TextLine)) → tail_of (onto_first l ss) ≡ tail_of ss
tail_onto l [] = refl
tail_onto l (s ∷ ss) = refl

abbrev NoBytes : List (List TextLine) → Type 0
NoBytes ss = flat_map bytes_in (filter is_other ss) ≡ []

tail_bare : (goes : Bool) (l : TextLine) (ls : List TextLine) → goes_on true l ≡ goes → NoBytes (stretches false ls) → NoBytes (tail_of (stretches true ls))
    → NoBytes (tail_of (stretches true (l ∷ ls)))
tail_bare true l ls e out in_ = rw (cut_goes true l ls e, tail_onto l (stretches true ls)) in_
tail_bare false l ls e out in_ = rw (cut_ends true l ls e) out

-- a stretch that begins a statement in front
begun_passed : (l : TextLine) (ss : List (List TextLine)) → is_empty l.text ≡ false → NoBytes (tail_of ss) → NoBytes (onto_first l ss)
begun_passed l [] e h = rw e refl
begun_passed l (s ∷ ss) e h = rw e h

bare_passed : (l : TextLine) (ss : List (List TextLine)) → is_empty l.text ≡ true → NoBytes ss → NoBytes ((l ∷ []) ∷ ss)
bare_passed l ss e h = rw (e, empty_text l.text e) h

ends_passed : (l : TextLine) (ss : List (List TextLine)) → is_empty l.text ≡ false → NoBytes ss → NoBytes ((l ∷ []) ∷ ss)
ends_passed l ss e h = rw e h

first_bare : (empty goes : Bool) (l : TextLine) (ls : List TextLine) → is_empty l.text ≡ empty → continues l.text ≡ goes → NoBytes (stretches false ls)
    → NoBytes (tail_of (stretches true ls)) → NoBytes (stretches false (l ∷ ls))
first_bare true goes l ls e c out in_ = rw (cut_ends false l ls (goes_empty false l e)) (bare_passed l (stretches false ls) e out)
first_bare false true l ls e c out in_ = rw (cut_goes false l ls (goes_kept false true l e c)) (begun_passed l (stretches true ls) e in_)
first_bare false false l ls e c out in_ = rw (cut_ends false l ls (goes_kept false false l e c)) (ends_passed l (stretches false ls) e out)

both_bare : (ls : List TextLine) → NoBytes (stretches false ls) × NoBytes (tail_of (stretches true ls))
both_bare [] = (refl, refl)
both_bare (l ∷ ls) = let p = both_bare ls in
    (first_bare (is_empty l.text) (continues l.text) l ls refl refl p.0 p.1, tail_bare (goes_on true l) l ls refl p.0 p.1)

pub others_bare : (ls : List TextLine) → NoBytes (stretches false ls)
others_bare ls = (both_bare ls).0

-- ---- the owners

pub length_owners : (within : Bool) (ls : List TextLine) → length (owners_from within ls) ≡ length ls
length_owners within [] = refl
length_owners within (l ∷ ls) = ap suc (length_owners (goes_on within l) ls)

pub length_lines : (n : ℕ) (ls : List (List ℕ)) → length (text_lines_from n ls) ≡ length ls
length_lines n [] = refl
length_lines n (l ∷ ls) = ap suc (length_lines (next n) ls)

abbrev firsts_from : Bool → List TextLine → List ℕ
firsts_from within ls = first_numbers ls (owners_from within ls)

abbrev lines_told : List (List TextLine) → List ℕ
lines_told ss = map (λ s. s.line) (told ss)

no_first : (t : Bool) (l : TextLine) (ls : List TextLine) (os : List Owner) → first_numbers (l ∷ ls) ((if t then Nobody else Other) ∷ os) ≡ first_numbers ls os
no_first true l ls os = refl
no_first false l ls os = refl

tail_owned : (goes : Bool) (l : TextLine) (ls : List TextLine) → goes_on true l ≡ goes → firsts_from false ls ≡ lines_told (stretches false ls)
    → firsts_from true ls ≡ lines_told (tail_of (stretches true ls)) → firsts_from true (l ∷ ls) ≡ lines_told (tail_of (stretches true (l ∷ ls)))
tail_owned true l ls e out in_ = no_first (is_empty l.text) l ls (owners_from (goes_on true l) ls) ∙ (rw e in_)
    ∙ ap lines_told (sym (ap tail_of (cut_goes true l ls e) ∙ tail_onto l (stretches true ls)))
tail_owned false l ls e out in_ = no_first (is_empty l.text) l ls (owners_from (goes_on true l) ls) ∙ (rw e out)
    ∙ ap (λ (ss : List (List TextLine)). lines_told (tail_of ss)) (sym (cut_ends true l ls e))

is_begun : (l : TextLine) (s : List TextLine) → is_empty l.text ≡ false → is_told (l ∷ s) ≡ true
is_begun l s e = rw e refl

one_told : (s : List TextLine) (ss : List (List TextLine)) → is_told s ≡ true → lines_told (s ∷ ss) ≡ number_of s ∷ lines_told ss
one_told s ss e = rw e refl

onto_told : (l : TextLine) (ss : List (List TextLine)) → is_empty l.text ≡ false → lines_told (onto_first l ss) ≡ l.number ∷ lines_told (tail_of ss)
onto_told l [] e = one_told (l ∷ []) [] (is_begun l [] e)
onto_told l (s ∷ ss) e = one_told (l ∷ s) ss (is_begun l s e)

alone_owned : (t : Bool) (l : TextLine) (ls : List TextLine) (ss : List (List TextLine)) (os : List Owner) → is_told (l ∷ []) ≡ t → first_numbers ls os ≡ lines_told ss
    → first_numbers (l ∷ ls) ((if is_told (l ∷ []) then First else Nobody) ∷ os) ≡ lines_told ((l ∷ []) ∷ ss)
alone_owned true l ls ss os e h = rw e (ap (λ (ns : List ℕ). l.number ∷ ns) h)
alone_owned false l ls ss os e h = rw e h

first_owned : (goes : Bool) (l : TextLine) (ls : List TextLine) → goes_on false l ≡ goes → firsts_from false ls ≡ lines_told (stretches false ls)
    → firsts_from true ls ≡ lines_told (tail_of (stretches true ls)) → firsts_from false (l ∷ ls) ≡ lines_told (stretches false (l ∷ ls))
first_owned true l ls e out in_ =
    let some : is_empty l.text ≡ false = open_some (is_empty l.text) (continues l.text) e in
    ap (λ (t : Bool). first_numbers (l ∷ ls) ((if t then First else Nobody) ∷ owners_from (goes_on false l) ls)) (is_begun l [] some)
    ∙ ap (λ (w : Bool). l.number ∷ firsts_from w ls) e ∙ ap (λ (ns : List ℕ). l.number ∷ ns) in_
    ∙ sym (ap lines_told (cut_goes false l ls e) ∙ onto_told l (stretches true ls) some)
  where
    open_some : (empty goes : Bool) → (if empty then false else goes) ≡ true → empty ≡ false
    open_some true goes e = absurd cc
    open_some false goes e = refl
first_owned false l ls e out in_ =
    ap (λ (w : Bool). first_numbers (l ∷ ls) (owner false l ∷ owners_from w ls)) e
    ∙ alone_owned (is_told (l ∷ [])) l ls (stretches false ls) (owners_from false ls) refl out ∙ ap lines_told (sym (cut_ends false l ls e))

both_owned : (ls : List TextLine) → (firsts_from false ls ≡ lines_told (stretches false ls)) × (firsts_from true ls ≡ lines_told (tail_of (stretches true ls)))
both_owned [] = (refl, refl)
both_owned (l ∷ ls) = let p = both_owned ls in (first_owned (goes_on false l) l ls refl p.0 p.1, tail_owned (goes_on true l) l ls refl p.0 p.1)

pub firsts_told : (ls : List TextLine) → firsts_from false ls ≡ lines_told (stretches false ls)
firsts_told ls = (both_owned ls).0

-- The lines of an adapted text without their endings.
use Rattle.std.proofs.Common.{◌≡◌, ℕ, suc, ◌-◌, Bool, true, false, cond, eqb, List, [], ◌∷◌, ◌++◌, length, take, map, refl, sym, ap, ◌∙◌, inl, inr, arith}
use Rattle.std.specs.Prelude.{◌⊎◌, slice_index}
use Rattle.std.specs.List.{slice_split, onto_first, flat_map}
use Rattle.std.specs.Str.Lines.{lines, lines_of_parts, strip_carriage_return}
use Rattle.std.proofs.lemmas.List.{append-nil}
use Rattle.vcm_num.proofs.LineFeeds.{ends_line}
use Rattle.vcm_lines.proofs.SegmentLemmas.{neq-eqb}
use Rattle.vcm_adapt.specs.declared.edit.Edit.{Edit}
use Rattle.vcm_adapt.specs.declared.edit.Edit.TheVariants.{Keep, LeaveOut, Put}
use Rattle.vcm_num.specs.Lines.{whole_lines}
use Rattle.vcm_adapt.specs.Marks.{mark}
use Rattle.vcm_adapt.specs.Adapted.{edited, edited_lines, adapted}
use Rattle.vcm_adapt.specs.Laws.{AreNew}
use Rattle.vcm_adapt.proofs.Whole.{IsLine, IsLast, AreWhole, are_whole, edited_whole, lines_joined}

-- a text has a part at least
cut_some : (t : Bool) (b : ℕ) (parts : List (List ℕ)) → (p : List ℕ) × (ps : List (List ℕ)) × (cond t ([] ∷ parts) (onto_first b parts) ≡ p ∷ ps)
cut_some true b parts = ([], parts, refl)
cut_some false b [] = (b ∷ [], [], refl)
cut_some false b (p ∷ ps) = (b ∷ p, ps, refl)

parts_some : (bs : List ℕ) → (p : List ℕ) × (ps : List (List ℕ)) × (slice_split ends_line bs ≡ p ∷ ps)
parts_some [] = ([], [], refl)
parts_some (b ∷ bs) = cut_some (ends_line b) b (slice_split ends_line bs)

more_lines : (x p : List ℕ) (ps parts : List (List ℕ)) → parts ≡ p ∷ ps → lines_of_parts (x ∷ parts) ≡ strip_carriage_return x ∷ lines_of_parts parts
more_lines x p ps parts e = rw e refl

one_line : (b : ℕ) (bs : List ℕ) → lines_of_parts ((b ∷ bs) ∷ []) ≡ (b ∷ bs) ∷ []
one_line b bs = rw (neq-eqb (suc (length bs)) 0 (λ e. omega arith)) refl

-- the bytes in front of the last one
abbrev front : List ℕ → List ℕ
front [] = []
front (b ∷ []) = []
front (b ∷ c ∷ bs) = b ∷ front (c ∷ bs)

-- the last byte is a line feed
abbrev ends_feed : List ℕ → Bool
ends_feed [] = false
ends_feed (b ∷ []) = eqb b 10
ends_feed (b ∷ c ∷ bs) = ends_feed (c ∷ bs)

-- a line without its ending
abbrev bare : List ℕ → List ℕ
bare l = cond (ends_feed l) (strip_carriage_return (front l)) l

line_split : (l rest : List ℕ) → IsLine l → slice_split ends_line (l ++ rest) ≡ front l ∷ slice_split ends_line rest
line_split [] rest h = absurd h
line_split (b ∷ []) rest h = rw h refl
line_split (b ∷ c ∷ bs) rest h = rw (h.0, line_split (c ∷ bs) rest h.1) refl

last_split : (l : List ℕ) → IsLast l → slice_split ends_line l ≡ l ∷ []
last_split [] h = absurd h
last_split (b ∷ []) h = rw h refl
last_split (b ∷ c ∷ bs) h = rw (h.0, last_split (c ∷ bs) h.1) refl

line_ends : (l : List ℕ) → IsLine l → ends_feed l ≡ true
line_ends [] h = absurd h
line_ends (b ∷ []) h = h
line_ends (b ∷ c ∷ bs) h = line_ends (c ∷ bs) h.1

last_ends : (l : List ℕ) → IsLast l → ends_feed l ≡ false
last_ends [] h = absurd h
last_ends (b ∷ []) h = h
last_ends (b ∷ c ∷ bs) h = last_ends (c ∷ bs) h.1

line_lines : (l rest : List ℕ) → IsLine l → lines (l ++ rest) ≡ bare l ∷ lines rest
line_lines l rest h =
    let p = parts_some rest in
    ap lines_of_parts (line_split l rest h) ∙ more_lines (front l) p.0 p.1 _ p.2 ∙ ap (λ (t : Bool). cond t (strip_carriage_return (front l)) l ∷ lines rest) (sym (line_ends l h))

alone : (l : List ℕ) → IsLast l → lines_of_parts (l ∷ []) ≡ l ∷ []
alone [] h = absurd h
alone (b ∷ bs) h = one_line b bs

last_lines : (l : List ℕ) → IsLast l → lines l ≡ bare l ∷ []
last_lines l h = ap lines_of_parts (last_split l h) ∙ alone l h ∙ ap (λ (t : Bool). cond t (strip_carriage_return (front l)) l ∷ []) (sym (last_ends l h))

pub whole_bare : (ls : List (List ℕ)) → AreWhole ls → lines (flat_map (λ l. l) ls) ≡ map bare ls
whole_bare [] w = refl
whole_bare (l ∷ []) w = elim w [
  | inl h ↦ line_lines l [] h
  | inr h ↦ rw (append-nil l) (last_lines l h)
]
whole_bare (l ∷ m ∷ ls) w = line_lines l (flat_map (λ l. l) (m ∷ ls)) w.0 ∙ ap (λ (x : List (List ℕ)). bare l ∷ x) (whole_bare (m ∷ ls) w.1)

-- bytes in front of a line
ends_behind : (new : List ℕ) (b : ℕ) (l : List ℕ) → ends_feed (new ++ (b ∷ l)) ≡ ends_feed (b ∷ l)
ends_behind [] b l = refl
ends_behind (c ∷ []) b l = refl
ends_behind (c ∷ d ∷ new) b l = ends_behind (d ∷ new) b l

front_behind : (new : List ℕ) (b : ℕ) (l : List ℕ) → front (new ++ (b ∷ l)) ≡ new ++ front (b ∷ l)
front_behind [] b l = refl
front_behind (c ∷ []) b l = refl
front_behind (c ∷ d ∷ new) b l = ap (λ (x : List ℕ). c ∷ x) (front_behind (d ∷ new) b l)

strip_choice : (t : Bool) (b k : ℕ) (x : List ℕ) → cond t (take (suc k) (b ∷ x)) (b ∷ x) ≡ b ∷ cond t (take k x) x
strip_choice true b k x = refl
strip_choice false b k x = refl

strip_more : (b c : ℕ) (x : List ℕ) → strip_carriage_return (b ∷ c ∷ x) ≡ b ∷ strip_carriage_return (c ∷ x)
strip_more b c x =
    let k : suc (suc (length x)) - 1 ≡ suc (length x) = omega arith in
    let m : suc (length x) - 1 ≡ length x = omega arith in
    rw (k, m) (strip_choice (eqb (slice_index (c ∷ x) (length x)) 13) b (length x) (c ∷ x))

strip_blank : (x : List ℕ) → strip_carriage_return (32 ∷ x) ≡ 32 ∷ strip_carriage_return x
strip_blank [] = refl
strip_blank (c ∷ x) = strip_more 32 c x

strip_mark : (x : List ℕ) → strip_carriage_return (mark ++ x) ≡ mark ++ strip_carriage_return x
strip_mark x =
    strip_more 36 36 (45 ∷ 32 ∷ x) ∙ ap (λ (y : List ℕ). 36 ∷ y) (strip_more 36 45 (32 ∷ x)) ∙ ap (λ (y : List ℕ). 36 ∷ 36 ∷ y) (strip_more 45 32 x)
    ∙ ap (λ (y : List ℕ). 36 ∷ 36 ∷ 45 ∷ y) (strip_blank x)

strip_new : (new x : List ℕ) → strip_carriage_return (new ++ (32 ∷ 32 ∷ (mark ++ x))) ≡ new ++ (32 ∷ 32 ∷ (mark ++ strip_carriage_return x))
strip_new [] x = strip_more 32 32 (mark ++ x) ∙ ap (λ (y : List ℕ). 32 ∷ y) (strip_more 32 36 (36 ∷ 45 ∷ 32 ∷ x)) ∙ ap (λ (y : List ℕ). 32 ∷ 32 ∷ y) (strip_mark x)
strip_new (b ∷ []) x = strip_more b 32 (32 ∷ (mark ++ x)) ∙ ap (λ (y : List ℕ). b ∷ y) (strip_new [] x)
strip_new (b ∷ c ∷ new) x = strip_more b c (new ++ (32 ∷ 32 ∷ (mark ++ x))) ∙ ap (λ (y : List ℕ). b ∷ y) (strip_new (c ∷ new) x)

in_front : (t : Bool) (pre x l : List ℕ) → cond t (pre ++ x) (pre ++ l) ≡ pre ++ cond t x l
in_front true pre x l = refl
in_front false pre x l = refl

bare_left : (b : ℕ) (l : List ℕ) → bare (mark ++ (b ∷ l)) ≡ mark ++ bare (b ∷ l)
bare_left b l =
    rw (ends_behind mark b l, front_behind mark b l, strip_mark (front (b ∷ l))) (in_front (ends_feed (b ∷ l)) mark (strip_carriage_return (front (b ∷ l))) (b ∷ l))

in_put : (t : Bool) (new x l : List ℕ) → cond t (new ++ (32 ∷ 32 ∷ (mark ++ x))) (new ++ (32 ∷ 32 ∷ (mark ++ l))) ≡ new ++ (32 ∷ 32 ∷ (mark ++ cond t x l))
in_put true new x l = refl
in_put false new x l = refl

bare_put : (new : List ℕ) (b : ℕ) (l : List ℕ) → bare (new ++ (32 ∷ 32 ∷ (mark ++ (b ∷ l)))) ≡ new ++ (32 ∷ 32 ∷ (mark ++ bare (b ∷ l)))
bare_put new b l =
    let whole = new ++ (32 ∷ 32 ∷ (mark ++ (b ∷ l))) in
    ap (λ (t : Bool). cond t (strip_carriage_return (front whole)) whole) (ends_behind new 32 (32 ∷ (mark ++ (b ∷ l))))
    ∙ ap (λ (y : List ℕ). cond (ends_feed (b ∷ l)) (strip_carriage_return y) whole) (front_behind new 32 (32 ∷ (mark ++ (b ∷ l))))
    ∙ ap (λ (y : List ℕ). cond (ends_feed (b ∷ l)) y whole) (strip_new new (front (b ∷ l)))
    ∙ in_put (ends_feed (b ∷ l)) new (strip_carriage_return (front (b ∷ l))) (b ∷ l)

bare_edited : (e : Edit) (b : ℕ) (l : List ℕ) → bare (edited e (b ∷ l)) ≡ edited e (bare (b ∷ l))
bare_edited Keep b l = refl
bare_edited LeaveOut b l = bare_left b l
bare_edited (Put new) b l = bare_put new b l

bare_line : (e : Edit) (l : List ℕ) → IsLine l → bare (edited e l) ≡ edited e (bare l)
bare_line e [] h = absurd h
bare_line e (b ∷ l) h = bare_edited e b l

bare_last : (e : Edit) (l : List ℕ) → IsLast l → bare (edited e l) ≡ edited e (bare l)
bare_last e [] h = absurd h
bare_last e (b ∷ l) h = bare_edited e b l

bare_only : (e : Edit) (l : List ℕ) → IsLine l ⊎ IsLast l → bare (edited e l) ≡ edited e (bare l)
bare_only e l (inl h) = bare_line e l h
bare_only e l (inr h) = bare_last e l h

both_same : (x y : List ℕ) (xs ys : List (List ℕ)) → x ≡ y → xs ≡ ys → x ∷ xs ≡ y ∷ ys
both_same x y xs ys e f = rw (e, f) refl

no_more : (es : List Edit) → map bare (edited_lines es []) ≡ edited_lines es []
no_more [] = refl
no_more (e ∷ es) = refl

bares_edited : (es : List Edit) (ls : List (List ℕ)) → AreWhole ls → map bare (edited_lines es ls) ≡ edited_lines es (map bare ls)
bares_edited [] ls w = refl
bares_edited (e ∷ es) [] w = refl
bares_edited (e ∷ es) (l ∷ []) w = both_same (bare (edited e l)) (edited e (bare l)) (map bare (edited_lines es [])) (edited_lines es []) (bare_only e l w) (no_more es)
bares_edited (e ∷ es) (l ∷ m ∷ ls) w = both_same (bare (edited e l)) (edited e (bare l)) (map bare (edited_lines es (m ∷ ls)))
    (edited_lines es (map bare (m ∷ ls))) (bare_line e l w.0) (bares_edited es (m ∷ ls) w.1)

lines_whole : (text : List ℕ) → lines text ≡ map bare (whole_lines text)
lines_whole text = ap lines (sym (lines_joined text)) ∙ whole_bare (whole_lines text) (are_whole text)

pub lines_adapted : (es : List Edit) (text : List ℕ) → AreNew es → lines (adapted es text) ≡ edited_lines es (lines text)
lines_adapted es text n =
    whole_bare (edited_lines es (whole_lines text)) (edited_whole es (whole_lines text) n (are_whole text))
    ∙ bares_edited es (whole_lines text) (are_whole text) ∙ ap (edited_lines es) (sym (lines_whole text))

-- The first line of a text.
use Rattle.std.proofs.Common.{◌≡◌, ℕ, suc, ◌+◌, ◌<◌, ◌≤◌, Bool, true, false, cond, eqb, List, [], ◌∷◌, length, take, drop, Some, None, refl, ap, ◌∙◌, arith}
use Rattle.std.specs.List.{slice_split, onto_first, position, position_or_len}
use Rattle.std.specs.Str.Lines.{lines, lines_of_parts, strip_carriage_return}
use Rattle.std.proofs.lemmas.Bool.{ltb-false}
use Rattle.std.proofs.lemmas.List.Quantifiers.{position-Some}
use Rattle.std.proofs.lemmas.List.Splits.{slice_split_none, slice_split_first}
use Rattle.std.proofs.lemmas.List.Sums.{fails_before_first, position_or_len_is}
use Rattle.vcm_num.proofs.LineFeeds.{ends_line}

neq-eqb : (b c : ℕ) → (b ≡ c → ⊥) → eqb b c ≡ false
neq-eqb b c ne = grind arith

some_or_none : (b : Bool) (n : ℕ) → cond b (Some n) None ≡ None → b ≡ false
some_or_none true n e = absurd (cc)
some_or_none false n e = refl

-- A text has a part at least.
cut_some : (t : Bool) (b : ℕ) (parts : List (List ℕ)) → (p : List ℕ) × (ps : List (List ℕ)) × (cond t ([] ∷ parts) (onto_first b parts) ≡ p ∷ ps)
cut_some true b parts = ([], parts, refl)
cut_some false b [] = (b ∷ [], [], refl)
cut_some false b (p ∷ ps) = (b ∷ p, ps, refl)

parts_some : (bs : List ℕ) → (p : List ℕ) × (ps : List (List ℕ)) × (slice_split ends_line bs ≡ p ∷ ps)
parts_some [] = ([], [], refl)
parts_some (b ∷ bs) = cut_some (ends_line b) b (slice_split ends_line bs)

one_line : (bs : List ℕ) → 0 < length bs → lines_of_parts (bs ∷ []) ≡ bs ∷ []
one_line [] some = absurd (omega arith)
one_line (b ∷ bs) some = rw (neq-eqb (suc (length bs)) 0 (λ e. omega arith)) refl

more_lines : (x p : List ℕ) (ps parts : List (List ℕ)) → parts ≡ p ∷ ps → lines_of_parts (x ∷ parts) ≡ strip_carriage_return x ∷ lines_of_parts parts
more_lines x p ps parts e = rw e refl

pub lines_last : (bs : List ℕ) → 0 < length bs → position ends_line bs ≡ None → lines bs ≡ bs ∷ []
lines_last bs some e =
    let all : length bs ≤ position_or_len ends_line bs = ltb-false _ _ (some_or_none _ _ e) in
    ap lines_of_parts (slice_split_none ends_line bs (λ k d h. fails_before_first ends_line bs k d (omega arith))) ∙ one_line bs some

pub lines_first : (bs : List ℕ) (n : ℕ) → position ends_line bs ≡ Some n → lines bs ≡ strip_carriage_return (take n bs) ∷ lines (drop (n + 1) bs)
lines_first bs n e =
    let p = position-Some ends_line bs n 0 e in
    let is : position_or_len ends_line bs ≡ n = position_or_len_is ends_line bs n 0 (omega arith) p.2 (λ lt. p.1) in
    let cut : slice_split ends_line bs ≡ take n bs ∷ slice_split ends_line (drop (n + 1) bs) = rw is at (slice_split_first ends_line bs 0 (omega (arith, is, p.0))) in
    let q = parts_some (drop (n + 1) bs) in
    ap lines_of_parts cut ∙ more_lines (take n bs) q.0 q.1 _ q.2

-- The lines of a text that is read to its end, or not.
use Rattle.std.proofs.Common.{◌≡◌, ℕ, ◌+◌, ◌<◌, ◌≤◌, Bool, true, false, not, cond, eqb, ltb, List, [], ◌∷◌, ◌++◌, length, map, refl, sym, ap, ◌∙◌, arith}
use Rattle.std.proofs.lemmas.List.{append-nil, nil_from_length}
use Rattle.std.proofs.lemmas.Bool.{lt-ltb, le-ltb, eqb-true, eqb-false}
use Rattle.std.specs.List.{onto_first}
use Rattle.vcm_num.specs.Lines.{whole_lines}
use Rattle.vcm_num.specs.declared.limits.TheConstants.{MOST_STATEMENTS}
use Rattle.vcm_num.proofs.WholeLines.{whole_nil}
use Rattle.vcm_survey.specs.Faults.{is_too_long}

-- at the end no line is left
none_left : (rest : List ℕ) → length rest ≡ 0 → whole_lines rest ≡ []
none_left rest e = ap whole_lines (nil_from_length rest e) ∙ whole_nil

-- all lines
pub all_lines : (lines all : List (List ℕ)) (rest : List ℕ) → length rest ≡ 0 → lines ++ whole_lines rest ≡ all → lines ≡ all
all_lines lines all rest e h = sym (append-nil lines) ∙ rw (none_left rest e) at h

first_there : (b : ℕ) (ls : List (List ℕ)) → 0 < length (onto_first b ls)
first_there b [] = omega arith
first_there b (l ∷ ls) = omega arith

one_there : (t : Bool) (b : ℕ) (ls : List (List ℕ)) → 0 < length (cond t ((b ∷ []) ∷ ls) (onto_first b ls))
one_there true b ls = omega arith
one_there false b ls = first_there b ls

-- else one is
some_left : (rest : List ℕ) → 0 < length rest → 0 < length (whole_lines rest)
unfolding whole_lines
some_left [] h = absurd (omega arith)
some_left (b ∷ bs) h = one_there (eqb b 10) b (whole_lines bs)

-- the text ends before its lines are too many
pub not_too_long : (text rest : List ℕ) (n : ℕ) → length rest ≡ 0 → n ≤ MOST_STATEMENTS → n + length (whole_lines rest) ≡ length (whole_lines text) → false ≡ is_too_long text
not_too_long text rest n e l h =
    let none = ap length (none_left rest e) in
    let few : length (whole_lines text) ≤ MOST_STATEMENTS = omega (arith, none, h, l) in
    sym (le-ltb MOST_STATEMENTS (length (whole_lines text)) few)

-- it goes on behind as many as there may be
pub too_long : (text rest : List ℕ) → 0 < length rest → MOST_STATEMENTS + length (whole_lines rest) ≡ length (whole_lines text) → true ≡ is_too_long text
too_long text rest l h =
    let one = some_left rest l in
    let many : MOST_STATEMENTS < length (whole_lines text) = omega (arith, one, h) in
    sym (lt-ltb MOST_STATEMENTS (length (whole_lines text)) many)

-- the last test tells which
last_test : (text rest : List ℕ) (e : Bool) → e ≡ eqb (length rest) 0 → MOST_STATEMENTS + length (whole_lines rest) ≡ length (whole_lines text) → not e ≡ is_too_long text
last_test text rest true e h = not_too_long text rest MOST_STATEMENTS (eqb-true (length rest) 0 (sym e)) (omega arith) h
last_test text rest false e h = too_long text rest (let some = eqb-false (length rest) 0 (sym e) in omega (arith, some)) h

pub told_so : (text rest : List ℕ) (n : ℕ) (e : Bool) → e ≡ eqb (length rest) 0 → n ≤ MOST_STATEMENTS → MOST_STATEMENTS ≤ n
    → n + length (whole_lines rest) ≡ length (whole_lines text) → not e ≡ is_too_long text
told_so text rest n e t l m h = last_test text rest e t (omega (arith, l, m, h))

-- Texts as lines: which of them begin with a digit, and that they are clear.
use Rattle.std.proofs.Common.{◌≡◌, ℕ, zero, suc, ◌==◌, Bool, true, false, List, [], ◌∷◌, ◌++◌, Option, Some, None, refl, sym, ap, ◌∙◌, subst, append_assoc, arith}
use Rattle.std.specs.Prelude.{if◌then◌else◌, ◌&&◌, not, nat_le, flat_map, codes}
use Rattle.std.specs.Char.{is_ascii_digit}
use Rattle.std.specs.List.{list_all, AllByRecursion}
use Rattle.std.proofs.lemmas.Bool.{and_from}
use Rattle.std.proofs.lemmas.List.Folds.{list_all-append}
use Rattle.vcm_report.specs.Printed.{in_a_row}
use Rattle.vcm_rows.specs.Rows.{rows_below}
use Rattle.vcm_story.specs.Laws.{is_clear, are_clear, is_kept, known_behind, digit_lines_from}
use Rattle.vcm_story.proofs.ReadTexts.{both}

-- ---- what is known behind a text

abbrev pub known_at_end : Option Bool → List ℕ → Option Bool
known_at_end known [] = known
known_at_end known (b ∷ bs) = known_at_end (known_behind known b) bs

-- where this is known, `kept` of the text stands in lines that begin with a digit, and this is known behind it; and it is clear
pub record Goes (known : Option Bool) (xs kept : List ℕ) (behind : Option Bool) : Type 0 where
  pub shown : digit_lines_from known xs ≡ kept
  pub ends : known_at_end known xs ≡ behind
  pub clear : are_clear xs ≡ true

lines_append : (known : Option Bool) (xs ys : List ℕ) → digit_lines_from known (xs ++ ys) ≡ digit_lines_from known xs ++ digit_lines_from (known_at_end known xs) ys
lines_append known [] ys = refl
lines_append known (b ∷ bs) ys =
    let here = if is_kept known b then b ∷ [] else [] in
    ap (λ l. here ++ l) (lines_append (known_behind known b) bs ys) ∙ sym (append_assoc here (digit_lines_from (known_behind known b) bs) (digit_lines_from (known_at_end known (b ∷ bs)) ys))

ends_append : (known : Option Bool) (xs ys : List ℕ) → known_at_end known (xs ++ ys) ≡ known_at_end (known_at_end known xs) ys
ends_append known [] ys = refl
ends_append known (b ∷ bs) ys = ends_append (known_behind known b) bs ys

pub two : {p q r : Option Bool} {xs ys k l : List ℕ} → Goes p xs k q → Goes q ys l r → Goes p (xs ++ ys) (k ++ l) r
two {p} {q} {r} {xs} {ys} {k} {l} h g = record {
  shown = lines_append p xs ys ∙ rw (h.ends, h.shown, g.shown) refl;
  ends = ends_append p xs ys ∙ rw h.ends g.ends;
  clear = list_all-append is_clear xs ys ∙ and_from _ _ h.clear g.clear;
}

-- ---- texts within a line

-- a printable byte other than <
abbrev pub is_inner : ℕ → Bool
is_inner b = nat_le 32 b && nat_le b 126 && not (b == 60)

pub record Inner (xs : List ℕ) : Type 0 where
  pub is : list_all is_inner xs ≡ true

pub inner : {xs : List ℕ} → list_all is_inner xs ≡ true → Inner xs
inner h = record { is = h }

pub join : (xs ys : List ℕ) → Inner xs → Inner ys → Inner (xs ++ ys)
join xs ys p q = record { is = list_all-append is_inner xs ys ∙ and_from _ _ p.is q.is }

pub in_row : (ts : List (List ℕ)) → AllByRecursion Inner ts → Inner (in_a_row ts)
in_row [] h = inner refl
in_row (t ∷ ts) h = join t (in_a_row ts) h.0 (in_row ts h.1)

pub each : {A : Type 0} (text : A → List ℕ) (xs : List A) → ((x : A) → Inner (text x)) → Inner (flat_map text xs)
each text [] h = inner refl
each text (x ∷ xs) h = join (text x) (flat_map text xs) (h x) (each text xs h)

pub either : (b : Bool) (xs ys : List ℕ) → Inner xs → Inner ys → Inner (if b then xs else ys)
either true xs ys p q = p
either false xs ys p q = q

pub no_end : (b : ℕ) → is_inner b ≡ true → (b == 10) ≡ false
no_end b e = grind (arith, e)

pub clear_inner : (b : ℕ) → is_inner b ≡ true → is_clear b ≡ true
clear_inner b e = grind (arith, e)

-- what of a text stands in such lines, by whether its line does
abbrev pub kept : Bool → List ℕ → List ℕ
kept true xs = xs
kept false xs = []

pub goes_in : (k : Bool) (xs : List ℕ) → Inner xs → Goes (Some k) xs (kept k xs) (Some k)
goes_in true [] h = record { shown = refl; ends = refl; clear = refl }
goes_in false [] h = record { shown = refl; ends = refl; clear = refl }
goes_in true (b ∷ bs) h =
    let p = both (is_inner b) (list_all is_inner bs) h.is in
    let more = goes_in true bs (inner p.1) in
    record { shown = rw (no_end b p.0) (ap (λ l. b ∷ l) more.shown); ends = rw (no_end b p.0) more.ends; clear = and_from _ _ (clear_inner b p.0) more.clear }
goes_in false (b ∷ bs) h =
    let p = both (is_inner b) (list_all is_inner bs) h.is in
    let more = goes_in false bs (inner p.1) in
    record { shown = rw (no_end b p.0) more.shown; ends = rw (no_end b p.0) more.ends; clear = and_from _ _ (clear_inner b p.0) more.clear }

-- ---- ends of lines

-- a text that ends the line in which it begins
pub record LineEnd (xs : List ℕ) : Type 0 where
  pub goes : (k : Bool) → Goes (Some k) xs (kept k xs) None

kept_two : (k : Bool) (xs ys : List ℕ) → kept k xs ++ kept k ys ≡ kept k (xs ++ ys)
kept_two true xs ys = refl
kept_two false xs ys = refl

newline : (k : Bool) → Goes (Some k) (codes "\n") (kept k (codes "\n")) None
newline true = record { shown = refl; ends = refl; clear = refl }
newline false = record { shown = refl; ends = refl; clear = refl }

pub end : LineEnd (codes "\n")
end = record { goes = newline }

pub onto : (xs ys : List ℕ) → Inner xs → LineEnd ys → LineEnd (xs ++ ys)
onto xs ys p q = record { goes = λ k. subst (λ l. Goes (Some k) (xs ++ ys) l None) (kept_two k xs ys) (two (goes_in k xs p) (q.goes k)) }

pub end_either : (b : Bool) (xs ys : List ℕ) → LineEnd xs → LineEnd ys → LineEnd (if b then xs else ys)
end_either true xs ys p q = p
end_either false xs ys p q = q

-- ---- whole lines

-- lines of which none begins with a digit
pub record Others (xs : List ℕ) : Type 0 where
  pub goes : Goes None xs [] None

-- whether a text may begin such a line
abbrev pub is_front : List ℕ → Bool
is_front [] = false
is_front (b ∷ bs) = (is_inner b && not (is_ascii_digit b)) && list_all is_inner bs

no_digit : (d : Bool) → not d ≡ true → d ≡ false
no_digit true e = absurd cc
no_digit false e = refl

-- a line behind its first byte
module _ (b : ℕ) (digit : Bool) (zs : List ℕ) (e : (b == 10) ≡ false) (f : is_ascii_digit b ≡ digit) where
  known_is : known_behind None b ≡ Some digit
  known_is = ap (λ t. if t then None else Some (is_ascii_digit b)) e ∙ ap Some f

  pub lines_behind : digit_lines_from None (b ∷ zs) ≡ (if digit then b ∷ [] else []) ++ digit_lines_from (Some digit) zs
  lines_behind =
      ap (λ t. (if t then b ∷ [] else []) ++ digit_lines_from (known_behind None b) zs) f
      ∙ ap (λ known. (if digit then b ∷ [] else []) ++ digit_lines_from known zs) known_is

  pub end_behind : known_at_end None (b ∷ zs) ≡ known_at_end (Some digit) zs
  end_behind = ap (λ known. known_at_end known zs) known_is

pub line : (front rest : List ℕ) → is_front front ≡ true → LineEnd rest → Others (front ++ rest)
line [] rest h g = absurd cc
line (b ∷ bs) rest h g =
    let p = both (is_inner b && not (is_ascii_digit b)) (list_all is_inner bs) h in
    let q = both (is_inner b) (not (is_ascii_digit b)) p.0 in
    let d = no_digit (is_ascii_digit b) q.1 in
    let more = (onto bs rest (inner p.1) g).goes false in
    record {
      goes = record {
        shown = lines_behind b false (bs ++ rest) (no_end b q.0) d ∙ more.shown;
        ends = end_behind b false (bs ++ rest) (no_end b q.0) d ∙ more.ends;
        clear = and_from _ _ (clear_inner b q.0) more.clear;
      };
    }

pub none : Others []
none = record { goes = record { shown = refl; ends = refl; clear = refl } }

pub others : (xs ys : List ℕ) → Others xs → Others ys → Others (xs ++ ys)
others xs ys p q = record { goes = two p.goes q.goes }

pub each_other : {A : Type 0} (row : A → List ℕ) (xs : List A) → ((x : A) → Others (row x)) → Others (flat_map row xs)
each_other row [] h = none
each_other row (x ∷ xs) h = others (row x) (flat_map row xs) (h x) (each_other row xs h)

pub below : (row : ℕ → List ℕ) (n : ℕ) → ((i : ℕ) → Others (row i)) → Others (rows_below row n)
below row zero h = none
below row (suc n) h = others (rows_below row n) (row n) (below row n h) (h n)

pub other_either : (b : Bool) (xs ys : List ℕ) → Others xs → Others ys → Others (if b then xs else ys)
other_either true xs ys p q = p
other_either false xs ys p q = q

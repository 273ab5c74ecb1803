-- A field in which no more than three digits stand behind a point stays as it is written.
use Rattle.std.proofs.Common.{◌≡◌, ℕ, suc, ◌==◌, ◌&&◌, ◌||◌, not, nat_le, nat_lt, Bool, true, false, List, [], ◌∷◌, ◌++◌, refl, sym, ap, ◌∙◌, append_assoc, append-nil, arith}
use Rattle.vcm_plain.specs.declared.fine.Class.{Class}
use Rattle.vcm_plain.specs.declared.fine.Class.TheVariants.{Digit, Letter, Point, Blank}
use Rattle.vcm_plain.specs.declared.fine.Stand.{Stand}
use Rattle.vcm_plain.specs.declared.fine.Stand.TheVariants.{Outside, Word, Dotted, Quoted, Whole, Pointed, Decimals}
use Rattle.vcm_plain.specs.Fine.{class_of, stand_behind, is_number, Figure, none_open, longer, more_places, ended, ended_by, out_by, behind_by, out_at, behind, exact_from, exact_text, run_behind, has_run, has_fine}

-- what is known of a number that isn't fine, where so many digits, and one for the point, stand behind the last point: how many of its decimals are counted
abbrev Tied : Stand → ℕ → ℕ → Type 0
Tied Decimals places run = run ≡ suc places
Tied Pointed places run = (places ≡ 0) × (run ≡ 1)
Tied s places run = places ≡ 0

-- ---- what is written

-- a number with one more byte has that byte
longer_bytes : (s : Stand) (k : Class) (n : Figure) (b : ℕ) → (longer s k n b).bytes ≡ n.bytes ++ b ∷ []
longer_bytes Whole Digit n b = refl
longer_bytes Decimals Digit n b = refl
longer_bytes s k n b = refl

-- a number that isn't fine ends as it is
ended_same : (n : Figure) → n.fine ≡ false → ended n ≡ n.bytes
ended_same n e = rw e refl

ended_by_same : (k : Class) (n : Figure) → n.fine ≡ false → ended_by k n ≡ n.bytes
ended_by_same Letter n e = refl
ended_by_same k n e = ended_same n e

-- so what is written and what is open are what was open, and the byte
same_bytes : (t : Bool) (s : Stand) (k : Class) (n : Figure) (b : ℕ) → n.fine ≡ false
    → out_by t k n b ++ (behind_by t s k n b).bytes ≡ n.bytes ++ b ∷ []
same_bytes true s k n b e = longer_bytes s k n b
same_bytes false s k n b e = append-nil (ended_by k n ++ b ∷ []) ∙ ap (λ bs. bs ++ b ∷ []) (ended_by_same k n e)

-- ---- what is known behind a byte

-- a number isn't fine behind one more decimal that is the third at most
still_coarse : (f : Bool) (places b run : ℕ) → f ≡ false → run ≡ suc places → nat_lt 4 (suc run) ≡ false → (f || (nat_le 3 places && not (b == 48))) ≡ false
still_coarse f places b run e tied small = grind arith

-- and it has as many decimals as digits were counted
still_tied : (places run : ℕ) → run ≡ suc places → nat_lt 4 (suc run) ≡ false → suc run ≡ suc (more_places places)
still_tied places run tied small = grind arith

-- where a point stands directly above, no digit is counted
started : (places run : ℕ) → (places ≡ 0) × (run ≡ 1) → run ≡ suc places
started places run t = t.1 ∙ ap suc (sym t.0)

-- so one more digit is counted behind it
counts : (run places : ℕ) → run ≡ suc places → run_behind run Digit ≡ suc run
counts run places tied = grind arith

counted : (run places : ℕ) → run ≡ suc places → nat_lt 4 (run_behind run Digit) ≡ false → nat_lt 4 (suc run) ≡ false
counted run places tied small = ap (nat_lt 4) (sym (counts run places tied)) ∙ small

-- bytes that are written, put before what comes behind them
put_before : (out next_open open_now : List ℕ) (b : ℕ) (bs written : List ℕ) → written ≡ next_open ++ bs → out ++ next_open ≡ open_now ++ b ∷ []
    → out ++ written ≡ open_now ++ b ∷ bs
put_before out next_open open_now b bs written e h = rw e (sym (append_assoc out next_open bs) ∙ ap (λ xs. xs ++ bs) h ∙ append_assoc open_now (b ∷ []) bs)

-- what is known of the number behind a byte
record Goes (n : Figure) (run : ℕ) : Type 0 where
  coarse : n.fine ≡ false
  tied : Tied n.stand n.places run

-- the number behind a byte of this class
abbrev next : Stand → Class → Figure → ℕ → Figure
next s k n b = behind_by (is_number (stand_behind s k)) (stand_behind s k) k n b

goes_on : (s : Stand) (k : Class) (n : Figure) (b run : ℕ) → n.fine ≡ false → Tied s n.places run → nat_lt 4 (run_behind run k) ≡ false
    → Goes (next s k n b) (run_behind run k)
goes_on Outside Digit n b run e t small = record { coarse = e; tied = t }
goes_on Outside Point n b run e t small = record { coarse = e; tied = (t, refl) }
goes_on Whole Digit n b run e t small = record { coarse = e; tied = t }
goes_on Whole Point n b run e t small = record { coarse = e; tied = (t, refl) }
goes_on Whole Blank n b run e t small = record { coarse = e; tied = t }
goes_on Pointed Digit n b run e t small = record {
  coarse = still_coarse n.fine n.places b run e (started n.places run t) (counted run n.places (started n.places run t) small);
  tied = counts run n.places (started n.places run t) ∙ still_tied n.places run (started n.places run t) (counted run n.places (started n.places run t) small);
}
goes_on Pointed Blank n b run e t small = record { coarse = e; tied = t }
goes_on Decimals Digit n b run e t small = record {
  coarse = still_coarse n.fine n.places b run e t (counted run n.places t small);
  tied = counts run n.places t ∙ still_tied n.places run t (counted run n.places t small);
}
goes_on Decimals Blank n b run e t small = record { coarse = e; tied = t }
goes_on Word Digit n b run e t small = record { coarse = refl; tied = refl }
goes_on Dotted Digit n b run e t small = record { coarse = refl; tied = refl }
goes_on Quoted Digit n b run e t small = record { coarse = refl; tied = refl }
goes_on s k n b run e t small = record { coarse = refl; tied = refl }

-- ---- fields

-- two tests that both fail
both_fail : (a b : Bool) → (a || b) ≡ false → (a ≡ false) × (b ≡ false)
both_fail false b e = (refl, e)
both_fail true b e = (e, grind (arith, e))

stays_from : (bs : List ℕ) (n : Figure) (run : ℕ) → Goes n run → has_run run bs ≡ false → exact_from n bs ≡ n.bytes ++ bs
stays_from [] n run g e = ended_same n g.coarse ∙ sym (append-nil n.bytes)
stays_from (b ∷ bs) n run g e =
    let small = both_fail (nat_lt 4 (run_behind run (class_of b))) (has_run (run_behind run (class_of b)) bs) e in
    let rest = stays_from bs (behind n b) (run_behind run (class_of b)) (goes_on n.stand (class_of b) n b run g.coarse g.tied small.0) small.1 in
    put_before (out_at n b) (behind n b).bytes n.bytes b bs (exact_from (behind n b) bs) rest
    (same_bytes (is_number (stand_behind n.stand (class_of b))) (stand_behind n.stand (class_of b)) (class_of b) n b g.coarse)

-- a field in which no more than three digits stand behind a point stays as it is written
pub stays : (bs : List ℕ) → has_fine bs ≡ false → exact_text bs ≡ bs
stays bs e = stays_from bs (none_open Outside) 0 (record { coarse = refl; tied = refl }) e

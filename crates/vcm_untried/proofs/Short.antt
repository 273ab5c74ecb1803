-- How much rows count.
use Rattle.std.proofs.Common.{◌≡◌, ℕ, suc, ◌+◌, ◌≤◌, Bool, true, false, List, [], ◌∷◌, ◌++◌, length, Option, Some, None, refl, arith}
use Rattle.std.specs.Prelude.{if◌then◌else◌}
use Rattle.vcm_remarks.specs.declared.remark.Cause.{Cause}
use Rattle.vcm_remarks.specs.declared.remark.Remark.{Remark}
use Rattle.vcm_remarks.specs.declared.remark.Remark.TheVariants.{NotTried, Approached, BeginsElsewhere, NotReported, AnotherTip, NotInFile, Loses, Ends}
use Rattle.vcm_remarks.specs.declared.remark.NumberedRemark.{NumberedRemark}
use Rattle.vcm_steps.specs.Passages.{Passage}
use Rattle.vcm_untried.specs.declared.about.About.{About}
use Rattle.vcm_untried.specs.declared.about.About.TheVariants as about
use Rattle.vcm_untried.specs.declared.rows.Row.{Row}
use Rattle.vcm_untried.specs.Causes.{cause_in, line_of, named}
use Rattle.vcm_untried.specs.Rows.{is_before, tells, row, add}
use Rattle.vcm_untried.specs.Telling.{Telling, told_as, told_if, told_one, told_behind, told_of, remark_on, nothing_told}
use Rattle.vcm_untried.specs.inner.Short.{AreAtMost}

pub at_more : (m n : ℕ) (rows : List Row) → m ≤ n → AreAtMost m rows → AreAtMost n rows
at_more m n [] l h = h
at_more m n (r ∷ rows) l h = (let a = h.0 in omega (arith, l, a), at_more m n rows l h.1)

-- one more reported
add_at_most : (about : About) (line n : ℕ) (rows : List Row) → AreAtMost n rows → AreAtMost (suc n) (add about line rows)
add_at_most about line n [] h = (omega arith, tt)
add_at_most about line n (r ∷ rows) h = by (is_before r about line) (tells r about line) (add_at_most about line n rows h.1)
  where
    by : (b c : Bool) → AreAtMost (suc n) (add about line rows)
        → AreAtMost (suc n) (if b then r ∷ add about line rows else if c then row r.about r.line (r.count + 1) ∷ rows else row about line 1 ∷ r ∷ rows)
    by true c next = (let a = h.0 in omega (arith, a), next)
    by false true next = (let a = h.0 in omega (arith, a), at_more n (suc n) rows (omega arith) h.1)
    by false false next = (omega arith, (let a = h.0 in omega (arith, a), at_more n (suc n) rows (omega arith) h.1))

as_at_most : (n : ℕ) (t : Telling) (what : Remark) (line : ℕ) (cause : Cause) → AreAtMost n t.rows → AreAtMost (suc n) (told_as t what line cause).rows
as_at_most n t NotTried line cause h = add_at_most (about.NotTried (named t.lost cause) (line_of t.lost cause)) line n t.rows h
as_at_most n t BeginsElsewhere line cause h = add_at_most about.BeginsElsewhere line n t.rows h
as_at_most n t Approached line cause h = add_at_most about.Approached line n t.rows h
as_at_most n t NotReported line cause h = add_at_most about.NotReported line n t.rows h
as_at_most n t AnotherTip line cause h = add_at_most about.AnotherTip line n t.rows h
as_at_most n t NotInFile line cause h = add_at_most about.NotInFile line n t.rows h
as_at_most n t (Loses what) line cause h = at_more n (suc n) t.rows (omega arith) h
as_at_most n t Ends line cause h = at_more n (suc n) t.rows (omega arith) h

if_at_most : (n : ℕ) (t : Telling) (o : Option NumberedRemark) (cause : Cause) → AreAtMost n t.rows → AreAtMost (suc n) (told_if t o cause).rows
if_at_most n t None cause h = at_more n (suc n) t.rows (omega arith) h
if_at_most n t (Some r) cause h = as_at_most n t r.remark r.line cause h

behind_at_most : (remarks : List NumberedRemark) (n : ℕ) (t : Telling) (ps : List Passage) → AreAtMost n t.rows → AreAtMost (n + length ps) (told_behind remarks t ps).rows
behind_at_most remarks n t [] h = at_more n (n + 0) t.rows (omega arith) h
behind_at_most remarks n t (p ∷ ps) h =
    at_more (suc n + length ps) (n + suc (length ps)) (told_behind remarks (told_one remarks t p) ps).rows (omega arith)
    (behind_at_most remarks (suc n) (told_one remarks t p) ps (if_at_most n t (remark_on remarks p.number) (cause_in p.before.variables) h))

-- no row counts more than there were steps
pub of_at_most : (remarks : List NumberedRemark) (ps : List Passage) → AreAtMost (length ps) (told_of remarks ps).rows
of_at_most remarks ps = at_more (0 + length ps) (length ps) (told_of remarks ps).rows (omega arith) (behind_at_most remarks 0 nothing_told ps tt)

pub behind_more : (remarks : List NumberedRemark) (t : Telling) (ps : List Passage) (p : Passage)
    → told_behind remarks t (ps ++ p ∷ []) ≡ told_one remarks (told_behind remarks t ps) p
behind_more remarks t [] p = refl
behind_more remarks t (q ∷ ps) p = behind_more remarks (told_one remarks t q) ps p

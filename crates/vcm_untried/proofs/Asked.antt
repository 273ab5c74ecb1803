-- How often what is asked for is reported.
use Rattle.std.proofs.Common.{◌≡◌, ℕ, ◌+◌, ◌≤◌, Bool, true, false, List, [], ◌∷◌, length, Option, Some, None, refl, ap, ◌∙◌, arith}
use Rattle.std.specs.Prelude.{if◌then◌else◌}
use Rattle.vcm_remarks.specs.declared.remark.Cause.{Cause}
use Rattle.vcm_remarks.specs.declared.remark.Remark.{Remark}
use Rattle.vcm_remarks.specs.declared.remark.Remark.TheVariants.{NotTried, Approached, BeginsElsewhere, NotReported, AnotherTip, NotInFile, Loses, Ends}
use Rattle.vcm_remarks.specs.declared.remark.NumberedRemark.{NumberedRemark}
use Rattle.vcm_steps.specs.Passages.{Passage}
use Rattle.vcm_untried.specs.declared.about.About.{About}
use Rattle.vcm_untried.specs.declared.about.About.TheVariants as about
use Rattle.vcm_untried.specs.declared.rows.Row.{Row}
use Rattle.vcm_untried.specs.Causes.{cause_in, line_of, named}
use Rattle.vcm_untried.specs.Rows.{is_before, tells, row, add}
use Rattle.vcm_untried.specs.Telling.{Telling, told_as, told_if, told_one, told_behind, told_of, remark_on, nothing_told}
use Rattle.vcm_untried.specs.Laws.{told_now, once_if, asked_on, asked_behind, asked_in, EachStepIsTold}
use Rattle.vcm_untried.proofs.Same.{told_is}

module _ (asked : About → ℕ → Bool) where
  -- what a row with these reports
  abbrev part : About → ℕ → ℕ → ℕ
  part what line count = if asked what line then count else 0

  part_more : (b : Bool) (n : ℕ) → (if b then n + 1 else 0) ≡ (if b then 1 else 0) + (if b then n else 0)
  part_more true n = omega arith
  part_more false n = omega arith

  -- one more reported is one more counted
  add_asked : (what : About) (line : ℕ) (rows : List Row) → asked_in asked (add what line rows) ≡ part what line 1 + asked_in asked rows
  add_asked what line [] = refl
  add_asked what line (r ∷ rows) = by (is_before r what line) (tells r what line) refl (add_asked what line rows)
    where
      by : (b c : Bool) → tells r what line ≡ c → asked_in asked (add what line rows) ≡ part what line 1 + asked_in asked rows
          → asked_in asked (if b then r ∷ add what line rows else if c then row r.about r.line (r.count + 1) ∷ rows else row what line 1 ∷ r ∷ rows)
          ≡ part what line 1 + (part r.about r.line r.count + asked_in asked rows)
      by true c t next = omega (arith, next)
      by false true t next =
          let p = told_is r.line line r.about what t in
          let one = part_more (asked r.about r.line) r.count in
          let same_part : part r.about r.line 1 ≡ part what line 1 = ap (λ l. part r.about l 1) p.0 ∙ ap (λ a. part a line 1) p.1 in
          omega (arith, one, same_part)
      by false false t next = refl

  as_asked : (t : Telling) (what : Remark) (line : ℕ) (cause : Cause)
      → asked_in asked (told_as t what line cause).rows ≡ once_if asked (told_now t.lost what cause) line + asked_in asked t.rows
  as_asked t NotTried line cause = add_asked (about.NotTried (named t.lost cause) (line_of t.lost cause)) line t.rows
  as_asked t BeginsElsewhere line cause = add_asked about.BeginsElsewhere line t.rows
  as_asked t Approached line cause = add_asked about.Approached line t.rows
  as_asked t NotReported line cause = add_asked about.NotReported line t.rows
  as_asked t AnotherTip line cause = add_asked about.AnotherTip line t.rows
  as_asked t NotInFile line cause = add_asked about.NotInFile line t.rows
  as_asked t (Loses what) line cause = omega arith
  as_asked t Ends line cause = omega arith

  if_asked : (t : Telling) (o : Option NumberedRemark) (cause : Cause) → asked_in asked (told_if t o cause).rows ≡ asked_on asked t.lost o cause + asked_in asked t.rows
  if_asked t None cause = omega arith
  if_asked t (Some r) cause = as_asked t r.remark r.line cause

  behind_asked : (remarks : List NumberedRemark) (t : Telling) (ps : List Passage)
      → asked_in asked (told_behind remarks t ps).rows ≡ asked_behind asked remarks t ps + asked_in asked t.rows
  behind_asked remarks t [] = omega arith
  behind_asked remarks t (p ∷ ps) =
      let next = behind_asked remarks (told_one remarks t p) ps in
      let one = if_asked t (remark_on remarks p.number) (cause_in p.before.variables) in
      omega (arith, next, one)

  pub of_asked : (remarks : List NumberedRemark) (ps : List Passage) → asked_in asked (told_of remarks ps).rows ≡ asked_behind asked remarks nothing_told ps
  of_asked remarks ps = let e = behind_asked remarks nothing_told ps in omega (arith, e)

  -- each step reports it at most once
  once_most : (o : Option About) (line : ℕ) → once_if asked o line ≤ 1
  once_most None line = omega arith
  once_most (Some what) line = by (asked what line)
    where
      by : (b : Bool) → (if b then 1 else 0) ≤ 1
      by true = omega arith
      by false = omega arith

  on_most : (lost : List ℕ) (o : Option NumberedRemark) (cause : Cause) → asked_on asked lost o cause ≤ 1
  on_most lost None cause = omega arith
  on_most lost (Some r) cause = once_most (told_now lost r.remark cause) r.line

  pub behind_most : (remarks : List NumberedRemark) (t : Telling) (ps : List Passage) → asked_behind asked remarks t ps ≤ length ps
  behind_most remarks t [] = omega arith
  behind_most remarks t (p ∷ ps) =
      let one = on_most t.lost (remark_on remarks p.number) (cause_in p.before.variables) in
      let next = behind_most remarks (told_one remarks t p) ps in
      omega (arith, one, next)

pub each_step_is_told : EachStepIsTold
each_step_is_told asked remarks ps = of_asked asked remarks ps

-- rows count no more than there are steps
pub rows_most : (remarks : List NumberedRemark) (ps : List Passage) → asked_in (λ what line. true) (told_of remarks ps).rows ≤ length ps
rows_most remarks ps =
    let e = of_asked (λ what line. true) remarks ps in
    let l = behind_most (λ what line. true) remarks nothing_told ps in
    omega (arith, e, l)

-- Where nothing is reported.
use Rattle.std.proofs.Common.{◌≡◌, ℕ, ◌+◌, Bool, true, false, ◌&&◌, List, [], ◌∷◌, Option, Some, None, refl, ap, ◌∙◌}
use Rattle.std.specs.Prelude.{if◌then◌else◌}
use Rattle.vcm_remarks.specs.declared.remark.Cause.{Cause}
use Rattle.vcm_remarks.specs.declared.remark.Remark.{Remark}
use Rattle.vcm_remarks.specs.declared.remark.Remark.TheVariants.{NotTried, Approached, BeginsElsewhere, NotReported, AnotherTip, NotInFile, Loses, Ends}
use Rattle.vcm_remarks.specs.declared.remark.NumberedRemark.{NumberedRemark}
use Rattle.vcm_steps.specs.Passages.{Passage}
use Rattle.vcm_untried.specs.declared.about.About.{About}
use Rattle.vcm_untried.specs.declared.about.About.TheVariants as about
use Rattle.vcm_untried.specs.declared.rows.Row.{Row}
use Rattle.vcm_untried.specs.Causes.{cause_in, line_of, named}
use Rattle.vcm_untried.specs.Rows.{is_before, tells, row, add}
use Rattle.vcm_untried.specs.Telling.{Telling, first_line, told_as, told_if, told_one, told_behind, remark_on, nothing_told}
use Rattle.vcm_untried.specs.Lines.{is_none, no_end, all_tried}
use Rattle.vcm_untried.specs.Laws.{says_nothing, is_tried_on, are_tried, AllIsTried}

some_added : (what : About) (line : ℕ) (rows : List Row) → is_none (add what line rows) ≡ false
some_added what line [] = refl
some_added what line (r ∷ rows) = by (is_before r what line) (tells r what line)
  where
    by : (b c : Bool) → is_none (if b then r ∷ add what line rows else if c then row r.about r.line (r.count + 1) ∷ rows else row what line 1 ∷ r ∷ rows) ≡ false
    by true c = refl
    by false true = refl
    by false false = refl

not_rows : (rows : List Row) (end : Option ℕ) → is_none rows ≡ false → (is_none rows && no_end end) ≡ false
not_rows rows end e = ap (λ b. b && no_end end) e

not_end : (b : Bool) (end : Option ℕ) (line : ℕ) → (b && no_end (first_line end line)) ≡ false
not_end true None line = refl
not_end true (Some first) line = refl
not_end false end line = refl

as_tried : (t : Telling) (what : Remark) (line : ℕ) (cause : Cause) → all_tried (told_as t what line cause) ≡ (if says_nothing what then all_tried t else false)
as_tried t NotTried line cause =
    not_rows (add (about.NotTried (named t.lost cause) (line_of t.lost cause)) line t.rows) t.end (some_added (about.NotTried (named t.lost cause) (line_of t.lost cause)) line t.rows)
as_tried t BeginsElsewhere line cause = not_rows (add about.BeginsElsewhere line t.rows) t.end (some_added about.BeginsElsewhere line t.rows)
as_tried t Approached line cause = not_rows (add about.Approached line t.rows) t.end (some_added about.Approached line t.rows)
as_tried t NotReported line cause = not_rows (add about.NotReported line t.rows) t.end (some_added about.NotReported line t.rows)
as_tried t AnotherTip line cause = not_rows (add about.AnotherTip line t.rows) t.end (some_added about.AnotherTip line t.rows)
as_tried t NotInFile line cause = not_rows (add about.NotInFile line t.rows) t.end (some_added about.NotInFile line t.rows)
as_tried t (Loses what) line cause = refl
as_tried t Ends line cause = not_end (is_none t.rows) t.end line

if_tried : (t : Telling) (o : Option NumberedRemark) (cause : Cause) → all_tried (told_if t o cause) ≡ (if is_tried_on o then all_tried t else false)
if_tried t None cause = refl
if_tried t (Some r) cause = as_tried t r.remark r.line cause

behind_tried : (remarks : List NumberedRemark) (t : Telling) (ps : List Passage) → all_tried (told_behind remarks t ps) ≡ (if are_tried remarks ps then all_tried t else false)
behind_tried remarks t [] = refl
behind_tried remarks t (p ∷ ps) =
    behind_tried remarks (told_one remarks t p) ps
    ∙ ap (λ b. if are_tried remarks ps then b else false) (if_tried t (remark_on remarks p.number) (cause_in p.before.variables))
    ∙ by (are_tried remarks ps) (is_tried_on (remark_on remarks p.number))
  where
    by : (a b : Bool) → (if a then (if b then all_tried t else false) else false) ≡ (if (if b then a else false) then all_tried t else false)
    by true true = refl
    by true false = refl
    by false true = refl
    by false false = refl

pub all_is_tried : AllIsTried
all_is_tried remarks ps = behind_tried remarks nothing_told ps ∙ by (are_tried remarks ps)
  where
    by : (b : Bool) → (if b then true else false) ≡ b
    by true = refl
    by false = refl

-- What the lines of groups report.
use Rattle.std.proofs.Common.{◌≡◌, ℕ, ◌+◌, ◌<◌, ◌^◌, Bool, true, false, List, [], ◌∷◌, length, Option, Some, None, refl, sym, ap, ◌∙◌, arith}
use Rattle.std.specs.Prelude.{if◌then◌else◌}
use Rattle.vcm_remarks.specs.declared.remark.Cause.{Cause}
use Rattle.vcm_remarks.specs.declared.remark.Remark.{Remark}
use Rattle.vcm_remarks.specs.declared.remark.Remark.TheVariants.{NotTried, Approached, BeginsElsewhere, NotReported, AnotherTip, NotInFile, Loses, Ends}
use Rattle.vcm_remarks.specs.declared.remark.NumberedRemark.{NumberedRemark}
use Rattle.vcm_steps.specs.Passages.{Passage}
use Rattle.vcm_untried.specs.declared.about.About.{About}
use Rattle.vcm_untried.specs.declared.rows.Row.{Row}
use Rattle.vcm_untried.specs.declared.groups.Group.{Group}
use Rattle.vcm_untried.specs.About.{same}
use Rattle.vcm_untried.specs.Causes.{cause_in}
use Rattle.vcm_untried.specs.Telling.{Telling, told_one, told_of, remark_on, nothing_told}
use Rattle.vcm_untried.specs.Groups.{group, both, is_first, add_total, totals_from, placed, ordered_from, groups_of}
use Rattle.vcm_untried.specs.Laws.{told_now, once_if, asked_on, asked_behind, asked_in, is_untried, says_untried, is_untried_on, untried_steps, untried_total, total_of, LinesTellAllSteps, GroupsAreSums}
use Rattle.vcm_untried.proofs.Same.{same_is}
use Rattle.vcm_untried.proofs.Asked.{of_asked, rows_most}

-- how often groups report what is asked for
abbrev weight : (About → Bool) → List Group → ℕ
weight asked [] = 0
weight asked (g ∷ groups) = (if asked g.about then g.total else 0) + weight asked groups

abbrev whole : List Group → ℕ
whole groups = weight (λ what. true) groups

module _ (asked : About → Bool) where
  abbrev part : About → ℕ → ℕ
  part what count = if asked what then count else 0

  part_more : (b : Bool) (m n : ℕ) → (if b then m + n else 0) ≡ (if b then n else 0) + (if b then m else 0)
  part_more true m n = omega arith
  part_more false m n = omega arith

  add_weight : (what : About) (count : ℕ) (groups : List Group) → whole groups + count < 2 ^ 64
      → weight asked (add_total what count groups) ≡ part what count + weight asked groups
  add_weight what count [] few = refl
  add_weight what count (g ∷ groups) few = by (same g.about what) refl (add_weight what count groups (omega (arith, few)))
    where
      by : (b : Bool) → same g.about what ≡ b → weight asked (add_total what count groups) ≡ part what count + weight asked groups
          → weight asked (if b then group g.about (both g.total count) ∷ groups else g ∷ add_total what count groups)
          ≡ part what count + (part g.about g.total + weight asked groups)
      by true e next =
          let sum : both g.total count ≡ g.total + count = omega (arith, few) in
          let one = ap (part g.about) sum ∙ part_more (asked g.about) g.total count in
          let is : part g.about count ≡ part what count = ap (λ a. part a count) (same_is g.about what e) in
          omega (arith, one, is)
      by false e next = omega (arith, next)

  placed_weight : (g : Group) (groups : List Group) → weight asked (placed g groups) ≡ part g.about g.total + weight asked groups
  placed_weight g [] = refl
  placed_weight g (h ∷ groups) = by (is_first g h) (placed_weight g groups)
    where
      by : (b : Bool) → weight asked (placed g groups) ≡ part g.about g.total + weight asked groups
          → weight asked (if b then g ∷ h ∷ groups else h ∷ placed g groups) ≡ part g.about g.total + (part h.about h.total + weight asked groups)
      by true next = refl
      by false next = omega (arith, next)

  ordered_weight : (all groups : List Group) → weight asked (ordered_from all groups) ≡ weight asked all + weight asked groups
  ordered_weight all [] = omega arith
  ordered_weight all (g ∷ groups) =
      let next = ordered_weight (placed g all) groups in
      let one = placed_weight g all in
      omega (arith, next, one)

module _ (asked : About → Bool) where
  totals_weight : (groups : List Group) (rows : List Row) → whole groups + asked_in (λ what line. true) rows < 2 ^ 64
      → weight asked (totals_from groups rows) ≡ weight asked groups + asked_in (λ what line. asked what) rows
  totals_weight groups [] few = omega arith
  totals_weight groups (r ∷ rows) few =
      let one = add_weight asked r.about r.count groups (omega (arith, few)) in
      let all = add_weight (λ what. true) r.about r.count groups (omega (arith, few)) in
      let next = totals_weight (add_total r.about r.count groups) rows (omega (arith, few, all)) in
      omega (arith, one, next)

  pub groups_weight : (rows : List Row) → asked_in (λ what line. true) rows < 2 ^ 64 → weight asked (groups_of rows) ≡ asked_in (λ what line. asked what) rows
  groups_weight rows few =
      let e = ordered_weight asked [] (totals_from [] rows) in
      let f = totals_weight [] rows (omega (arith, few)) in
      omega (arith, e, f)

  -- those of steps
  pub told_weight : (remarks : List NumberedRemark) (ps : List Passage) → length ps < 2 ^ 64
      → weight asked (groups_of (told_of remarks ps).rows) ≡ asked_in (λ what line. asked what) (told_of remarks ps).rows
  told_weight remarks ps few = let l = rows_most remarks ps in groups_weight (told_of remarks ps).rows (omega (arith, few, l))

total_weight : (what : About) (groups : List Group) → weight (λ x. same x what) groups ≡ total_of what groups
total_weight what [] = refl
total_weight what (g ∷ groups) = ap (λ n. (if same g.about what then g.total else 0) + n) (total_weight what groups)

pub groups_are_sums : GroupsAreSums
groups_are_sums remarks ps few what = sym (total_weight what (groups_of (told_of remarks ps).rows)) ∙ told_weight (λ x. same x what) remarks ps few

-- ---- motions that aren't tried

untried_weight : (groups : List Group) → weight is_untried groups ≡ untried_total groups
untried_weight [] = refl
untried_weight (g ∷ groups) = ap (λ n. (if is_untried g.about then g.total else 0) + n) (untried_weight groups)

abbrev asks : About → ℕ → Bool
asks what line = is_untried what

now_untried : (lost : List ℕ) (what : Remark) (line : ℕ) (cause : Cause) → once_if asks (told_now lost what cause) line ≡ (if says_untried what then 1 else 0)
now_untried lost NotTried line cause = refl
now_untried lost BeginsElsewhere line cause = refl
now_untried lost Approached line cause = refl
now_untried lost NotReported line cause = refl
now_untried lost AnotherTip line cause = refl
now_untried lost NotInFile line cause = refl
now_untried lost (Loses what) line cause = refl
now_untried lost Ends line cause = refl

on_untried : (lost : List ℕ) (o : Option NumberedRemark) (cause : Cause) → asked_on asks lost o cause ≡ (if is_untried_on o then 1 else 0)
on_untried lost None cause = refl
on_untried lost (Some r) cause = now_untried lost r.remark r.line cause

behind_untried : (remarks : List NumberedRemark) (t : Telling) (ps : List Passage) → asked_behind asks remarks t ps ≡ untried_steps remarks ps
behind_untried remarks t [] = refl
behind_untried remarks t (p ∷ ps) =
    let one = on_untried t.lost (remark_on remarks p.number) (cause_in p.before.variables) in
    let next = behind_untried remarks (told_one remarks t p) ps in
    omega (arith, one, next)

pub lines_tell_all_steps : LinesTellAllSteps
lines_tell_all_steps remarks ps few =
    sym (untried_weight (groups_of (told_of remarks ps).rows)) ∙ told_weight is_untried remarks ps few ∙ of_asked asks remarks ps
    ∙ behind_untried remarks nothing_told ps

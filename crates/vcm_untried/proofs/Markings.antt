-- What is marked behind steps.
use Rattle.std.proofs.Common.{◌≡◌, ℕ, true, false, List, [], ◌∷◌, ◌++◌, length, Option, refl, sym, ap, ◌∙◌, append-nil}
use Rattle.std.specs.Prelude.{if◌then◌else◌, option_and_then}
use Rattle.vcm_spec.specs.Effect.{at_index}
use Rattle.vcm_spec.specs.Workpiece.{Workpiece}
use Rattle.vcm_code.specs.declared.code.Code.{Code}
use Rattle.vcm_remarks.specs.declared.remark.NumberedRemark.{NumberedRemark}
use Rattle.vcm_steps.specs.Passages.{Passage, passages}
use Rattle.vcm_untried.specs.declared.marking.Marking.{Marking}
use Rattle.vcm_untried.specs.Causes.{cause_in}
use Rattle.vcm_untried.specs.Elsewhere.{is_way}
use Rattle.vcm_untried.specs.declared.known.Known.{Known}
use Rattle.vcm_untried.specs.Known.{known_in, is_same}
use Rattle.vcm_untried.specs.Marking.{Marks, marks_in, unmarked, marked_if, gone_by, learned, known_by, marked_one, marked_behind, marks_of}
use Rattle.vcm_untried.specs.Telling.{remark_on}
use Rattle.vcm_untried.specs.inner.Following.{AreWithin, tabled}
use Rattle.vcm_untried.specs.inner.Marking.{IsMarking, HasMarked}
use Rattle.vcm_untried.proofs.Kept.{within_front}
use Rattle.vcm_untried.proofs.Tables.{unlike, get_ranged, length_ranged}

-- a way was gone that begins elsewhere
pub gone_elsewhere : (m : Marks) (step : ℕ) → m.begins ≡ true → record m { elsewhere = m.elsewhere ++ step ∷ []; begins = false } ≡ gone_by m step true
gone_elsewhere m step h = ap (λ b. record m { elsewhere = m.elsewhere ++ (if b then step ∷ [] else []); begins = false }) (sym h)

-- and one that doesn't
pub gone_there : (m : Marks) (step : ℕ) → m.begins ≡ false → record m { begins = false } ≡ gone_by m step true
gone_there m step h =
    ap (λ l. record m { elsewhere = l; begins = false }) (sym (append-nil m.elsewhere))
    ∙ ap (λ b. record m { elsewhere = m.elsewhere ++ (if b then step ∷ [] else []); begins = false }) (sym h)

-- the same is known
pub known_still : (m : Marks) (step line : ℕ) (k : Known) → (line ≡ 1 → ⊥) → is_same m.known k ≡ true → m ≡ known_by m step line k
known_still m step line k h e = rw (unlike line 1 h, e) refl

-- something else is
pub known_else : (m : Marks) (step line : ℕ) (k : Known) → (line ≡ 1 → ⊥) → is_same m.known k ≡ false → learned m step k ≡ known_by m step line k
known_else m step line k h e = rw (unlike line 1 h, e) refl

behind_more : (remarks : List NumberedRemark) (m : Marks) (ps : List Passage) (p : Passage)
    → marked_behind remarks m (ps ++ p ∷ []) ≡ marked_one remarks (marked_behind remarks m ps) p
behind_more remarks m [] p = refl
behind_more remarks m (q ∷ ps) p = behind_more remarks (marked_one remarks m q) ps p

-- one step more
module _ (remarks : List NumberedRemark) (table : List (Option NumberedRemark)) (from old new : Marking) (ps : List Passage) (p : Passage)
    (has : HasMarked remarks table from old ps)
    (one : marks_in new
    ≡ known_by (gone_by (marked_if (marks_in old) p.count (at_index table p.number) (cause_in p.before.variables)) p.count (is_way p.statement.op))
    p.count p.statement.line (known_in p.after.variables)) where
  abbrev marked_on : Marks → Option NumberedRemark → Marks
  marked_on m o =
      known_by (gone_by (marked_if m p.count o (cause_in p.before.variables)) p.count (is_way p.statement.op)) p.count p.statement.line (known_in p.after.variables)

  pub one_more : HasMarked remarks table from new (ps ++ p ∷ [])
  one_more is =
      let within = within_front (length table) ps p is.within in
      let on : at_index table p.number ≡ remark_on remarks p.number =
      ap (λ t. at_index t p.number) is.table_is ∙ ap (λ o. option_and_then (λ x. x) o) (get_ranged (remark_on remarks) (length table) p.number within.1) in
      one
      ∙ ap (marked_on (marks_in old)) on
      ∙ ap (λ m. marked_on m (remark_on remarks p.number)) (has (record { table_is = is.table_is; within = within.0 }))
      ∙ sym (behind_more remarks (marks_in from) ps p)

-- a run of so many steps, all of which were marked
pub all_marked : (remarks : List NumberedRemark) (part : Workpiece) (c : Code) (n done : ℕ) (to : Marking) → passages part c done ≡ passages part c n
    → marks_in to ≡ marked_behind remarks unmarked (passages part c done) → marks_in to ≡ marks_of remarks part c n
all_marked remarks part c n done to whole is = is ∙ ap (marked_behind remarks unmarked) whole

-- the table of the remarks on as many statements as a code has marks a run of it
pub marking_run : (remarks : List NumberedRemark) (table : List (Option NumberedRemark)) (k : ℕ) (ps : List Passage) → table ≡ tabled remarks k → AreWithin k ps
    → IsMarking remarks table ps
marking_run remarks table k ps e within =
    let long : length table ≡ k = ap length e ∙ length_ranged (remark_on remarks) 0 k in
    record { table_is = e ∙ ap (tabled remarks) (sym long); within = rw long within }

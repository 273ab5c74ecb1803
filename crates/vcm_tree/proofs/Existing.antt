-- Statements that break no rule of names and blocks are a program.
use Rattle.std.proofs.Common.{◌≡◌, List, [], ◌∷◌, ◌++◌, true, Some, Ok, refl, sym, ap, ◌∙◌, subst, append_assoc}
use Rattle.std.specs.Prelude.{IsTrue}
use Rattle.std.proofs.lemmas.List.{append-nil}
use Rattle.vcm_spec.specs.Phase.{IsClean}
use Rattle.vcm_spec.specs.Program.{done}
use Rattle.vcm_forms.specs.declared.statement.Statement.{Statement}
use Rattle.vcm_macro.specs.declared.placed.Placed.{Placed}
use Rattle.vcm_program.specs.Program.{Parsed}
use Rattle.vcm_tree.specs.Ended.{is_ended}
use Rattle.vcm_tree.specs.Program.{IsParsed, tables_of, notices_of}
use Rattle.vcm_tree.specs.Blocks.{Behind}
use Rattle.vcm_tree.specs.Resolving.{Meaning, Silent, Declares, Counts, resolved_here, behind_one, behind_all, start, sentences_by, sentences_from, BreaksNames}
use Rattle.vcm_tree.specs.inner.Growing.{Growing, inside, grown_by, kinds, written}
use Rattle.vcm_tree.proofs.GrownBlocks.{fits, grown_on, grown_fits, all_shut}
use Rattle.vcm_tree.proofs.Stated.{IsStated, meant}
use Rattle.vcm_tree.proofs.Walking.{AllMean, all_mean, last_shuts}

-- what a statement makes of what is read, if it has a meaning
reach_one : (g : Growing) (b : Behind) (s : Placed) (m : Meaning) → resolved_here b s ≡ Ok m → kinds g ≡ b.blocks → (h : Growing) × (grown_by g s.statement.line (resolved_here b s) ≡ Some h)
reach_one g b s m e k = (let one = by m (meant b s m e) in (one.0, ap (grown_by g s.statement.line) e ∙ one.1))
  where
    by : (n : Meaning) → IsStated b s.expansion s.statement.form n → (h : Growing) × (grown_by g s.statement.line (Ok n) ≡ Some h)
    by Silent t = (g, refl)
    by (Declares ws) t = (g, refl)
    by (Counts p) t = grown_fits g s.statement.line p (subst (λ bs. fits bs p ≡ true) (sym k) t.step.fits)

reach_all : (g : Growing) (b : Behind) (ss : List Placed) → AllMean b ss → kinds g ≡ b.blocks
    → (h : Growing) × (written h ≡ written g ++ sentences_from b ss) × (kinds h ≡ (behind_all b ss).blocks)
reach_all g b [] h k = (g, sym (append-nil (written g)), k)
reach_all g b (s ∷ ss) h k =
    let one = reach_one g b s h.0.0 h.0.1 k in
    let on = grown_on b g one.0 s.statement.form s.statement.line (resolved_here b s) k one.1 in
    let rest = reach_all one.0 (behind_one b s) ss h.1 on.1 in (
      rest.0,
      rest.1 ∙ ap (λ l. l ++ sentences_from (behind_one b s) ss) on.0 ∙ append_assoc (written g) (sentences_by s.statement.line (resolved_here b s)) (sentences_from (behind_one b s) ss),
      rest.2,
    )

pub program_exists : (ss : List Statement) (all : List Placed) → IsTrue (is_ended all) → IsClean BreaksNames all → (p : Parsed) × IsParsed ss all p
program_exists ss all last clean =
    let mean = all_mean [] all clean in
    let r = reach_all (inside [] done) start all mean refl in (
      record { program = r.0.block; tables = tables_of (behind_all start all); notices = notices_of ss },
      record { program = sym (all_shut r.0 (r.2 ∙ last_shuts start all last mean)) ∙ r.1; tables = refl; notices = refl },
    )

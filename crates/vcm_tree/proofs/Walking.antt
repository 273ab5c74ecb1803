-- The walk over the statements whose names are looked up, one more at a time.
use Rattle.std.proofs.Common.{◌≡◌, ℕ, zero, suc, ◌+◌, ◌≤◌, true, List, [], ◌∷◌, ◌++◌, length, take, drop, Option, Result, Ok, Err, refl, sym, ap, ◌∙◌, subst, append_assoc, inl, inr, arith}
use Rattle.std.specs.Prelude.{IsTrue}
use Rattle.std.proofs.lemmas.List.{append-nil, take_all}
use Rattle.vcm_lines.specs.declared.fault.FaultCode.{FaultCode}
use Rattle.vcm_lines.specs.declared.fault.SourceFault.{SourceFault}
use Rattle.vcm_lines.specs.Fault.{NoMemoryOr}
use Rattle.vcm_spec.specs.Phase.{IsClean, FirstFault}
use Rattle.vcm_spec.proofs.PhaseLemmas.{place_at, clean_more, clean_done, fault_at}
use Rattle.vcm_forms.specs.declared.statement.Statement.{Statement}
use Rattle.vcm_macro.specs.declared.placed.Placed.{Placed}
use Rattle.vcm_spec.specs.Program.{Label}
use Rattle.vcm_spec.specs.Setup.{Variable}
use Rattle.vcm_tree.specs.declared.selection.Selection.{Selection}
use Rattle.vcm_tree.specs.declared.taking.Progress.{Progress}
use Rattle.vcm_tree.specs.Ended.{is_ended}
use Rattle.vcm_tree.specs.Blocks.{Behind, behind, Opened, Measured}
use Rattle.vcm_tree.specs.Resolving.{Meaning, resolved_here, behind_by, behind_one, behind_all, start, sentences_by, sentences_from, BreaksNames, names_line}
use Rattle.vcm_program.specs.Telling.{ToldAt}
use Rattle.vcm_tree.specs.Program.{IsParsed, tables_of, notices_of}
use Rattle.vcm_tree.specs.inner.Growing.{growing, kinds, written}
use Rattle.vcm_tree.specs.inner.Taking.{measured_of, behind_with, Takes}
use Rattle.vcm_tree.specs.inner.Walking.{IsWalked}
use Rattle.vcm_tree.proofs.GrownBlocks.{grown_on, grown_means, all_shut}
use Rattle.vcm_tree.proofs.Stated.{measured_is, meant, ending_meant}
use Rattle.vcm_tree.proofs.Cutting.{place}

pub behind_push : (b : Behind) (ss : List Placed) (s : Placed) → behind_all b (ss ++ s ∷ []) ≡ behind_one (behind_all b ss) s
behind_push b [] s = refl
behind_push b (t ∷ ss) s = behind_push (behind_one b t) ss s

pub drop_nil : {X : Type 0} → (n : ℕ) (xs : List X) → drop n xs ≡ [] → length xs ≤ n
drop_nil n [] e = omega arith
drop_nil zero (x ∷ xs) e = absurd cc
drop_nil (suc n) (x ∷ xs) e = (let r = drop_nil n xs e in omega arith)

abbrev fine : {A : Type 0} → A → Result A FaultCode
fine m = Ok m

-- what has a meaning breaks no rule
unbroken : (b c : Behind) (s : Placed) (m : Meaning) (code : FaultCode) → b ≡ c → resolved_here b s ≡ Ok m → resolved_here c s ≡ Err code → ⊥
unbroken b c s m code same is broken = (let both : fine m ≡ Err code = sym is ∙ ap (λ t. resolved_here t s) same ∙ broken in absurd cc)

-- what is left behind a statement, by its parts
same_behind : (b : Behind) (vs : List Variable) (bs : List Opened) (ls : List Label) (ms : Measured) → vs ≡ b.variables → bs ≡ b.blocks → ls ≡ b.labels → ms ≡ b.measured → behind vs bs ls ms ≡ b
same_behind b vs bs ls ms p q r s = λ i. behind (p i) (q i) (r i) (s i)

ok_is : {A : Type 0} (x y : A) → fine x ≡ fine y → x ≡ y
ok_is x y e = cc

pub walk_goes : (all : List Placed) (old : Progress) (before : Option Selection) (new : Progress) (waits : Option Selection) (s : Placed) (rest : List Placed)
    → IsWalked all old before (s ∷ rest) → Takes s old before new waits → IsWalked all new waits rest
walk_goes all old before new waits s rest w t =
    let p = place_at all w.place s rest w.left in
    let was = behind_with old before in
    let r = resolved_here was s in
    let line = s.statement.line in
    let form = s.statement.form in
    let means = grown_means (growing old.builder before) (growing new.builder waits) line r t.grows in
    let st = meant was s means.0 means.1 in
    let on = grown_on was (growing old.builder before) (growing new.builder waits) form line r refl t.grows in
    let names : new.names ≡ (behind_by was form r).variables = ok_is new.names (behind_by was form (Ok means.0)).variables (sym t.names ∙ st.names)
    ∙ ap (λ q. (behind_by was form q).variables) (sym means.1) in
    let labels : new.labels ≡ (behind_by was form r).labels = t.labels ∙ st.labels ∙ ap (λ q. (behind_by was form q).labels) (sym means.1) in
    let next : behind_with new waits ≡ behind_one was s =
    same_behind (behind_one was s) new.names (kinds (growing new.builder waits)) new.labels (measured_of new) names on.1 labels (t.measures ∙ measured_is was form r) in
    record {
      place = w.place + 1;
      left = p.3;
      clean = clean_more BreaksNames all w.place w.clean (λ code b. unbroken was (behind_all start (take w.place all)) s means.0 code w.behind means.1 (rw p.1 at b));
      behind = next ∙ ap (λ b. behind_one b s) w.behind ∙ sym (behind_push start (take w.place all) s) ∙ ap (behind_all start) (sym p.2);
      writes =
          w.writes ∙ sym (append_assoc (written (growing old.builder before)) (sentences_by line r) (sentences_from (behind_one was s) rest))
          ∙ ap (λ l. l ++ sentences_from (behind_one was s) rest) (sym on.0) ∙ ap (λ b. written (growing new.builder waits) ++ sentences_from b rest) (sym next);
    }

walk_fails : (all : List Placed) (p : Progress) (waits : Option Selection) (s : Placed) (rest : List Placed) (code : FaultCode)
    → IsWalked all p waits (s ∷ rest) → resolved_here (behind_with p waits) s ≡ Err code → FirstFault BreaksNames names_line all code s.statement.line
walk_fails all p waits s rest code w e =
    fault_at BreaksNames names_line all w.place s rest code s.statement.line w.left w.clean (ap (λ t. resolved_here t s) (sym w.behind) ∙ e) refl

pub walk_told : (all : List Placed) (p : Progress) (waits : Option Selection) (s : Placed) (rest : List Placed) (f : SourceFault)
    → IsWalked all p waits (s ∷ rest) → NoMemoryOr (ToldAt s.statement.line (resolved_here (behind_with p waits) s)) f → NoMemoryOr (λ f. FirstFault BreaksNames names_line all f.code f.line) f
walk_told all p waits s rest f w (inl e) = inl e
walk_told all p waits s rest f w (inr q) = inr (subst (λ line. FirstFault BreaksNames names_line all f.code line) (sym q.0) (walk_fails all p waits s rest f.code w q.1))

pub walk_clean : (all : List Placed) (p : Progress) (waits : Option Selection) → IsWalked all p waits [] → IsClean BreaksNames all
walk_clean all p waits w = clean_done BreaksNames all w.place (drop_nil w.place all w.left) w.clean (λ code b. b)

-- ---- each statement has a meaning behind the ones above it

abbrev pub AllMean : Behind → List Placed → Type 0
AllMean b [] = Unit {0}
AllMean b (s ∷ ss) = ((m : Meaning) × (resolved_here b s ≡ Ok m)) × AllMean (behind_one b s) ss

meaning : (b : Behind) (s : Placed) → ((code : FaultCode) → resolved_here b s ≡ Err code → ⊥) → (m : Meaning) × (resolved_here b s ≡ Ok m)
meaning b s none = by (resolved_here b s) refl
  where
    by : (r : Result Meaning FaultCode) → resolved_here b s ≡ r → (m : Meaning) × (resolved_here b s ≡ Ok m)
    by (Ok m) e = (m, e)
    by (Err code) e = absurd (none code e)

pub all_mean : (before ss : List Placed) → IsClean BreaksNames (before ++ ss) → AllMean (behind_all start before) ss
all_mean before [] clean = tt
all_mean before (s ∷ ss) clean =
    let p = place before s ss in
    let here = meaning (behind_all start before) s (λ code e. clean.unbroken (length before) code (let l = p.2 in omega arith) (rw (p.0, p.1) e)) in
    let rest = all_mean (before ++ s ∷ []) ss (subst (IsClean BreaksNames) (sym (append_assoc before (s ∷ []) ss)) clean) in
    (here, subst (λ b. AllMean b ss) (behind_push start before s) rest)

-- no block is open behind ENDFIL
pub last_shuts : (b : Behind) (ss : List Placed) → is_ended ss ≡ true → AllMean b ss → (behind_all b ss).blocks ≡ []
last_shuts b [] e h = absurd cc
last_shuts b (s ∷ []) e h = (let q = ending_meant b s h.0.0 e h.0.1 in ap (λ r. (behind_by b s.statement.form r).blocks) q.0 ∙ q.1)
last_shuts b (s ∷ t ∷ ss) e h = last_shuts (behind_one b s) (t ∷ ss) e h.1

pub walk_ends : (ss : List Statement) (all : List Placed) (p : Progress) (waits : Option Selection) → IsTrue (is_ended all) → IsWalked all p waits []
    → IsParsed ss all (record { program = p.builder.block; tables = record { variables = p.names; features = p.features; frames = p.frames }; notices = notices_of ss })
walk_ends ss all p waits last w =
    let whole : behind_with p waits ≡ behind_all start all = w.behind ∙ ap (behind_all start) (take_all w.place all (drop_nil w.place all w.left)) in
    let none : kinds (growing p.builder waits) ≡ [] = ap (λ (b : Behind). b.blocks) whole ∙ last_shuts start all last (all_mean [] all (walk_clean all p waits w)) in
    record { program = sym (w.writes ∙ append-nil (written (growing p.builder waits)) ∙ all_shut (growing p.builder waits) none); tables = ap tables_of whole; notices = refl }

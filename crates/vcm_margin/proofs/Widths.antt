-- Runs of one code beside workpieces that differ in the width of the tip.
use Rattle.std.proofs.Common.{◌≡◌, ℕ, zero, suc, ◌+◌, ◌-◌, ◌<◌, ◌≤◌, Bool, true, false, Option, Some, None, List, slice_get, refl, sym, ap, ◌∙◌, subst, arith}
use Rattle.std.specs.Prelude.{length, replicate, not, nat_le}
use Rattle.std.proofs.lemmas.Bool.{and_parts, and_from, le-leb, leb-true}
use Rattle.std.proofs.lemmas.List.{length-replicate}
use Rattle.vcm_num.specs.Point.{coordinate}
use Rattle.vcm_spec.specs.declared.stop.StopPlace.{StopPlace}
use Rattle.vcm_spec.specs.declared.simple.Simple.TheVariants.{PtMeas}
use Rattle.vcm_spec.specs.Frame.{Frame}
use Rattle.vcm_spec.specs.Setup.{Setup, Tables, setup_of}
use Rattle.vcm_spec.specs.Workpiece.{Workpiece, IsValid, is_some_met}
use Rattle.vcm_spec.specs.Stepping.{unless_stopped}
use Rattle.vcm_spec.proofs.Steps.{add_steps, all_stay}
use Rattle.vcm_code.specs.Code.{Op, CodeStatement}
use Rattle.vcm_code.specs.declared.code.Code.{Code}
use Rattle.vcm_code.specs.declared.op.Op.TheVariants.{Plain}
use Rattle.vcm_code.specs.CodeTable.{CodeState, code_stop, fetched, code_step, start}
use Rattle.vcm_code.specs.Checks.{OpFits}
use Rattle.vcm_code.specs.Valid as codes
use Rattle.vcm_code.proofs.Checked.{fits_at}
use Rattle.vcm_part.specs.Tip.{with_tip, is_tip}
use Rattle.vcm_machine.proofs.RestsAlong.{rests_always}
use Rattle.vcm_margin.specs.declared.difference.Difference.{Difference}
use Rattle.vcm_margin.specs.declared.difference.Difference.TheVariants.{Stop, Next, Feature as Measured}
use Rattle.vcm_margin.specs.declared.difference.Seen.{Seen}
use Rattle.vcm_margin.specs.Alike.{reached, measured_by, measured, measures, IsAlike, GoAlike, Differ, DifferFirst}
use Rattle.vcm_margin.specs.Laws.{moved_to, ShowTheSame, AlikeRunsShowTheSame, NoneOrEnd, ComesThrough, GoingAlikeIsMonotone, IsTellable}
use Rattle.vcm_margin.proofs.Cubes.{lies_there, some_met_wider}
use Rattle.vcm_margin.proofs.Sound.{IsSound}
use Rattle.vcm_margin.proofs.Going.{step_beside, step_sound, IsNear, step_near, Follows, step_follows}

-- ---- the next step

reached_next : (part : Workpiece) (c : Code) (k : ℕ) → reached part c (suc k) ≡ code_step (setup_of part c.tables) c.statements (reached part c k)
reached_next part c k =
    ap (λ j. reached part c j) (let e : suc k ≡ k + 1 = omega arith in e)
    ∙ add_steps (code_step (setup_of part c.tables) c.statements) k 1 (start (setup_of part c.tables))

-- a stopped state stays
stays : (su : Setup) (code : List CodeStatement) (m : CodeState) (p : StopPlace) → m.world.stop ≡ Some p → code_step su code m ≡ m
stays su code m p e = ap (λ o. unless_stopped o m (fetched su (slice_get code m.next) m.world m.next m.pairs)) e

-- a run that comes through in some steps does in fewer
comes_before : (part : Workpiece) (c : Code) (n : ℕ) → ComesThrough part c n → (k : ℕ) → k ≤ n → ComesThrough part c k
comes_before part c n t k l = by (reached part c k).world.stop refl
  where
    later : (p : StopPlace) → (reached part c k).world.stop ≡ Some p → reached part c n ≡ reached part c k
    later p e =
        ap (λ j. reached part c j) (let f : n ≡ k + (n - k) = omega (arith, l) in f)
        ∙ add_steps (code_step (setup_of part c.tables) c.statements) k (n - k) (start (setup_of part c.tables))
        ∙ all_stay code_stop (code_step (setup_of part c.tables) c.statements) (stays (setup_of part c.tables) c.statements) (n - k) (reached part c k) p e

    by : (o : Option StopPlace) → (reached part c k).world.stop ≡ o → NoneOrEnd (reached part c k).world.stop
    by None e = subst NoneOrEnd (sym e) tt
    by (Some p) e = subst NoneOrEnd (ap (λ (m : CodeState). m.world.stop) (later p e)) t

-- ---- two runs

module _ (part other : Workpiece) (c : Code) where
  next_beside : (k : ℕ) → IsAlike (measures c (reached part c k)) (reached part c (suc k)) (reached other c (suc k))
      → ShowTheSame (reached part c k) (reached other c k) → ShowTheSame (reached part c (suc k)) (reached other c (suc k))
  next_beside k a s =
      let m : CodeState = reached part c k in
      let x : reached part c (suc k) ≡ code_step (setup_of part c.tables) c.statements m = reached_next part c k in
      let y : reached other c (suc k) ≡ code_step (setup_of other c.tables) c.statements (moved_to (reached other c k).world.position m) =
      reached_next other c k ∙ ap (code_step (setup_of other c.tables) c.statements) s in
      let b = step_beside part other c.tables c.statements m (reached other c k).world.position
      (subst (IsAlike (measures c m) (code_step (setup_of part c.tables) c.statements m)) y (subst (λ p. IsAlike (measures c m) p (reached other c (suc k))) x a)) in
      subst (λ p. ShowTheSame p (reached other c (suc k))) (sym x) (subst (ShowTheSame (code_step (setup_of part c.tables) c.statements m)) (sym y) b.is)

  shows : (n : ℕ) → GoAlike part other c n → (k : ℕ) → k ≤ n → ShowTheSame (reached part c k) (reached other c k)
  shows n g zero l = refl
  shows n g (suc k) l = next_beside k (g k (omega (arith, l))) (shows n g k (omega (arith, l)))

pub alike_runs_show : AlikeRunsShowTheSame
alike_runs_show part other c n g k l = shows part other c n g k l

-- ---- what holds along a run

none_saved : (n i : ℕ) (f : Frame) → slice_get (replicate n None) i ≡ Some (Some f) → ⊥
none_saved zero i f e = cc
none_saved (suc n) zero f e = cc
none_saved (suc n) (suc i) f e = none_saved n i f e

along_sound : (part : Workpiece) (c : Code) (k : ℕ) → IsSound (length c.tables.features) (reached part c k).world
along_sound part c zero = record {
  turns = record { current = refl; saved = λ i f at. absurd (none_saved (length c.tables.frames) i f at) };
  features = length-replicate (length c.tables.features) None;
}
along_sound part c (suc k) =
    subst (λ (m : CodeState). IsSound (length c.tables.features) m.world) (sym (reached_next part c k))
    (step_sound (length c.tables.features) (setup_of part c.tables) c.statements (reached part c k) (along_sound part c k))

-- where two runs differ first, it is not in the next statement; nor by no stop, where the first one comes through
module _ (part other : Workpiece) (c : Code) (n : ℕ) (seen : Seen) (x : DifferFirst part other c n seen) where
  near : IsNear (reached part c (suc x.before)) (reached other c (suc x.before))
  near =
      let m : CodeState = reached part c x.before in
      let s = shows part other c x.before x.alike x.before (omega arith) in
      let y : reached other c (suc x.before) ≡ code_step (setup_of other c.tables) c.statements (moved_to (reached other c x.before).world.position m) =
      reached_next other c x.before ∙ ap (code_step (setup_of other c.tables) c.statements) s in
      subst (λ a. IsNear a (reached other c (suc x.before))) (sym (reached_next part c x.before))
      (subst (IsNear (code_step (setup_of part c.tables) c.statements m)) (sym y)
      (step_near part other c.tables c.statements m (reached other c x.before).world.position (along_sound part c x.before)))

  pub tellable : ComesThrough part c n → IsTellable seen.what
  tellable comes = by seen.what x.differ
    where
      come : NoneOrEnd (reached part c (suc x.before)).world.stop
      come = comes_before part c n comes (suc x.before) (let w = x.within in omega (arith, w))

      by : (e : Difference) → Differ c (reached part c x.before) (reached part c (suc x.before)) (reached other c (suc x.before)) e → IsTellable e
      by (Stop (Some p)) y = tt
      by (Stop None) y = y.0 (near.stop come (sym y.1) ∙ y.1)
      by (Next k) y = y.1.0 (near.next y.0)
      by (Measured i f place) y = tt

no_index : (j : ℕ) → None ≡ Some j → ⊥
no_index j e = cc

same_index : (i j : ℕ) → Some i ≡ Some j → i ≡ j
same_index i j e = cc

op_there : (tables : Tables) (count : ℕ) (op : Op) → OpFits tables count op → (j : ℕ) → measured_by op ≡ Some j → j < length tables.features
op_there tables count (Plain (PtMeas i x y z d)) f j e = subst (λ m. m < length tables.features) (same_index i j e) f.0
op_there tables count op f j e = absurd (no_index j e)

-- what a valid code measures stands in its tables
measured_there : (c : Code) → codes.IsValid c → (n j : ℕ) → measured (slice_get c.statements n) ≡ Some j → j < length c.tables.features
measured_there c ok n j = by (slice_get c.statements n) refl
  where
    by : (o : Option CodeStatement) → slice_get c.statements n ≡ o → measured o ≡ Some j → j < length c.tables.features
    by None e f = absurd (no_index j f)
    by (Some s) e f = op_there c.tables (length c.statements) s.op (fits_at c.tables (length c.statements) c.statements n s ok.fit e) j f

-- ---- three runs

-- a workpiece with another tip that it may have is valid
with_tip_valid : (part : Workpiece) (h : ℕ) → IsValid part → is_tip part h ≡ true → IsValid (with_tip h part)
with_tip_valid part h v e =
    let both = and_parts (nat_le h 50000) (not (is_some_met h part.blocks (coordinate part.bounds.home))) e in
    record { low = v.low; high = v.high; home = v.home; tip = leb-true h 50000 both.0; few = v.few; each = v.each; clear = both.1 }

-- it may have a narrower tip than one that it may have
tip_narrower : (part : Workpiece) (h i : ℕ) → h ≤ i → is_tip part i ≡ true → is_tip part h ≡ true
tip_narrower part h i l e =
    let both = and_parts (nat_le i 50000) (not (is_some_met i part.blocks (coordinate part.bounds.home))) e in
    let most = leb-true i 50000 both.0 in
    and_from _ _ (le-leb h 50000 (omega (arith, l, most))) (by (is_some_met h part.blocks (coordinate part.bounds.home)) refl both.1)
  where
    by : (b : Bool) → is_some_met h part.blocks (coordinate part.bounds.home) ≡ b → not (is_some_met i part.blocks (coordinate part.bounds.home)) ≡ true
        → not (is_some_met h part.blocks (coordinate part.bounds.home)) ≡ true
    by false m clear = ap not m
    by true m clear =
        let wider = some_met_wider h i (coordinate part.bounds.home) (coordinate part.bounds.home) (lies_there h i (coordinate part.bounds.home) l) part.blocks m in
        absurd (let both : false ≡ true = sym (ap not wider) ∙ clear in cc)

module _ (part : Workpiece) (valid : IsValid part) (c : Code) (ok : codes.IsValid c) (n : ℕ) (comes : ComesThrough part c n) (h i : ℕ)
    (le : part.bounds.tip ≤ h) (more : h ≤ i) (vh : IsValid (with_tip h part)) (vi : IsValid (with_tip i part)) (g : GoAlike part (with_tip i part) c n) where
  abbrev go : ℕ → CodeState → CodeState
  go w m = code_step (setup_of (with_tip w part) c.tables) c.statements m

  next_follows : (k : ℕ) → suc k ≤ n → Follows h i (reached part c k) (reached (with_tip h part) c k) (reached (with_tip i part) c k)
      → Follows h i (reached part c (suc k)) (reached (with_tip h part) c (suc k)) (reached (with_tip i part) c (suc k))
  next_follows k l f =
      let m : CodeState = reached part c k in
      let b = (reached (with_tip h part) c k).world.position in
      let d = (reached (with_tip i part) c k).world.position in
      let x : reached part c (suc k) ≡ code_step (setup_of part c.tables) c.statements m = reached_next part c k in
      let y : reached (with_tip h part) c (suc k) ≡ go h (moved_to b m) = reached_next (with_tip h part) c k ∙ ap (go h) f.first in
      let z : reached (with_tip i part) c (suc k) ≡ go i (moved_to d m) = reached_next (with_tip i part) c k ∙ ap (go i) (shows part (with_tip i part) c n g k (omega (arith, l))) in
      let a = subst (IsAlike (measures c m) (code_step (setup_of part c.tables) c.statements m)) z
      (subst (λ p. IsAlike (measures c m) p (reached (with_tip i part) c (suc k))) x (g k (omega (arith, l)))) in
      let fair = subst (λ (p : CodeState). NoneOrEnd p.world.stop) x (comes_before part c n comes (suc k) l) in
      let s = step_follows part c.tables h i le more valid vh vi c.statements m (along_sound part c k) (rests_always (setup_of part c.tables) valid c.statements k).back
      b d f.lies (measured_there c ok m.next) a fair in
      subst (λ p. Follows h i p (reached (with_tip h part) c (suc k)) (reached (with_tip i part) c (suc k))) (sym x)
      (subst (λ p. Follows h i (code_step (setup_of part c.tables) c.statements m) p (reached (with_tip i part) c (suc k))) (sym y)
      (subst (Follows h i (code_step (setup_of part c.tables) c.statements m) (go h (moved_to b m))) (sym z) s))

  follow : (k : ℕ) → k ≤ n → Follows h i (reached part c k) (reached (with_tip h part) c k) (reached (with_tip i part) c k)
  follow zero l = record { first = refl; lies = lies_there h i (coordinate part.bounds.home) more }
  follow (suc k) l = next_follows k l (follow k (omega (arith, l)))

  alike_at : (which : Option ℕ) (a b : CodeState) → b ≡ moved_to b.world.position a → IsAlike which a b
  alike_at which a b e = subst (IsAlike which a) (sym e) (record { stop = refl; next = refl; feature = λ j f. refl })

  between : GoAlike part (with_tip h part) c n
  between k l = alike_at (measures c (reached part c k)) (reached part c (suc k)) (reached (with_tip h part) c (suc k)) (follow (suc k) (omega (arith, l))).first

pub monotone : GoingAlikeIsMonotone
monotone part valid c ok n comes h wide le more g =
    let may = tip_narrower part h wide more g.may in
    record {
      may = may;
      alike = between part valid c ok n comes h wide le more (with_tip_valid part h valid may) (with_tip_valid part wide valid g.may) g.alike;
    }

-- A run has one margin.
use Rattle.std.proofs.Common.{◌≡◌, ℕ, suc, ◌+◌, ◌≤◌, Option, Some, None, refl, sym, ap, ◌∙◌, inl, inr, subst, arith}
use Rattle.std.specs.Prelude.{false, true, nat_le, not}
use Rattle.std.proofs.lemmas.Bool.{and_parts, leb-true, cases_order}
use Rattle.vcm_num.specs.Point.{coordinate}
use Rattle.vcm_spec.specs.Workpiece.{Workpiece, is_some_met}
use Rattle.vcm_code.specs.declared.code.Code.{Code}
use Rattle.vcm_code.specs.CodeTable.{CodeState}
use Rattle.vcm_part.specs.Tip.{is_tip, with_tip}
use Rattle.vcm_margin.specs.declared.difference.Difference.{Difference}
use Rattle.vcm_margin.specs.declared.difference.Difference.TheVariants.{Stop, Next, Feature as Measured}
use Rattle.vcm_margin.specs.declared.difference.Met.{Met}
use Rattle.vcm_margin.specs.declared.difference.Met.TheVariants.{Home, Behind}
use Rattle.vcm_margin.specs.declared.difference.Seen.{Seen}
use Rattle.vcm_margin.specs.Alike.{reached, measures, actual_in, IsAlike, GoAlike, Differ, DifferFirst}
use Rattle.vcm_margin.specs.Margin.{GoesWith, IsMet, MetBy}
use Rattle.vcm_margin.specs.Laws.{ComesThrough, MarginsAreGreatest, MarginsAreOne, IsTold, MarginsTellFaultsOrPoints}
use Rattle.vcm_margin.proofs.Widths.{tellable, monotone}

-- ---- what differs

not_both : (c : Code) (before a b : CodeState) (d : Difference) → Differ c before a b d → IsAlike (measures c before) a b → ⊥
not_both c before a b (Stop s) x y = x.0 y.stop
not_both c before a b (Next n) x y = x.1.0 y.next
not_both c before a b (Measured i f place) x y = x.1.1.1.1.0 (y.feature i x.1.1.0)

same_index : (i j : ℕ) → Some i ≡ Some j → i ≡ j
same_index i j e = cc

differ_one : (c : Code) (before a b : CodeState) (d e : Difference) → Differ c before a b d → Differ c before a b e → d ≡ e
differ_one c before a b (Stop s) (Stop t) x y = ap (λ z. Stop z) (x.1 ∙ sym y.1)
differ_one c before a b (Stop s) (Next n) x y = absurd (x.0 y.0)
differ_one c before a b (Stop s) (Measured i f place) x y = absurd (x.0 y.0)
differ_one c before a b (Next n) (Stop t) x y = absurd (y.0 x.0)
differ_one c before a b (Next n) (Next m) x y = ap (λ z. Next z) (x.1.1 ∙ sym y.1.1)
differ_one c before a b (Next n) (Measured i f place) x y = absurd (x.1.0 y.1.0)
differ_one c before a b (Measured i f place) (Stop t) x y = absurd (y.0 x.0)
differ_one c before a b (Measured i f place) (Next n) x y = absurd (y.1.0 x.1.0)
differ_one c before a b (Measured i f place) (Measured j g there) x y =
    let index : i ≡ j = same_index i j (sym x.1.1.0 ∙ y.1.1.0) in
    let feature : f ≡ g = x.1.1.1.1.1 ∙ ap (actual_in b) index ∙ sym y.1.1.1.1.1 in
    let same : place ≡ there = x.1.1.1.0 ∙ sym y.1.1.1.0 in
    λ t. Measured (index t) (feature t) (same t)

module _ (part other : Workpiece) (c : Code) (n : ℕ) where
  -- two runs don't differ first at a step behind which they are alike
  not_there : (seen : Seen) (x : DifferFirst part other c n seen)
      → IsAlike (measures c (reached part c x.before)) (reached part c (suc x.before)) (reached other c (suc x.before)) → ⊥
  not_there seen x a = not_both c (reached part c x.before) (reached part c (suc x.before)) (reached other c (suc x.before)) seen.what x.differ a

  not_first : (seen : Seen) → DifferFirst part other c n seen → (m : ℕ) → n ≤ m → GoAlike part other c m → ⊥
  not_first seen x m l g = not_there seen x (g x.before (let w = x.within in omega (arith, w, l)))

  -- where they differ first behind as many steps, they differ there in one thing
  first_there : (d e : Seen) (x : DifferFirst part other c n d) (y : DifferFirst part other c n e) → x.before ≡ y.before → d ≡ e
  first_there d e x y same =
      let what : d.what ≡ e.what =
      differ_one c (reached part c y.before) (reached part c (suc y.before)) (reached other c (suc y.before)) d.what e.what
      (subst (λ k. Differ c (reached part c k) (reached part c (suc k)) (reached other c (suc k)) d.what) same x.differ) y.differ in
      let steps : d.steps ≡ e.steps = x.steps_are ∙ ap suc same ∙ sym y.steps_are in
      let position : d.position ≡ e.position = x.position_is ∙ ap (λ k. (reached other c (suc k)).world.position) same ∙ sym y.position_is in
      λ t. record { what = what t; steps = steps t; position = position t }

  first_one : (d e : Seen) → DifferFirst part other c n d → DifferFirst part other c n e → d ≡ e
  first_one d e x y = elim (cases_order x.before y.before) [
    | inl same ↦ first_there d e x y same
    | inr (inl l) ↦ absurd (not_there d x (y.alike x.before l))
    | inr (inr l) ↦ absurd (not_there e y (x.alike y.before l))
  ]

module _ (part : Workpiece) (c : Code) (n h : ℕ) where
  both_tips : is_tip part h ≡ false → is_tip part h ≡ true → ⊥
  both_tips e f = (let both : false ≡ true = sym e ∙ f in cc)

  -- what is met with a width excludes that the run goes with it
  not_met : (d : Met) → IsMet part c n h d → GoesWith part c n h → ⊥
  not_met Home m g = both_tips m g.may
  not_met (Behind seen) m g = not_first part (with_tip h part) c n seen m.1 n (omega arith) g.alike

  met_one : (d e : Met) → IsMet part c n h d → IsMet part c n h e → d ≡ e
  met_one Home Home m k = refl
  met_one Home (Behind s) m k = absurd (both_tips m k.0)
  met_one (Behind s) Home m k = absurd (both_tips k m.0)
  met_one (Behind s) (Behind t) m k = ap (λ z. Behind z) (first_one part (with_tip h part) c n s t m.1 k.1)

  by_one : (d e : Option Met) → MetBy part c n h d → MetBy part c n h e → d ≡ e
  by_one None None m k = refl
  by_one None (Some e) m k = absurd (let l = k.0 in omega (arith, m, l))
  by_one (Some d) None m k = absurd (let l = m.0 in omega (arith, k, l))
  by_one (Some d) (Some e) m k = ap (λ z. Some z) (met_one d e m.1 k.1)

  not_met_by : (d : Option Met) → MetBy part c n h d → GoesWith part c n h → ⊥
  not_met_by None m g =
      let most = leb-true h 50000 (and_parts (nat_le h 50000) (not (is_some_met h part.blocks (coordinate part.bounds.home))) g.may).0 in
      absurd (omega (arith, m, most))
  not_met_by (Some d) m g = not_met d m.1 g

-- ---- the laws

pub greatest : MarginsAreGreatest
greatest part valid c ok n comes m is h l g =
    let least = is.least in
    not_met_by part c n (m.tip + 1) m.met is.met (monotone part valid c ok n comes (m.tip + 1) h (omega (arith, least)) (omega (arith, l)) g)

pub one_margin : MarginsAreOne
one_margin part valid c ok n comes m o x y = elim (cases_order m.tip o.tip) [
  | inl same ↦ (
      let met : m.met ≡ o.met = by_one part c n (o.tip + 1) m.met o.met (subst (λ h. MetBy part c n (h + 1) m.met) same x.met) y.met in
      λ t. record { tip = same t; met = met t })
  | inr (inl l) ↦ absurd (greatest part valid c ok n comes m x o.tip l y.goes)
  | inr (inr l) ↦ absurd (greatest part valid c ok n comes o y m.tip l x.goes)
]

met_told : (part : Workpiece) (c : Code) (n : ℕ) → ComesThrough part c n → (h : ℕ) (d : Met) → IsMet part c n h d → IsTold d
met_told part c n comes h Home x = tt
met_told part c n comes h (Behind seen) x = tellable part (with_tip h part) c n seen x.1 comes

pub told_so : MarginsTellFaultsOrPoints
told_so part c n comes m x d e = met_told part c n comes (m.tip + 1) d (subst (λ o. MetBy part c n (m.tip + 1) o) e x.met).1

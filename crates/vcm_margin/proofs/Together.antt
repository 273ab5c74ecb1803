-- A run with the own tip and a machine with another one that have gone alike so far.
use Rattle.std.proofs.Common.{◌≡◌, ℕ, suc, ◌+◌, ◌<◌, ◌⊎◌, inl, inr, sym, ap, ◌∙◌, subst, arith}
use Rattle.std.specs.Prelude.{Option}
use Rattle.vcm_spec.specs.Workpiece.{Workpiece}
use Rattle.vcm_code.specs.declared.code.Code.{Code}
use Rattle.vcm_code.specs.CodeTable.{CodeState}
use Rattle.vcm_machine.specs.Running.{Running, started, later}
use Rattle.vcm_margin.specs.declared.own.Behind.{Behind}
use Rattle.vcm_margin.specs.declared.difference.Seen.{Seen}
use Rattle.vcm_margin.specs.Alike.{reached, measures, IsAlike, GoAlike, Differ, DifferFirst}
use Rattle.vcm_margin.specs.inner.Kept.{Shows}
use Rattle.vcm_margin.specs.inner.Stepped.{HaveGone}
use Rattle.vcm_margin.proofs.Reached.{before_or_last, later_more}

module _ (part other : Workpiece) (c : Code) (n : ℕ) (At : ℕ → Type 0) (two new_two : Running) (h : HaveGone part other c n At two)
    (step : new_two ≡ later 1 two) where
  second_on : new_two ≡ later (suc n) (started other c)
  second_on = later_more other c n two new_two h.second step

  other_is : new_two.state ≡ reached other c (suc n)
  other_is = ap (λ (m : Running). m.state) second_on

  -- alike one step further
  more_alike : IsAlike (measures c (reached part c n)) (reached part c (suc n)) new_two.state → GoAlike part other c (suc n)
  more_alike a k l = by (before_or_last k n l)
    where
      by : (k < n) ⊎ (k ≡ n) → IsAlike (measures c (reached part c k)) (reached part c (suc k)) (reached other c (suc k))
      by (inl before) = h.alike k before
      by (inr last) =
          subst (λ j. IsAlike (measures c (reached part c j)) (reached part c (suc j)) (reached other c (suc j))) (sym last)
          (subst (λ x. IsAlike (measures c (reached part c n)) (reached part c (suc n)) x) other_is a)

  -- one step further
  pub goes_on : (New : ℕ → Type 0) (which : Option ℕ) (b : Behind) → which ≡ measures c (reached part c n) → Shows which b (reached part c (suc n)) → New (suc n)
      → ((after : CodeState) → Shows which b after → IsAlike which after new_two.state) → HaveGone part other c (n + 1) New new_two
  goes_on New which b measured shows first alike =
      let a = subst (λ w. IsAlike w (reached part c (suc n)) new_two.state) measured (alike (reached part c (suc n)) shows) in
      subst (λ k. HaveGone part other c k New new_two) (let e : suc n ≡ n + 1 = omega arith in e)
      (record { first = first; second = second_on; next = sym a.next; alike = more_alike a })

  -- here they differ
  pub differs : (steps : ℕ) → n < steps → (seen : Seen) → Differ c (reached part c n) (reached part c (suc n)) new_two.state seen.what → seen.steps ≡ n + 1
      → seen.position ≡ new_two.state.world.position → DifferFirst part other c steps seen
  differs steps l seen a count place = record {
    before = n;
    within = l;
    alike = h.alike;
    differ = subst (λ x. Differ c (reached part c n) (reached part c (suc n)) x seen.what) other_is a;
    steps_are = count ∙ (let e : n + 1 ≡ suc n = omega arith in e);
    position_is = place ∙ ap (λ (m : CodeState). m.world.position) other_is;
  }

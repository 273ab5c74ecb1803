-- What is reached by one step more.
use Rattle.std.proofs.Common.{◌≡◌, ℕ, zero, suc, ◌+◌, ◌<◌, ◌⊎◌, inl, inr, refl, ap, ◌∙◌, subst, arith}
use Rattle.std.specs.Prelude.{Option, Some, slice_get}
use Rattle.vcm_spec.specs.declared.stop.StopPlace.{StopPlace}
use Rattle.vcm_spec.specs.Workpiece.{Workpiece}
use Rattle.vcm_spec.specs.Setup.{setup_of}
use Rattle.vcm_spec.specs.Stepping.{unless_stopped}
use Rattle.vcm_spec.proofs.Steps.{add_steps}
use Rattle.vcm_code.specs.declared.code.Code.{Code}
use Rattle.vcm_code.specs.CodeTable.{CodeState, code_step, fetched}
use Rattle.vcm_machine.specs.Running.{Running, started, later}
use Rattle.vcm_machine.proofs.LawLemmas.{add_up}
use Rattle.vcm_margin.specs.Alike.{reached}
use Rattle.vcm_margin.specs.inner.Kept.{Shows}
use Rattle.vcm_margin.specs.declared.own.Behind.{Behind}

-- a number below the next one is below this one, or is this one
pub before_or_last : (k n : ℕ) → k < suc n → (k < n) ⊎ (k ≡ n)
before_or_last zero zero l = inr refl
before_or_last zero (suc n) l = inl (omega arith)
before_or_last (suc k) zero l = absurd (omega (arith, l))
before_or_last (suc k) (suc n) l = by (before_or_last k n (omega (arith, l)))
  where
    by : (k < n) ⊎ (k ≡ n) → (suc k < suc n) ⊎ (suc k ≡ suc n)
    by (inl before) = inl (omega (arith, before))
    by (inr last) = inr (ap suc last)

module _ (part : Workpiece) (c : Code) (n : ℕ) where
  -- a machine one step more behind the start, as loops count
  pub later_next : (old new : Running) → old ≡ later n (started part c) → new ≡ later 1 old → new ≡ later (n + 1) (started part c)
  later_next old new at_old is = is ∙ ap (later 1) at_old ∙ add_up n 1 (started part c)

  -- and as definitions do
  pub later_more : (old new : Running) → old ≡ later n (started part c) → new ≡ later 1 old → new ≡ later (suc n) (started part c)
  later_more old new at_old is = later_next old new at_old is ∙ ap (λ k. later k (started part c)) (let e : n + 1 ≡ suc n = omega arith in e)

  -- what a machine shows behind that step
  pub machine_on : (old new : Running) (which : Option ℕ) (b : Behind) → old ≡ later n (started part c) → new ≡ later 1 old → Shows which b new.state
      → Shows which b (reached part c (suc n)) × (new ≡ later (suc n) (started part c))
  machine_on old new which b at_old is h =
      let on = later_more old new at_old is in
      (subst (Shows which b) (ap (λ (m : Running). m.state) on) h, on)

  step_more : reached part c (suc n) ≡ code_step (setup_of part c.tables) c.statements (reached part c n)
  step_more = ap (λ k. reached part c k) (let e : suc n ≡ n + 1 = omega arith in e) ∙ add_steps (code_step (setup_of part c.tables) c.statements) n 1 (reached part c 0)

  -- a stop stays
  pub stop_stays : (p : StopPlace) → (reached part c n).world.stop ≡ Some p → (reached part c (suc n)).world.stop ≡ Some p
  stop_stays p e =
      let m = reached part c n in
      ap (λ (m : CodeState). m.world.stop) (step_more
      ∙ ap (λ o. unless_stopped o m (fetched (setup_of part c.tables) (slice_get c.statements m.next) m.world m.next m.pairs)) e)
      ∙ e

-- Runs of the debugger with several probes that haven't ended.
use Rattle.std.proofs.Common.{◌≡◌, ℕ, zero, suc, ◌+◌, ◌-◌, ◌<◌, ◌≤◌, Bool, true, false, List, Option, Some, None, Ok, Err, sym, ap, ◌∙◌, subst, refl, arith, below_more, if◌then◌else◌}
use Rattle.vcm_spec.specs.declared.stop.StopPlace.{StopPlace}
use Rattle.vcm_spec.specs.Stepping.{unless_stopped}
use Rattle.vcm_machine.specs.Running.{WantsMemory}
use Rattle.vcm_console.specs.declared.reply.Reason.{Reason}
use Rattle.vcm_debug.specs.Halting.{RunEnd, stop_reason, reason, ends_after}
use Rattle.vcm_turning.specs.declared.ended.NoProbe.{NoProbe}
use Rattle.vcm_turning.specs.Turning.{unless_ended}
use Rattle.vcm_set_debug.specs.Halting.{lost_reason, reason_behind, reason_from, goes_from, taken_of, first_end, last_end}
use Rattle.vcm_set_debug.specs.Reached.{Reached, behind, machine_at, lost, goes}
use Rattle.vcm_set_debug.specs.inner.Going.{HasRun, HasStepped}

-- where there is no reason another step is taken
none_goes : (o : Option NoProbe) (p : Option StopPlace) (rest : Option Reason) → lost_reason o (stop_reason p rest) ≡ None
    → unless_stopped p false (unless_ended o false true) ≡ true
none_goes None None rest e = refl
none_goes None (Some p) rest e = absurd cc
none_goes (Some l) p rest e = absurd cc

-- why a run ends at a run that stands so, one step behind another one
abbrev pub asked : List Bool → List Bool → Reached → Reached → Option Reason
asked breakpoints watches before now =
    lost_reason (lost now now.count) (reason breakpoints watches (machine_at before before.count) (machine_at now now.count))

-- the reason behind a step from one place to the next
pub asked_is : (breakpoints watches : List Bool) (old before now : Reached) (n : ℕ) → before ≡ behind old n → now ≡ behind old (n + 1)
    → asked breakpoints watches before now ≡ reason_behind breakpoints watches old n
asked_is breakpoints watches old before now n e f =
    let m : n + 1 ≡ suc n = omega arith in
    ap (λ (x : Reached). asked breakpoints watches before x) f
    ∙ ap (λ (x : Reached). asked breakpoints watches x (behind old (n + 1))) e
    ∙ ap (λ (k : ℕ). asked breakpoints watches (behind old n) (behind old k)) m

module _ (breakpoints watches : List Bool) (k : ℕ) (old : Reached) where
  abbrev why : ℕ → Option Reason
  why = reason_from breakpoints watches old

  -- a run of at most k steps has come so far, and hasn't ended
  pub record HasCome (new : Reached) (done : ℕ) : Type 0 where
    pub new_is : new ≡ behind old (old.count + done)
    pub within : done ≤ k
    pub going : goes old (old.count + done) ≡ true
    pub none_ends : (i : ℕ) → i < done → reason_from breakpoints watches old i ≡ None
    pub rest : first_end (reason_from breakpoints watches old) (k - done) done ≡ first_end (reason_from breakpoints watches old) k 0

  pub sets_out : goes old old.count ≡ true → HasCome old 0
  sets_out go =
      let n : old.count ≡ old.count + 0 = omega arith in
      record {
        new_is = ap (behind old) n;
        within = omega arith;
        going = subst (λ (m : ℕ). goes old m ≡ true) n go;
        none_ends = λ i l. absurd (omega (arith, l));
        rest = ap (λ (m : ℕ). first_end why m 0) (let e : k - 0 ≡ k = omega arith in e);
      }

  module _ (new after : Reached) (done : ℕ) (come : HasCome new done) where
    -- it goes on where it stands
    pub goes_there : goes new new.count ≡ true
    goes_there = subst (λ (x : Reached). goes x x.count ≡ true) (sym come.new_is) come.going

    -- memory was refused there
    pub halts : done < k → after ≡ new → WantsMemory (machine_at new new.count) → HasRun breakpoints watches k old after (Err done)
    halts l e w = (e ∙ come.new_is, l, subst (λ (x : Reached). WantsMemory (machine_at x x.count)) come.new_is w, come.none_ends)

    module _ (l : done < k) (stepped : after ≡ behind new (new.count + 1)) where
      after_is : after ≡ behind old (old.count + done + 1)
      after_is = stepped ∙ ap (λ (x : Reached). behind x (x.count + 1)) come.new_is

      pub come_is : after ≡ behind old (old.count + (done + 1))
      come_is = after_is ∙ ap (behind old) (let e : old.count + done + 1 ≡ old.count + (done + 1) = omega arith in e)

      found : asked breakpoints watches new after ≡ why done
      found = asked_is breakpoints watches old new after (old.count + done) come.new_is after_is

      turn : (r : Option Reason) → why done ≡ r
          → first_end why (k - done) done ≡ elim r [ Some w ↦ ends_after (suc done) w | None ↦ first_end why (k - suc done) (suc done) ]
      turn r e =
          let n : k - done ≡ suc (k - suc done) = omega (arith, l) in
          ap (λ (m : ℕ). first_end why m done) n
          ∙ ap (λ (x : Option Reason). elim x [ Some w ↦ ends_after (suc done) w | None ↦ first_end why (k - suc done) (suc done) ]) e

      -- the run goes on
      pub goes_on : asked breakpoints watches new after ≡ None → HasCome after (done + 1)
      goes_on e =
          let n : suc done ≡ done + 1 = omega arith in
          let m : suc (old.count + done) ≡ old.count + (done + 1) = omega arith in
          let none : why done ≡ None = sym found ∙ e in
          record {
            new_is = come_is;
            within = omega (arith, l);
            going = subst (λ (j : ℕ). goes old j ≡ true) m (none_goes _ _ _ none);
            none_ends = below_more (λ (i : ℕ). why i ≡ None) done come.none_ends none;
            rest = sym (ap (λ (j : ℕ). first_end why (k - j) j) n) ∙ sym (turn None none) ∙ come.rest;
          }

      -- it ends
      pub ends : (w : Reason) → asked breakpoints watches new after ≡ Some w → HasRun breakpoints watches k old after (Ok (done + 1, w))
      ends w e =
          let n : done + 1 ≡ suc done = omega arith in
          (come_is, ap (λ (m : ℕ). ends_after m w) n ∙ sym (turn (Some w) (sym found ∙ e)) ∙ come.rest, omega (arith, l))

-- ---- steps

module _ (k : ℕ) (old : Reached) where
  abbrev on : ℕ → Bool
  on = goes_from old

  -- of at most k steps so many were taken
  pub record HasWalked (new : Reached) (done : ℕ) : Type 0 where
    pub new_is : new ≡ behind old (old.count + done)
    pub within : done ≤ k
    pub rest : taken_of (goes_from old) (k - done) done ≡ taken_of (goes_from old) k 0

  pub stands : HasWalked old 0
  stands = record {
    new_is = ap (behind old) (let n : old.count ≡ old.count + 0 = omega arith in n);
    within = omega arith;
    rest = ap (λ (m : ℕ). taken_of on m 0) (let e : k - 0 ≡ k = omega arith in e);
  }

  module _ (new : Reached) (done : ℕ) (walked : HasWalked new done) where
    here : (b : Bool) → goes new new.count ≡ b → on done ≡ b
    here b e = sym (ap (λ (x : Reached). goes x x.count) walked.new_is) ∙ e

    pub walks : (after : Reached) → done < k → goes new new.count ≡ true → after ≡ behind new (new.count + 1) → HasWalked after (done + 1)
    walks after l go stepped =
        let n : k - done ≡ suc (k - suc done) = omega (arith, l) in
        let m : suc done ≡ done + 1 = omega arith in
        record {
          new_is = stepped ∙ ap (λ (x : Reached). behind x (x.count + 1)) walked.new_is
              ∙ ap (behind old) (let e : old.count + done + 1 ≡ old.count + (done + 1) = omega arith in e);
          within = omega (arith, l);
          rest =
              sym (ap (λ (j : ℕ). taken_of on (k - j) j) m)
              ∙ sym (ap (λ (j : ℕ). taken_of on j done) n ∙ ap (λ (b : Bool). if b then taken_of on (k - suc done) (suc done) else done) (here true go))
              ∙ walked.rest;
        }

    over : (m : ℕ) → on done ≡ false → taken_of on m done ≡ done
    over zero e = refl
    over (suc m) e = ap (λ (b : Bool). if b then taken_of on m (suc done) else done) e

    -- no step is taken there
    pub stays : goes new new.count ≡ false → HasStepped k old new (Ok done)
    stays e = (walked.new_is, sym (over (k - done) (here false e)) ∙ walked.rest, walked.within)

    -- all were taken
    pub counted : ¬ (done < k) → HasStepped k old new (Ok done)
    counted l =
        let n : k - done ≡ 0 = omega (arith, l) in
        (walked.new_is, sym (ap (λ (m : ℕ). taken_of on m done) n) ∙ walked.rest, walked.within)

    pub cut : (after : Reached) → done < k → after ≡ new → WantsMemory (machine_at new new.count) → HasStepped k old after (Err done)
    cut after l e w = (e ∙ walked.new_is, l, subst (λ (x : Reached). WantsMemory (machine_at x x.count)) walked.new_is w)

-- ---- the last end

steps_in : Option RunEnd → ℕ
steps_in None = 0
steps_in (Some e) = e.steps

few_by : (k : ℕ) (r : Option Reason) (x : Option RunEnd) (e : RunEnd) → elim r [ Some w ↦ Some (ends_after (suc k) w) | None ↦ x ] ≡ Some e → (x ≡ Some e → e.steps ≤ k)
    → e.steps ≤ suc k
unfolding steps_in
few_by k (Some w) x e h f = let n : suc k ≡ e.steps = ap steps_in h in omega (arith, n)
few_by k None x e h f = let l = f h in omega (arith, l)

-- it lies within the steps that were looked through
pub last_few : (why : ℕ → Option Reason) (k : ℕ) (e : RunEnd) → last_end why k ≡ Some e → e.steps ≤ k
last_few why zero e h = absurd cc
last_few why (suc k) e h = few_by k (why k) (last_end why k) e h (last_few why k e)

-- Runs that haven't ended.
use Rattle.std.proofs.Common.{◌≡◌, ℕ, suc, ◌+◌, ◌-◌, ◌<◌, ◌≤◌, Bool, true, false, List, length, get_or, slice_get, Option, Some, None, Ok, sym, ap, ◌∙◌, arith, below_more}
use Rattle.std.proofs.lemmas.Option.{slice_get-get_or}
use Rattle.vcm_machine.specs.Running.{Running, later}
use Rattle.vcm_machine.proofs.LawLemmas.{add_up}
use Rattle.vcm_console.specs.declared.reply.Reason.{Reason}
use Rattle.vcm_console.specs.declared.reply.Reason.TheVariants.{Break}
use Rattle.vcm_debug.specs.Halting.{changed_from, watch_reason, break_reason, stop_reason, reason, reason_after, ends_after, run_end}
use Rattle.vcm_debug.specs.inner.Going.{HasRun}

-- a breakpoint at the next statement of a machine that has not stopped
pub breaks : (breakpoints watches : List Bool) (before now : Running) (i : ℕ) → i < length breakpoints → get_or breakpoints i false ≡ true → i ≡ now.state.next
    → now.state.world.stop ≡ None → Some Break ≡ reason breakpoints watches before now
breaks breakpoints watches before now i l b n s =
    let rest = watch_reason (changed_from 0 watches before.state.world.variables now.state.world.variables) in
    let found = ap (slice_get breakpoints) (sym n) ∙ slice_get-get_or breakpoints i false l ∙ ap Some b in
    sym (ap (λ o. stop_reason o (break_reason (slice_get breakpoints now.state.next) rest)) s ∙ ap (λ o. break_reason o rest) found)

-- one step more
pub one_more : (n : ℕ) (m : Running) → later (n + 1) m ≡ later 1 (later n m)
one_more n m = sym (add_up n 1 m)

module _ (breakpoints watches : List Bool) (k : ℕ) (old : Running) where
  -- a run of at most k steps has come to this machine after `done` of them, and hasn't ended
  pub record HasCome (new : Running) (done : ℕ) : Type 0 where
    pub new_is : new ≡ later done old
    pub within : done ≤ k
    pub none_ends : (i : ℕ) → i < done → reason_after breakpoints watches old i ≡ None
    pub rest : run_end breakpoints watches (k - done) done (later done old) ≡ run_end breakpoints watches k 0 old

  module _ (new after : Running) (done : ℕ) (come : HasCome new done) (l : done < k) (stepped : after ≡ later 1 new) where
    abbrev s : Running
    s = later done old

    abbrev t : Running
    t = later 1 s

    after_is : after ≡ t
    after_is = stepped ∙ ap (λ h. later 1 h) come.new_is

    one_on : t ≡ later (done + 1) old
    one_on = sym (one_more done old)

    same_reason : reason breakpoints watches new after ≡ reason breakpoints watches s t
    same_reason = ap (λ x. reason breakpoints watches new x) after_is ∙ ap (λ h. reason breakpoints watches h t) come.new_is

    found : reason breakpoints watches new after ≡ reason_after breakpoints watches old done
    found = same_reason ∙ ap (λ x. reason breakpoints watches s x) (one_on ∙ ap (λ n. later n old) (let e : done + 1 ≡ suc done = omega arith in e))

    turn : (r : Option Reason) → reason breakpoints watches s t ≡ r
        → run_end breakpoints watches (k - done) done s ≡ elim r [ Some why ↦ ends_after (suc done) why | None ↦ run_end breakpoints watches (k - suc done) (suc done) t ]
    turn r e =
        let n : k - done ≡ suc (k - suc done) = omega arith in
        ap (λ m. run_end breakpoints watches m done s) n
        ∙ ap (λ x. elim x [ Some why ↦ ends_after (suc done) why | None ↦ run_end breakpoints watches (k - suc done) (suc done) t ]) e

    -- the run goes on
    pub goes : reason breakpoints watches new after ≡ None → HasCome after (done + 1)
    goes e = record {
      new_is = after_is ∙ one_on;
      within = omega arith;
      none_ends = below_more _ _ come.none_ends (sym found ∙ e);
      rest =
          let n : done + 1 ≡ suc done = omega arith in
          ap (λ m. run_end breakpoints watches (k - m) m (later (done + 1) old)) n
          ∙ ap (λ x. run_end breakpoints watches (k - suc done) (suc done) x) (sym one_on)
          ∙ sym (turn None (sym same_reason ∙ e)) ∙ come.rest;
    }

    -- it ends
    pub ends : (why : Reason) → reason breakpoints watches new after ≡ Some why → HasRun breakpoints watches k old after (Ok (done + 1, why))
    ends why e =
        let n : done + 1 ≡ suc done = omega arith in
        (after_is ∙ one_on, ap (λ m. ends_after m why) n ∙ sym (turn (Some why) (sym same_reason ∙ e)) ∙ come.rest, omega arith)

    pub come_is : after ≡ later (done + 1) old
    come_is = after_is ∙ one_on

-- Stretches of steps, and the last end of a run in them.
use Rattle.std.proofs.Common.{◌≡◌, ℕ, zero, suc, ◌+◌, ◌-◌, ◌<◌, ◌≤◌, Bool, List, Option, Some, None, refl, sym, ap, ◌∙◌, subst, arith, below_more}
use Rattle.vcm_machine.specs.Running.{Running, started, later}
use Rattle.vcm_console.specs.declared.reply.Reason.{Reason}
use Rattle.vcm_console.specs.declared.reply.Reason.TheVariants.{Count}
use Rattle.vcm_debug.specs.Halting.{RunEnd, ends_after, run_end, reason, reason_after, RunEnds, EndsBy, last_end, HasNoEnd, IsLastEnd, EndsLast}
use Rattle.vcm_debug.specs.Laws.{LastEndIsComputed, LastEndIsUnique, RunsOnToWhereItWas}
use Rattle.vcm_debug.specs.inner.Backwards.{last_between, first_of}
use Rattle.vcm_debug.specs.inner.Going.{begun}
use Rattle.vcm_debug.proofs.Stepping.{one_more}
use Rattle.vcm_debug.proofs.RunEnding.{run_end_unique}
use Rattle.vcm_machine.proofs.LawLemmas.{add_up}

-- where a reason is the first that is looked for
merge : (r : Option Reason) (x y z : Option RunEnd) (n : ℕ) → y ≡ first_of x z
    → elim r [ Some w ↦ Some (ends_after n w) | None ↦ y ] ≡ first_of (elim r [ Some w ↦ Some (ends_after n w) | None ↦ x ]) z
merge (Some w) x y z n e = refl
merge None x y z n e = e

pub again : (r : Option Reason) (n : ℕ) (x : Option RunEnd)
    → first_of (elim r [ Some w ↦ Some (ends_after n w) | None ↦ None ]) x ≡ elim r [ Some w ↦ Some (ends_after n w) | None ↦ x ]
again (Some w) n x = refl
again None n x = refl

module _ (breakpoints watches : List Bool) (start : Running) where
  -- the last end of the first steps and of those behind them
  pub joined : (low k : ℕ) → last_end breakpoints watches start (low + k) ≡ first_of (last_between breakpoints watches start low k) (last_end breakpoints watches start low)
  joined low zero = ap (last_end breakpoints watches start) (let e : low + 0 ≡ low = omega arith in e)
  joined low (suc k) =
      ap (last_end breakpoints watches start) (let e : low + suc k ≡ suc (low + k) = omega arith in e)
      ∙ merge (reason_after breakpoints watches start (low + k)) (last_between breakpoints watches start low k) (last_end breakpoints watches start (low + k))
      (last_end breakpoints watches start low) (suc (low + k)) (joined low k)

  -- one step more of a stretch
  pub one_on : (low done steps : ℕ) (why : Option Reason) (found : Option RunEnd) → why ≡ reason_after breakpoints watches start (low + done)
      → found ≡ last_between breakpoints watches start low done → steps ≡ low + (done + 1)
      → first_of (elim why [ Some w ↦ Some (ends_after steps w) | None ↦ None ]) found ≡ last_between breakpoints watches start low (done + 1)
  one_on low done steps why found e f s =
      let n : steps ≡ suc (low + done) = omega (arith, s) in
      again why steps found
      ∙ ap (λ m. elim why [ Some w ↦ Some (ends_after m w) | None ↦ found ]) n
      ∙ ap (λ r. elim r [ Some w ↦ Some (ends_after (suc (low + done)) w) | None ↦ found ]) e
      ∙ ap (λ x. elim (reason_after breakpoints watches start (low + done)) [ Some w ↦ Some (ends_after (suc (low + done)) w) | None ↦ x ]) f
      ∙ ap (last_between breakpoints watches start low) (let m : suc done ≡ done + 1 = omega arith in m)

  -- why a run would have ended at the next machine
  pub found_there : (m next : Running) (n : ℕ) (why : Option Reason) → m ≡ later n start → next ≡ later 1 m → why ≡ reason breakpoints watches m next
      → why ≡ reason_after breakpoints watches start n
  found_there m next n why e f r =
      let g : next ≡ later (suc n) start = f ∙ ap (λ x. later 1 x) e ∙ sym (one_more n start) ∙ ap (λ k. later k start) (let e : n + 1 ≡ suc n = omega arith in e) in
      r ∙ ap (λ x. reason breakpoints watches m x) g ∙ ap (λ x. reason breakpoints watches x (later (suc n) start)) e

  -- a stretch has an end, and so the steps that it is of
  pub found_in : (low high : ℕ) (e : RunEnd) → low + 1 < high → Some e ≡ last_between breakpoints watches start low (high - 1 - low)
      → Some e ≡ last_end breakpoints watches start (high - 1)
  found_in low high e l f =
      let n : low + (high - 1 - low) ≡ high - 1 = omega (arith, l) in
      ap (λ x. first_of x (last_end breakpoints watches start low)) f ∙ sym (joined low (high - 1 - low)) ∙ ap (last_end breakpoints watches start) n

  -- a stretch has none, and so those before it are left
  pub none_in : (low high : ℕ) → low + 1 < high → None ≡ last_between breakpoints watches start low (high - 1 - low)
      → last_end breakpoints watches start (high - 1) ≡ last_end breakpoints watches start (low + 1 - 1)
  none_in low high l f =
      let n : high - 1 ≡ low + (high - 1 - low) = omega (arith, l) in
      let m : low ≡ low + 1 - 1 = omega arith in
      ap (last_end breakpoints watches start) n ∙ joined low (high - 1 - low)
      ∙ ap (λ x. first_of x (last_end breakpoints watches start low)) (sym f) ∙ ap (last_end breakpoints watches start) m

  -- it is the last end
  within_last : (k : ℕ) (e : RunEnd) → EndsLast breakpoints watches start k (Some e) → reason_after breakpoints watches start k ≡ None
      → EndsLast breakpoints watches start (suc k) (Some e)
  within_last k e h none = (
    h.0,
    h.1,
    record {
      within = (let l = h.2.within in omega (arith, l));
      found = h.2.found;
      none_later = λ i l m. subst (λ n. i < n → reason_after breakpoints watches start i ≡ None) (let n : k + 1 ≡ suc k = omega arith in n)
          (λ b. below_more (λ j. h.0 < j → reason_after breakpoints watches start j ≡ None) k (λ j b a. h.2.none_later j a b) (λ a. none) i b l) m;
    },
  )

  more_none : (k : ℕ) → HasNoEnd breakpoints watches start k → reason_after breakpoints watches start k ≡ None → HasNoEnd breakpoints watches start (suc k)
  more_none k h none = subst (HasNoEnd breakpoints watches start) (let n : k + 1 ≡ suc k = omega arith in n)
      (below_more (λ j. reason_after breakpoints watches start j ≡ None) k h none)

  here : (k : ℕ) (why : Reason) → reason_after breakpoints watches start k ≡ Some why → EndsLast breakpoints watches start (suc k) (Some (ends_after (suc k) why))
  here k why e = (k, refl, record { within = omega arith; found = e; none_later = λ i l m. absurd (omega (arith, l, m)) })

  by_reason : (k : ℕ) (r : Option Reason) → reason_after breakpoints watches start k ≡ r → (x : Option RunEnd) → EndsLast breakpoints watches start k x
      → EndsLast breakpoints watches start (suc k) (elim r [ Some w ↦ Some (ends_after (suc k) w) | None ↦ x ])
  by_reason k (Some why) e x h = here k why e
  by_reason k None e None h = more_none k h e
  by_reason k None e (Some f) h = within_last k f h e

  pub is_last : (k : ℕ) → EndsLast breakpoints watches start k (last_end breakpoints watches start k)
  is_last zero = λ i l. absurd (omega (arith, l))
  is_last (suc k) = by_reason k (reason_after breakpoints watches start k) refl (last_end breakpoints watches start k) (is_last k)

  -- of two places neither is later
  not_later : (k i j : ℕ) (a b : Reason) → IsLastEnd breakpoints watches start k i a → IsLastEnd breakpoints watches start k j b → i < j → ⊥
  not_later k i j a b e f l = let x : Some b ≡ None = sym f.found ∙ e.none_later j l f.within in absurd cc

  one_last : (k : ℕ) (x y : Option RunEnd) → EndsLast breakpoints watches start k x → EndsLast breakpoints watches start k y → x ≡ y
  one_last k None None h g = refl
  one_last k None (Some f) h g = let x : Some f.why ≡ None = sym g.2.found ∙ h g.0 g.2.within in absurd cc
  one_last k (Some e) None h g = let x : Some e.why ≡ None = sym h.2.found ∙ g h.0 h.2.within in absurd cc
  one_last k (Some e) (Some f) h g =
      let n : ¬ (h.0 < g.0) = not_later k h.0 g.0 e.why f.why h.2 g.2 in
      let m : ¬ (g.0 < h.0) = not_later k g.0 h.0 f.why e.why g.2 h.2 in
      let same : h.0 ≡ g.0 = omega (arith, n, m) in
      let whys : Some e.why ≡ Some f.why = sym h.2.found ∙ ap (reason_after breakpoints watches start) same ∙ g.2.found in
      ap (λ n. Some (ends_after n e.why)) (h.1 ∙ ap suc same ∙ sym g.1) ∙ ap (elim_why f.steps) whys
    where
      elim_why : ℕ → Option Reason → Option RunEnd
      elim_why n None = None
      elim_why n (Some w) = Some (ends_after n w)

  pub is_one : (k : ℕ) (x : Option RunEnd) → EndsLast breakpoints watches start k x → x ≡ last_end breakpoints watches start k
  is_one k x h = one_last k x (last_end breakpoints watches start k) h (is_last k)

  pub few_steps : (k : ℕ) (x : Option RunEnd) → EndsLast breakpoints watches start k x → (e : RunEnd) → x ≡ Some e → e.steps ≤ k
  few_steps k None h e q = absurd cc
  few_steps k (Some f) h e q =
      let s : f.steps ≡ e.steps = ap steps_in q in
      let l = h.2.within in
      let t = h.1 in
      omega (arith, s, l, t)
    where
      steps_in : Option RunEnd → ℕ
      steps_in None = 0
      steps_in (Some e) = e.steps

pub last_end_computed : LastEndIsComputed
last_end_computed breakpoints watches start k = is_last breakpoints watches start k

pub last_end_unique : LastEndIsUnique
last_end_unique breakpoints watches start k x h = is_one breakpoints watches start k x h

-- a run from there meets no reason before the step that it came from
pub runs_on : RunsOnToWhereItWas
runs_on breakpoints watches start k j why h m l e =
    let from = later (suc j) start in
    let reason_there : (i : ℕ) → reason_after breakpoints watches from i ≡ reason_after breakpoints watches start (suc j + i) =
    λ i. ap (λ x. reason breakpoints watches x (later (suc i) from)) (add_up (suc j) i start)
    ∙ ap (λ x. reason breakpoints watches (later (suc j + i) start) x)
    (add_up (suc j) (suc i) start ∙ ap (λ n. later n start) (let n : suc j + suc i ≡ suc (suc j + i) = omega arith in n)) in
    let none : (i : ℕ) → i < m → reason_after breakpoints watches from i ≡ None =
    λ i b. reason_there i ∙ h.none_later (suc j + i) (omega arith) (omega (arith, b, e)) in
    let n : suc (m - 1) ≡ m = omega (arith, l) in
    sym (run_end_unique breakpoints watches from m (m - 1) Count (record {
      within = omega (arith, l);
      none_earlier = λ i b. none i (omega (arith, b));
      ends = subst (λ r. EndsBy m (suc (m - 1)) r Count) (sym (none (m - 1) (omega (arith, l)))) (n, refl);
    })) ∙ ap (λ x. ends_after x Count) n

-- Runs that turn the head, followed step by step.
use Rattle.std.specs.Prelude.{◌<◌, length, IfSome}
use Rattle.std.proofs.Common.{◌≡◌, ℕ, suc, ◌+◌, ◌≤◌, Bool, true, false, List, [], ◌∷◌, ◌++◌, slice_get, Option, Some, None, refl, sym, ap, ◌∙◌, subst, arith, length-append}
use Rattle.vcm_num.specs.declared.point.Point.{Point}
use Rattle.vcm_num.specs.Point.{is_near}
use Rattle.vcm_spec.specs.declared.stop.StopPlace.{StopPlace}
use Rattle.vcm_spec.specs.Setup.{Tables}
use Rattle.vcm_spec.specs.Stepping.{unless_stopped}
use Rattle.vcm_spec.specs.Workpiece.{Workpiece}
use Rattle.vcm_spec.specs.World.{World}
use Rattle.vcm_code.specs.Code.{CodeStatement}
use Rattle.vcm_code.specs.declared.code.Code.{Code}
use Rattle.vcm_machine.specs.Running.{WantsMemory}
use Rattle.vcm_steps.specs.Passages.{passage}
use Rattle.vcm_probe_set.specs.Probes.{Probe}
use Rattle.vcm_turning.specs.declared.ended.Ended.{Ended}
use Rattle.vcm_turning.specs.declared.ended.Ended.TheVariants as end
use Rattle.vcm_turning.specs.declared.turn.Turn.{Turn}
use Rattle.vcm_turning.specs.Choosing.{probe_on}
use Rattle.vcm_turning.specs.Turning.{Turned, is_lost, put_behind, stepped, left, taken, by_loss, turn_at, turn_step, turned_after}
use Rattle.vcm_turning.specs.Machine.{Turner, turner, turned_of, carrier, StandsAt, HangsNear, HasTurned, HasRunTurned}
use Rattle.vcm_turning.specs.Steps.{TurnedStep, step_between, steps_at, steps_from, turned_steps}
use Rattle.vcm_turning.specs.Following.{WasNextTurned, told_step, IsBrokenOff}
use Rattle.vcm_turning.specs.inner.Standing.{later, next_step, IsLater, EndsHere}

-- the statement that is next, as the code read it
pub stands_there : (m : Turner) (c : Code) (number : ℕ) (s : CodeStatement) → m.code ≡ c → number ≡ m.state.next → slice_get c.statements number ≡ Some s → StandsAt m s
stands_there m c number s e f g = ap (λ (x : Code). slice_get x.statements m.state.next) e ∙ ap (slice_get c.statements) (sym f) ∙ g

-- ---- one step

module _ (old new : Turner) (turn : Turn) (h : HasTurned old turn new) (s : CodeStatement) (stands : StandsAt old s) (running : old.state.world.stop ≡ None)
    (held : is_lost old.part.bounds.home old.probes old.variable (turned_of old) s.op ≡ false) where
  abbrev t : Turned
  t = turned_of old

  later_is : later old ≡ turned_of new
  later_is =
      ap (λ (o : Option StopPlace). unless_stopped o t (turn_at old.part old.probes old.variable old.code t (slice_get old.code.statements old.state.next))) running
      ∙ ap (turn_at old.part old.probes old.variable old.code t) stands
      ∙ ap (λ (b : Bool). by_loss b (left old.variable t s) (taken old.part old.probes old.variable old.code t)) held
      ∙ h.taken

  -- the statement came next, and the machine hangs near behind it
  pub was_next : (fits : Workpiece → List Probe → Code → Type 0) (known : World → Type 0) (before after : World) (on : Option ℕ) → fits old.part old.probes old.code
      → is_near old.state.world.position ≡ true → IfSome old.on (λ i. i < length old.probes) → HangsNear (probe_on new.probes new.on) new.state.world.position
      → before ≡ old.state.world → after ≡ new.state.world → on ≡ old.on → known before → WasNextTurned fits known on s turn after
  was_next fits known before after on fit near there hangs eb ea eo k = record {
    before = before;
    tables = old.code.tables;
    is_next = record {
      machine = old;
      fit = fit;
      stands = stands;
      running = running;
      held = held;
      near = near;
      world_is = sym eb;
      on_is = sym eo;
      there = there;
      tables_are = refl;
    };
    known_before = k;
    new = new;
    turned = h;
    hangs = hangs;
    after_is = sym ea;
  }

  module _ (done : ℕ) where
    abbrev between : List TurnedStep
    between =
        step_between old.probes old.variable (suc done) t s (stepped old.part old.probes old.code t) (taken old.part old.probes old.variable old.code t) ∷ []

    step_is : next_step done old ≡ between
    step_is =
        ap (λ (o : Option StopPlace). unless_stopped o [] (steps_at old.part old.probes old.variable old.code (suc done) t (slice_get old.code.statements old.state.next))) running
        ∙ ap (steps_at old.part old.probes old.variable old.code (suc done) t) stands
        ∙ ap (λ (b : Bool). by_loss b [] between) held

    abbrev of : (count number : ℕ) (before after : World) (next : ℕ) (on put : Option ℕ) (stood : Point) → List TurnedStep
    of count number before after next on put stood =
        record { passage = passage count number s before after next; on = on; put = put; stood = stood } ∷ []

    -- what a machine showed before and behind a step is the step
    pub told_is : (number : ℕ) (before after : World) (next : ℕ) (on : Option ℕ) → number ≡ old.state.next → before ≡ old.state.world → after ≡ new.state.world
        → next ≡ new.state.next → on ≡ old.on → told_step (done + 1) number s before after next on turn ∷ [] ≡ next_step done old
    told_is number before after next on en eb ea ex eo =
        let count : done + 1 ≡ suc done = omega arith in
        let behind = sym h.taken in
        ap (λ (k : ℕ). of k number before after next on turn.put turn.stood) count
        ∙ ap (λ (k : ℕ). of (suc done) k before after next on turn.put turn.stood) en
        ∙ ap (λ (w : World). of (suc done) old.state.next w after next on turn.put turn.stood) eb
        ∙ ap (λ (w : World). of (suc done) old.state.next old.state.world w next on turn.put turn.stood) (ea ∙ ap (λ (x : Turned). x.state.world) behind)
        ∙ ap (λ (k : ℕ). of (suc done) old.state.next old.state.world (taken old.part old.probes old.variable old.code t).state.world k on turn.put turn.stood)
        (ex ∙ ap (λ (x : Turned). x.state.next) behind)
        ∙ ap (λ (o : Option ℕ). of (suc done) old.state.next old.state.world (taken old.part old.probes old.variable old.code t).state.world
        (taken old.part old.probes old.variable old.code t).state.next o turn.put turn.stood) eo
        ∙ ap (λ (o : Option ℕ). of (suc done) old.state.next old.state.world (taken old.part old.probes old.variable old.code t).state.world
        (taken old.part old.probes old.variable old.code t).state.next old.on o turn.stood) h.put
        ∙ ap (λ (p : Point). of (suc done) old.state.next old.state.world (taken old.part old.probes old.variable old.code t).state.world
        (taken old.part old.probes old.variable old.code t).state.next old.on (put_behind old.probes old.variable (stepped old.part old.probes old.code t) old.on) p) h.stood
        ∙ sym step_is

  pub is_later : IsLater old new
  is_later = record {
    part_is = h.part_is;
    probes_are = h.probes_are;
    variable_is = h.variable_is;
    code_is = h.code_is;
    state_is = sym later_is;
    one = λ k. ap length (step_is k);
  }

-- what follows by one's tables follows by those that are the same
pub carried : (A : Tables → Type 0) (B : Tables → List TurnedStep → Type 0) (t u : Tables) (ps qs rs : List TurnedStep) → t ≡ u → qs ≡ rs
    → (A t → B t (ps ++ qs)) → A u → B u (ps ++ rs)
carried A B t u ps qs rs e f h a = subst (λ q. B u (ps ++ q)) f (subst (λ t. B t (ps ++ qs)) e (h (subst A (sym e) a)))

pub carried_off : (A B : Tables → Type 0) (t u : Tables) → t ≡ u → (A t → B t) → A u → B u
carried_off A B t u e h a = subst B e (h (subst A (sym e) a))

-- ---- all steps

module _ (part : Workpiece) (ps : List Probe) (v : ℕ) (c : Code) where
  -- so many steps are taken, and followed
  pub record IsFollowed (n : ℕ) (m : Turner) (done : ℕ) (has : List TurnedStep → Type 0) : Type 0 where
    pub part_is : m.part ≡ part
    pub probes_are : m.probes ≡ ps
    pub variable_is : m.variable ≡ v
    pub code_is : m.code ≡ c
    pub reached : turned_of m ≡ turned_after part ps v c done
    pub few : done ≤ n
    pub each : length (turned_steps part ps v c done) ≡ done
    pub followed : has (turned_steps part ps v c done)

  -- none is taken at the start
  pub begins : (n : ℕ) (m : Turner) (has : List TurnedStep → Type 0) → m ≡ turner part ps v c → has [] → IsFollowed n m 0 has
  begins n m has e h = record {
    part_is = ap (λ (x : Turner). x.part) e;
    probes_are = ap (λ (x : Turner). x.probes) e;
    variable_is = ap (λ (x : Turner). x.variable) e;
    code_is = ap (λ (x : Turner). x.code) e;
    reached = ap turned_of e;
    few = omega arith;
    each = refl;
    followed = h;
  }

  module _ (n : ℕ) (m : Turner) (k : ℕ) (has : List TurnedStep → Type 0) (w : IsFollowed n m k has) where
    same : {B : Type 0} (f : Workpiece → List Probe → ℕ → Code → Turned → B)
        → f m.part m.probes m.variable m.code (turned_of m) ≡ f part ps v c (turned_after part ps v c k)
    same f =
        ap (λ (x : Workpiece). f x m.probes m.variable m.code (turned_of m)) w.part_is
        ∙ ap (λ (x : List Probe). f part x m.variable m.code (turned_of m)) w.probes_are
        ∙ ap (λ (x : ℕ). f part ps x m.code (turned_of m)) w.variable_is
        ∙ ap (λ (x : Code). f part ps v x (turned_of m)) w.code_is
        ∙ ap (f part ps v c) w.reached

    next_is : later m ≡ turned_after part ps v c (suc k)
    next_is = same turn_step

    steps_are : next_step k m ≡ steps_from part ps v c (suc k) (turned_after part ps v c k)
    steps_are = same (λ p q x d t. steps_from p q x d (suc k) t)

    pub still_fits : (fits : Workpiece → List Probe → Code → Type 0) → fits part ps c → fits m.part m.probes m.code
    still_fits fits h =
        subst (λ (x : Workpiece). fits x m.probes m.code) (sym w.part_is)
        (subst (λ (x : List Probe). fits part x m.code) (sym w.probes_are) (subst (fits part ps) (sym w.code_is) h))

    pub goes_on : (new : Turner) (more : List TurnedStep → Type 0) → k < n → IsLater m new → ((ss : List TurnedStep) → has ss → more (ss ++ next_step k m))
        → IsFollowed n new (k + 1) more
    goes_on new more l e h =
        let count : suc k ≡ k + 1 = omega arith in
        let all = turned_steps part ps v c k in
        let more_steps = steps_from part ps v c (suc k) (turned_after part ps v c k) in
        subst (λ (j : ℕ). IsFollowed n new j more) count (record {
          part_is = e.part_is ∙ w.part_is;
          probes_are = e.probes_are ∙ w.probes_are;
          variable_is = e.variable_is ∙ w.variable_is;
          code_is = e.code_is ∙ w.code_is;
          reached = e.state_is ∙ next_is;
          few = omega (arith, l);
          each = length-append all more_steps ∙ (let a = w.each in let b = ap length steps_are in let d = e.one k in omega (arith, a, b, d));
          followed = subst (λ (r : List TurnedStep). more (turned_steps part ps v c k ++ r)) steps_are (h (turned_steps part ps v c k) w.followed);
        })

    pub breaks : (s : TurnedStep) (broke : List TurnedStep → TurnedStep → Type 0) → k < n → s.passage.count ≡ k + 1 → next_step k m ≡ s ∷ []
        → ((ss : List TurnedStep) → has ss → broke ss s) → IsBrokenOff n part ps v c broke
    breaks s broke l count e h = record {
      done = k;
      last = s;
      few = l;
      count_is = count ∙ (let e : k + 1 ≡ suc k = omega arith in e);
      steps_are = ap (λ (r : List TurnedStep). turned_steps part ps v c k ++ r) (sym steps_are ∙ e);
      broken = h (turned_steps part ps v c k) w.followed;
    }

    pub stopped : (p : StopPlace) → m.state.world.stop ≡ Some p → HasRunTurned n part ps v c m (record { done = k; end = end.Stopped })
    stopped p e = record { probes_are = w.probes_are; code_is = w.code_is; reached = w.reached; few = w.few; each = w.each; ended = (p, sym (ap (λ (t : Turned). t.state.world.stop) w.reached) ∙ e) }

    pub counted : n ≤ k → m.state.world.stop ≡ None → HasRunTurned n part ps v c m (record { done = k; end = end.Count })
    counted l e = record {
      probes_are = w.probes_are;
      code_is = w.code_is;
      reached = w.reached;
      few = w.few;
      each = w.each;
      ended = (let few = w.few in omega (arith, few, l), sym (ap (λ (t : Turned). t.state.world.stop) w.reached) ∙ e);
    }

    ends_so : k < n → (e : Ended) → EndsHere m e → HasRunTurned n part ps v c m (record { done = k; end = e })
    ends_so l end.Count h = absurd h
    ends_so l end.Stopped h = absurd h
    ends_so l (end.Lost e) h = record { probes_are = w.probes_are; code_is = w.code_is; reached = w.reached; few = w.few; each = w.each; ended = (l, sym (ap (λ (t : Turned). t.ended) next_is) ∙ h) }
    ends_so l end.NoMemory h = record { probes_are = w.probes_are; code_is = w.code_is; reached = w.reached; few = w.few; each = w.each; ended = (l, subst WantsMemory (same (λ p q x d t. carrier p q d t)) h) }

    pub ends : (new : Turner) (e : Ended) → k < n → new ≡ m → EndsHere m e → HasRunTurned n part ps v c new (record { done = k; end = e })
    ends new e l is h = subst (λ (x : Turner). HasRunTurned n part ps v c x (record { done = k; end = e })) (sym is) (ends_so l e h)

-- Another step of a run with several probes, or why there is none.
use Rattle.std.specs.Prelude.{◌<◌, MatchOption}
use Rattle.std.proofs.Common.{◌≡◌, ℕ, zero, suc, ◌+◌, Bool, true, false, List, [], ◌∷◌, length, slice_get, Option, Some, None, refl, sym, ap, ◌∙◌, subst, arith, below_more}
use Rattle.std.specs.Option.{is_some}
use Rattle.vcm_spec.specs.declared.stop.StopPlace.{StopPlace}
use Rattle.vcm_spec.specs.Stepping.{unless_stopped}
use Rattle.vcm_spec.specs.Workpiece.{Workpiece}
use Rattle.vcm_code.specs.declared.code.Code.{Code}
use Rattle.vcm_code.specs.Code.{CodeStatement}
use Rattle.vcm_code.specs.CodeTable.{CodeState}
use Rattle.vcm_machine.specs.Running.{WantsMemory}
use Rattle.vcm_probe_set.specs.Probes.{Probe}
use Rattle.vcm_turning.specs.declared.ended.NoProbe.{NoProbe}
use Rattle.vcm_turning.specs.declared.turn.Turn.{Turn}
use Rattle.vcm_turning.specs.Choosing.{value_of}
use Rattle.vcm_turning.specs.Turning.{Turned, turned, is_lost, put_behind, put_on, stepped, left, taken, by_loss, turn_at, unless_ended}
use Rattle.vcm_turning.specs.Machine.{Turner, turned_of, carrier, HasTurned}
use Rattle.vcm_set_debug.specs.Reached.{Reached, behind, state_at, now, machine_at, lost, goes}
use Rattle.vcm_set_debug.specs.inner.Going.{turner_of, HasReached}

-- ---- whether a step is taken

pub go_stop : (o : Option StopPlace) (l : Option NoProbe) → unless_stopped o false (unless_ended l false true) ≡ true → o ≡ None
go_stop None l e = refl
go_stop (Some p) l e = absurd cc

pub go_loss : (o : Option StopPlace) (l : Option NoProbe) → unless_stopped o false (unless_ended l false true) ≡ true → l ≡ None
go_loss None None e = refl
go_loss None (Some x) e = absurd cc
go_loss (Some p) l e = absurd cc

pub both_none : (o : Option StopPlace) (l : Option NoProbe) → o ≡ None → l ≡ None → unless_stopped o false (unless_ended l false true) ≡ true
both_none None None e f = refl
both_none None (Some x) e f = absurd cc
both_none (Some p) l e f = absurd cc

-- the statement of a number that there is
there : (xs : List CodeStatement) (i : ℕ) → i < length xs → (s : CodeStatement) × (slice_get xs i ≡ Some s)
there [] i l = absurd (omega arith)
there (x ∷ xs) zero l = (x, refl)
there (x ∷ xs) (suc i) l = there xs i (omega arith)

put_ended : (ps : List Probe) (m : CodeState) (on o : Option ℕ) → (put_on ps m on o).ended ≡ None
put_ended ps m on None = refl
put_ended ps m on (Some i) = refl

module _ (r : Reached) where
  abbrev t : Turned
  t = now r

  abbrev one : Option NoProbe → Option StopPlace → Turned
  one e o = unless_ended e t (unless_stopped o t (turn_at r.part r.probes r.variable r.code t (slice_get r.code.statements t.state.next)))

  -- at a stop the run doesn't end without a probe
  pub stopped_held : (o : Option StopPlace) → t.ended ≡ None → t.state.world.stop ≡ o → is_some o ≡ true → lost r r.count ≡ None
  stopped_held None going e f = absurd cc
  stopped_held (Some p) going e f =
      ap (λ (x : Option NoProbe). (one x t.state.world.stop).ended) going ∙ ap (λ (x : Option StopPlace). (one None x).ended) e ∙ going

  -- the machine's own state
  turned_is : t.ended ≡ None → turned_of (turner_of r) ≡ t
  turned_is going = ap (λ (o : Option NoProbe). record { state = t.state; on = t.on; ended = o }) (sym going)

  module _ (going : t.ended ≡ None) (running : t.state.world.stop ≡ None) (s : CodeStatement) (stands : slice_get r.code.statements t.state.next ≡ Some s) where
    abbrev is_so : Bool
    is_so = is_lost r.part.bounds.home r.probes r.variable t s.op

    abbrev by : Bool → Turned
    by b = by_loss b (left r.variable t s) (taken r.part r.probes r.variable r.code t)

    step_is : state_at r (suc r.count) ≡ by is_so
    step_is =
        ap (λ (x : Option NoProbe). one x t.state.world.stop) going
        ∙ ap (λ (x : Option StopPlace). one None x) running
        ∙ ap (turn_at r.part r.probes r.variable r.code t) stands

    -- what the machine answers is why it ends
    pub loss_is : (o : Option NoProbe) → MatchOption o (is_so ≡ false) (λ e. (is_so ≡ true) × (e ≡ record { value = value_of t.state.world r.variable; number = t.state.next; line = s.line }))
        → o ≡ lost r r.count
    loss_is None h =
        sym (ap (λ (x : Turned). x.ended) step_is ∙ ap (λ (b : Bool). (by b).ended) h
        ∙ put_ended r.probes (stepped r.part r.probes r.code t) t.on (put_behind r.probes r.variable (stepped r.part r.probes r.code t) t.on))
    loss_is (Some e) h = ap (λ (x : NoProbe). Some x) h.1 ∙ sym (ap (λ (x : Turned). x.ended) step_is ∙ ap (λ (b : Bool). (by b).ended) h.0)

    held : (b : Bool) → is_so ≡ b → lost r r.count ≡ None → is_so ≡ false
    held false e none = e
    held true e none = absurd (let x : Some (record { value = value_of t.state.world r.variable; number = t.state.next; line = s.line }) ≡ None
        = sym (ap (λ (b : Bool). (by b).ended) e) ∙ sym (ap (λ (x : Turned). x.ended) step_is) ∙ none in cc)

    -- the state behind a step that was taken
    reached : lost r r.count ≡ None → (turn : Turn) (new : Turner) → HasTurned (turner_of r) turn new → turned_of new ≡ state_at r (suc r.count)
    reached none turn new h =
        sym h.taken ∙ ap (taken r.part r.probes r.variable r.code) (turned_is going)
        ∙ sym (ap by (held is_so refl none)) ∙ sym step_is

  -- the machine of these parts
  whole : (new : Turner) (u : Turned) → new.part ≡ r.part → new.probes ≡ r.probes → new.variable ≡ r.variable → new.code ≡ r.code → turned_of new ≡ u
      → new ≡ record { part = r.part; probes = r.probes; variable = r.variable; code = r.code; state = u.state; on = u.on }
  whole new u a b d e f =
      ap (λ (x : Workpiece). record { part = x; probes = new.probes; variable = new.variable; code = new.code; state = new.state; on = new.on }) a
      ∙ ap (λ (x : List Probe). record { part = r.part; probes = x; variable = new.variable; code = new.code; state = new.state; on = new.on }) b
      ∙ ap (λ (x : ℕ). record { part = r.part; probes = r.probes; variable = x; code = new.code; state = new.state; on = new.on }) d
      ∙ ap (λ (x : Code). record { part = r.part; probes = r.probes; variable = r.variable; code = x; state = new.state; on = new.on }) e
      ∙ ap (λ (x : Turned). record { part = r.part; probes = r.probes; variable = r.variable; code = r.code; state = x.state; on = x.on }) f

  -- a step that was taken leads one step farther
  pub farther : (m new : Turner) (turn : Turn) → HasReached r m → goes r r.count ≡ true → t.state.next < length r.code.statements → HasTurned m turn new
      → HasReached (behind r (r.count + 1)) new
  farther m new turn h go within turned =
      let count : suc r.count ≡ r.count + 1 = omega arith in
      let none = go_loss t.state.world.stop (lost r r.count) go in
      let s = there r.code.statements t.state.next within in
      let step = subst (λ (x : Turner). HasTurned x turn new) h.machine_is turned in
      let state = reached h.going (go_stop t.state.world.stop (lost r r.count) go) s.0 s.1 none turn new step in
      record {
        machine_is = whole new (state_at r (suc r.count)) step.part_is step.probes_are step.variable_is step.code_is state ∙ ap (λ (n : ℕ). turner_of (behind r n)) count;
        going = subst (λ (n : ℕ). (state_at r n).ended ≡ None) count none;
        taken = below_more (λ (i : ℕ). goes r i ≡ true) r.count h.taken go;
      }

  -- want of memory, told of the machine
  pub wants : (m : Turner) → HasReached r m → WantsMemory (carrier m.part m.probes m.code (turned_of m)) → WantsMemory (machine_at r r.count)
  wants m h w = subst (λ (x : Turner). WantsMemory (carrier x.part x.probes x.code (turned_of x))) h.machine_is w

-- Sessions whose machine has moved.
use Rattle.std.proofs.Common.{◌≡◌, ℕ, ◌+◌, ◌-◌, ◌≤◌, ◌<◌, ℤ, None, Bool, List, length, Err, refl, sym, ap, ◌∙◌, subst, arith}
use Rattle.vcm_spec.specs.Workpiece.{Workpiece}
use Rattle.vcm_code.specs.declared.code.Code.{Code}
use Rattle.vcm_machine.specs.Running.{Running, started, later, WantsMemory, RunEnded, HasRun}
use Rattle.vcm_machine.specs.declared.ran.Ran.{Ran}
use Rattle.vcm_machine.specs.declared.ran.End.TheVariants as ends
use Rattle.vcm_machine.proofs.LawLemmas.{add_up}
use Rattle.vcm_debug.specs.Debugging.{Debugging, after, shown}
use Rattle.vcm_debug.specs.Halting.{reason_after}
use Rattle.vcm_debug.specs.Session.{HaltsAfter}
use Rattle.vcm_debug.specs.inner.Going.{IsSession, IsHaltedRun, HasStepped}
use Rattle.vcm_debug.proofs.Coming.{later_effective}

-- so many steps more
pub further : (part : Workpiece) (code : Code) (old new : Running) (count done : ℕ) → old ≡ after part code count → new ≡ later done old → new ≡ after part code (count + done)
further part code old new count done e f = f ∙ ap (λ h. later done h) e ∙ add_up count done (started part code)

-- a machine that was run from `a` to n, or to its stop
module _ (part : Workpiece) (code : Code) (old new : Running) (a n : ℕ) (ran : Ran) (e : old ≡ after part code a) (l : a ≤ n) (r : HasRun (n - a) old new ran) where
  all_of : later (n - a) old ≡ after part code n
  all_of =
      let k : a + (n - a) ≡ n = omega arith in
      ap (λ h. later (n - a) h) e ∙ add_up a (n - a) (started part code) ∙ ap (λ m. after part code m) k

  pub counted_to : ran.end ≡ ends.Count → new ≡ after part code n
  counted_to c =
      let d = subst (λ x. RunEnded (n - a) old new ran.done x) c r.ended in
      r.new_is ∙ ap (λ m. later m old) d.0 ∙ all_of

  pub stopped_by : ran.end ≡ ends.Stopped → new ≡ after part code n
  stopped_by c =
      let d = subst (λ x. RunEnded (n - a) old new ran.done x) c r.ended in
      r.new_is ∙ ap (λ m. later m old) d.0 ∙ sym (later_effective (n - a) old) ∙ all_of

-- the session of a machine that has taken more steps
pub moved_on : (part : Workpiece) (code : Code) (old new : Running) (count done : ℕ) (breakpoints watches : List Bool) (before room : List ℤ)
    → IsSession part code old count breakpoints watches before → new ≡ later done old → length room ≡ length old.code.tables.variables
    → IsSession part code new (count + done) breakpoints watches room
moved_on part code old new count done breakpoints watches before room s e r = record {
  reached = further part code old new count done s.reached e;
  statements = s.statements;
  variables = s.variables;
  room = r ∙ ap (λ x. length x.code.tables.variables) s.reached;
  fits = s.fits;
}

-- the session with a machine of its workpiece and code that has taken n steps
pub moved_to : (part : Workpiece) (code : Code) (old new : Running) (count n : ℕ) (breakpoints watches : List Bool) (before : List ℤ)
    → IsSession part code old count breakpoints watches before → new ≡ after part code n → IsSession part code new n breakpoints watches before
moved_to part code old new count n breakpoints watches before s e =
    record { reached = e; statements = s.statements; variables = s.variables; room = s.room; fits = s.fits }

-- memory was refused in it
pub halts_after : (part : Workpiece) (code : Code) (old new : Running) (count k done : ℕ) (breakpoints watches : List Bool) (d : Debugging)
    → record { part = part; code = code; count = count; breakpoints = breakpoints; watches = watches } ≡ d
    → old ≡ after part code count → HasStepped k old new (Err done)
    → HaltsAfter d k done (record { part = part; code = code; count = count + done; breakpoints = breakpoints; watches = watches })
halts_after part code old new count k done breakpoints watches d is at h =
    subst (λ x. HaltsAfter x k done (record { part = part; code = code; count = count + done; breakpoints = breakpoints; watches = watches })) is
    (record { session = refl; within = h.1; wants = subst WantsMemory (further part code old new count done at h.0) h.2 })

-- memory was refused in a run
pub run_halts : (part : Workpiece) (code : Code) (old new : Running) (count k done : ℕ) (breakpoints watches : List Bool) (d : Debugging)
    → record { part = part; code = code; count = count; breakpoints = breakpoints; watches = watches } ≡ d
    → old ≡ after part code count → IsHaltedRun breakpoints watches k old new done
    → HaltsAfter d k done (record { part = part; code = code; count = count + done; breakpoints = breakpoints; watches = watches })
    × ((i : ℕ) → i < done → reason_after d.breakpoints d.watches (shown d) i ≡ None)
run_halts part code old new count k done breakpoints watches d is at h = (
  halts_after part code old new count k done breakpoints watches d is at (h.new_is, h.within, h.wants),
  subst (λ x. (i : ℕ) → i < done → reason_after x.breakpoints x.watches (shown x) i ≡ None) is
      (λ i l. ap (λ s. reason_after breakpoints watches s i) (sym at) ∙ h.none_ends i l),
)

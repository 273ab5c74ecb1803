-- Why it was not told to its end.
use Rattle.std.proofs.Common.{ℕ, List, Option, Result, Ok, Err, refl}
use Rattle.std.specs.Prelude.{IfErr}
use Rattle.vcm_spec.specs.Workpiece.{Workpiece}
use Rattle.vcm_code.specs.declared.code.Code.{Code}
use Rattle.vcm_cause.specs.declared.watching.Watched.{Watched}
use Rattle.vcm_steps.specs.declared.fault.Unfinished.{Unfinished}
use Rattle.vcm_steps.specs.declared.fault.Unfinished.TheVariants as faults
use Rattle.vcm_backtrace.specs.Sources.{Sourced, IsSourced}
use Rattle.vcm_why.specs.Telling.{IsNoWhy}
use Rattle.vcm_why.specs.inner.Watching.{IsAmple, IsNotTold}

module _ (names : List (List ℕ)) (text : Option (List ℕ)) (traced : Option Sourced) (part : Workpiece) (c : Code) (n : ℕ) (w : Watched) (old new : Option (List ℕ)) (h : IsAmple part c n w)
    (t : IsSourced text traced) where
  fault_told : (f : Unfinished) → IsNotTold names traced part c w f old new → IsNoWhy names text part c n f old new
  fault_told faults.NoMemory k = absurd k
  fault_told (faults.Memory done) k = absurd k
  fault_told (faults.Write done) k = (
    w.world.state.stop,
    record {
      held = w.world;
      number = w.next;
      ran = w.ran;
      progress = w.progress;
      watched = h.watched;
      ample = h.ample;
      traced = traced;
      is_traced = t;
      stop_is = refl;
      written = k;
    },
  )

  pub not_told : {A : Type 0} (r : Result A Unfinished) → IfErr r (λ f. IsNotTold names traced part c w f old new) → IfErr r (λ f. IsNoWhy names text part c n f old new)
  not_told (Ok x) k = tt
  not_told (Err f) k = fault_told f k

-- A machine at the start, and what it holds for each probe.
use Rattle.std.specs.Prelude.{ℤ, pos, replicate, map, option_and_then, slice_get}
use Rattle.std.proofs.Common.{◌≡◌, ℕ, zero, suc, ◌<◌, List, [], ◌∷◌, length, get_or, Option, Some, None, ap, ◌∙◌, sym, arith}
use Rattle.std.proofs.lemmas.List.{length-map}
use Rattle.vcm_spec.specs.Setup.{Tables, setup_of}
use Rattle.vcm_spec.specs.Fitting.{kinds}
use Rattle.vcm_spec.specs.Workpiece.{Workpiece}
use Rattle.vcm_spec.specs.World.{opening_world}
use Rattle.vcm_items.specs.Slots.{SlotsFit}
use Rattle.vcm_state.specs.Held.{Held}
use Rattle.vcm_code.specs.declared.code.Code.{Code}
use Rattle.vcm_code.specs.CodeTable.{pair, code_state}
use Rattle.vcm_machine.specs.Running.{Running}
use Rattle.vcm_machine.proofs.Evaluating.{slots_long}
use Rattle.vcm_machine.proofs.StepLemmas.{at_start}
use Rattle.vcm_probe_set.specs.Probes.{Probe}
use Rattle.vcm_turning.specs.Choosing.{tipped, part_by}
use Rattle.vcm_turning.specs.Machine.{turner}

pub starts : (part : Workpiece) (ps : List Probe) (v : ℕ) (code : Code) (w : Held) (t : Tables) → t ≡ code.tables → w.state ≡ opening_world (setup_of part t)
    → record { part = part; probes = ps; variable = v; code = code; state = code_state w.state 0 (replicate 32 (pair (pos 0) (pos 0))); on = None }
    ≡ turner part ps v code
starts part ps v code w t e h =
    ap (λ (r : Running). record { part = r.part; probes = ps; variable = v; code = r.code; state = r.state; on = None }) (at_start part code w t e h)

-- the variable of a place has a value
pub has_value : (v : ℕ) (t tables : Tables) (zs values : List ℤ) → SlotsFit (kinds t) zs → t ≡ tables → values ≡ zs → v < length tables.variables → v < length values
has_value v t tables zs values fit e f h =
    let many : length values ≡ length tables.variables =
    ap length f ∙ slots_long (kinds t) zs fit ∙ length-map t.variables (λ x. x.kind) ∙ ap (λ (x : Tables). length x.variables) e in
    omega (arith, many, h)

-- the workpiece of a place is that of the probe of this place
module _ {A : Type 0} (f : A → Workpiece) (part : Workpiece) where
  at_place : (xs : List A) (ps : List Probe) (i : ℕ) (x : A) → map f xs ≡ map (λ p. tipped part p.tip) ps → i < length ps
      → f (get_or xs i x) ≡ tipped part (option_and_then (λ p. p.tip) (slice_get ps i))
  at_place xs [] i x e h = absurd (omega arith)
  at_place [] (p ∷ ps) i x e h = absurd (cc)
  at_place (y ∷ xs) (p ∷ ps) zero x e h = cc
  at_place (y ∷ xs) (p ∷ ps) (suc i) x e h = at_place xs ps i x (cc) (omega arith)

  pub part_there : (xs : List A) (ps : List Probe) (each : List Workpiece) (i : ℕ) (x : A) (on : Option ℕ) → map f xs ≡ each → each ≡ map (λ p. tipped part p.tip) ps
      → on ≡ Some i → i < length ps → f (get_or xs i x) ≡ part_by part ps on
  part_there xs ps each i x on e g here h = at_place xs ps i x (e ∙ g) h ∙ ap (part_by part ps) (sym here)

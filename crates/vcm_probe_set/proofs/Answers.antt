-- Two answers to the same bytes are one.
use Rattle.std.proofs.Common.{◌≡◌, ◌≢◌, ℕ, List, Result, Ok, Err, refl, sym, ap, ◌∙◌}
use Rattle.vcm_probe_set.specs.declared.fault.Refusal.{Refusal}
use Rattle.vcm_probe_set.specs.declared.fault.ProbeSetFault.{ProbeSetFault}
use Rattle.vcm_probe_set.specs.declared.fault.ProbeSetFault.TheVariants.{NoMemory, Refused}
use Rattle.vcm_probe_set.specs.Probes.{Probes}
use Rattle.vcm_probe_set.specs.ProbeFile.{set_of, AreProbesRead}

module _ (given : Result Probes Refusal) where
  same_probes : (a b : Probes) → given ≡ Ok a → given ≡ Ok b → a ≡ b
  same_probes a b e f = cc

  same_refusal : (r s : Refusal) → given ≡ Err r → given ≡ Err s → r ≡ s
  same_refusal r s e f = cc

  not_both : {X : Type 0} (a : Probes) (r : Refusal) → given ≡ Ok a → given ≡ Err r → X
  not_both a r e f = absurd (let no_such : Ok a ≡ Err r = sym e ∙ f in cc)

pub one_answer : (bytes : List ℕ) (r s : Result Probes ProbeSetFault) → AreProbesRead bytes r → AreProbesRead bytes s → r ≢ Err NoMemory → s ≢ Err NoMemory → r ≡ s
one_answer bytes (Err NoMemory) s h k m n = absurd (m refl)
one_answer bytes (Ok a) (Err NoMemory) h k m n = absurd (n refl)
one_answer bytes (Err (Refused r)) (Err NoMemory) h k m n = absurd (n refl)
one_answer bytes (Ok a) (Ok b) h k m n = ap Ok (same_probes (set_of bytes) a b h k)
one_answer bytes (Ok a) (Err (Refused r)) h k m n = not_both (set_of bytes) a r h k
one_answer bytes (Err (Refused r)) (Ok a) h k m n = not_both (set_of bytes) a r k h
one_answer bytes (Err (Refused r)) (Err (Refused q)) h k m n = ap (λ x. Err (Refused x)) (same_refusal (set_of bytes) r q h k)

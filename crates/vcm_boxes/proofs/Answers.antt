-- Two answers to the same bytes are one.
use Rattle.std.proofs.Common.{◌≡◌, ◌≢◌, ℕ, List, Result, Ok, Err, refl, sym, ap, ◌∙◌}
use Rattle.vcm_boxes.specs.declared.boxes.ProbeBox.{ProbeBox}
use Rattle.vcm_boxes.specs.declared.fault.Refusal.{Refusal}
use Rattle.vcm_boxes.specs.declared.fault.BoxesFault.{BoxesFault}
use Rattle.vcm_boxes.specs.declared.fault.BoxesFault.TheVariants.{NoMemory, Refused}
use Rattle.vcm_boxes.specs.BoxFile.{boxes_of, AreBoxesRead}

module _ (given : Result (List ProbeBox) Refusal) where
  same_boxes : (bs cs : List ProbeBox) → given ≡ Ok bs → given ≡ Ok cs → bs ≡ cs
  same_boxes bs cs e f = cc

  same_refusal : (r s : Refusal) → given ≡ Err r → given ≡ Err s → r ≡ s
  same_refusal r s e f = cc

  not_both : {X : Type 0} (bs : List ProbeBox) (r : Refusal) → given ≡ Ok bs → given ≡ Err r → X
  not_both bs r e f = absurd (let no_such : Ok bs ≡ Err r = sym e ∙ f in cc)

pub one_answer : (bytes : List ℕ) (r s : Result (List ProbeBox) BoxesFault) → AreBoxesRead bytes r → AreBoxesRead bytes s → r ≢ Err NoMemory → s ≢ Err NoMemory → r ≡ s
one_answer bytes (Err NoMemory) s h k m n = absurd (m refl)
one_answer bytes (Ok bs) (Err NoMemory) h k m n = absurd (n refl)
one_answer bytes (Err (Refused r)) (Err NoMemory) h k m n = absurd (n refl)
one_answer bytes (Ok bs) (Ok cs) h k m n = ap Ok (same_boxes (boxes_of bytes) bs cs h k)
one_answer bytes (Ok bs) (Err (Refused r)) h k m n = not_both (boxes_of bytes) bs r h k
one_answer bytes (Err (Refused r)) (Ok bs) h k m n = not_both (boxes_of bytes) bs r k h
one_answer bytes (Err (Refused r)) (Err (Refused q)) h k m n = ap (λ x. Err (Refused x)) (same_refusal (boxes_of bytes) r q h k)

-- Inputs that weren't read whole, and what is known of an input once it was read.
use Rattle.std.proofs.Common.{◌≡◌, ℕ, ◌≤◌, List, length, Option, Some, None, Result, Ok, Err, ap, subst, arith}
use Rattle.std.specs.Prelude.{IfSome, IfOk, IfErr}
use Rattle.std.proofs.KnownBytes.{Keeps-refl}
use Rattle.vcm_job.specs.declared.reading.ReadFault.{ReadFault}
use Rattle.vcm_job.specs.declared.reading.ReadFault.TheVariants as reads
use Rattle.vcm_job.specs.declared.fault.Fault.{Fault}
use Rattle.vcm_job.specs.declared.fault.Fault.TheVariants.{Refused, NoMemory, Memory, Read, Write, TooLong}
use Rattle.vcm_job.specs.Reading.{most_bytes, IsReadFault}
use Rattle.vcm_job.specs.Unread.{not_read, AnswersUnread}
use Rattle.vcm_job.specs.Unanswered.{IsUnanswered, IsUnwritten}
use Rattle.vcm_job.specs.inner.Judged.{IsRefusedAs, IsCutAs}

pub known : (a : Option (List ℕ)) (P Q : List ℕ → Type 0) → IfSome a P → ((x : List ℕ) → P x → Q x) → IfSome a Q
known None P Q h f = tt
known (Some x) P Q h f = f x h

-- ---- inputs that weren't read whole

pub none_given : {R : Type 0} (refused : List ℕ → R → Type 0) (a b : Option (List ℕ)) (f : ReadFault) → IsReadFault a b f → IsUnanswered refused a b (not_read f)
none_given refused a b reads.NoMemory h = tt
none_given refused a b reads.Device h = h
none_given refused a b reads.TooLong h = h

pub none_written : {R : Type 0} (refused : List ℕ → R → Type 0) (halted cut : ℕ → Option (List ℕ) → Option (List ℕ) → Type 0) (a b : Option (List ℕ)) (f : ReadFault) (old : Option (List ℕ))
    → IsReadFault a b f → IsUnwritten refused halted cut a b (not_read f) old old
none_written refused halted cut a b reads.NoMemory old h = (tt, Keeps-refl old)
none_written refused halted cut a b reads.Device old h = (h, Keeps-refl old)
none_written refused halted cut a b reads.TooLong old h = (h, Keeps-refl old)

-- an input that wasn't read whole has one of these faults
pub unread : {A R : Type 0} (a : Option (List ℕ)) (answer : Result A (Fault R)) (f : ReadFault) → answer ≡ Err (not_read f) → AnswersUnread a answer
unread None answer f e = tt
unread (Some x) answer f e = λ l. (f, e)

-- ---- inputs that were

pub read_whole : {A R : Type 0} (a : Option (List ℕ)) (bytes : List ℕ) (answer : Result A (Fault R)) → IfSome a (λ input. bytes ≡ input) → length bytes ≤ most_bytes → AnswersUnread a answer
read_whole None bytes answer all h = tt
read_whole (Some x) bytes answer all h = λ l. absurd (let e = ap length all in omega arith)

module _ {R : Type 0} (refused : List ℕ → R → Type 0) (a b : Option (List ℕ)) (bytes : List ℕ) (all : IfSome a (λ input. bytes ≡ input)) where
  -- what refuses what was read refuses the input
  refused_of : (f : Fault R) → IsRefusedAs (refused bytes) f → IsUnanswered refused a b f
  refused_of (Refused r) h = known a _ _ all (λ input is. subst (λ i. refused i r) is h)
  refused_of NoMemory h = tt
  refused_of (Memory done) h = absurd h
  refused_of Read h = absurd h
  refused_of (Write done) h = absurd h
  refused_of TooLong h = absurd h

  pub none_given_of : {A : Type 0} (r : Result A (Fault R)) → IfErr r (IsRefusedAs (refused bytes)) → IfErr r (λ f. IsUnanswered refused a b f)
  none_given_of (Ok x) h = tt
  none_given_of (Err f) h = refused_of f h

  module _ (halted cut : ℕ → Option (List ℕ) → Option (List ℕ) → Type 0) where
    pub refused_whole : (f : Fault R) (old : Option (List ℕ)) → IsRefusedAs (refused bytes) f → IsUnwritten refused halted cut a b f old old
    refused_whole (Refused r) old h = (refused_of (Refused r) h, Keeps-refl old)
    refused_whole NoMemory old h = (tt, Keeps-refl old)
    refused_whole (Memory done) old h = absurd h
    refused_whole Read old h = absurd h
    refused_whole (Write done) old h = absurd h
    refused_whole TooLong old h = absurd h

    module _ (stopped front : ℕ → Option (List ℕ) → Option (List ℕ) → Type 0) (old new : Option (List ℕ)) (halts : (done : ℕ) → stopped done old new → halted done old new)
        (cuts : (done : ℕ) → front done old new → cut done old new) where
      cut_of : (f : Fault R) → IsCutAs (refused bytes) stopped front f old new → IsUnwritten refused halted cut a b f old new
      cut_of (Memory done) h = halts done h
      cut_of (Write done) h = cuts done h
      cut_of (Refused r) h = (refused_of (Refused r) h.0, h.1)
      cut_of NoMemory h = (tt, h.1)
      cut_of Read h = absurd h.0
      cut_of TooLong h = absurd h.0

      pub none_written_of : {A : Type 0} (r : Result A (Fault R)) → IfErr r (λ f. IsCutAs (refused bytes) stopped front f old new)
          → IfErr r (λ f. IsUnwritten refused halted cut a b f old new)
      none_written_of (Ok x) h = tt
      none_written_of (Err f) h = cut_of f h

-- what is given of what was read is given of the input
pub given_of : {A F : Type 0} (gives : List ℕ → A → Type 0) (a : Option (List ℕ)) (bytes : List ℕ) (r : Result A F) → IfSome a (λ input. bytes ≡ input) → IfOk r (gives bytes)
    → IfOk r (λ d. IfSome a (λ input. gives input d))
given_of gives a bytes (Ok d) all h = known a _ _ all (λ input is. subst (λ i. gives i d) is h)
given_of gives a bytes (Err f) all h = tt

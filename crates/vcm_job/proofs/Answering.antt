-- Answers that tell something of an input, whatever the command is.
use Rattle.std.proofs.Common.{◌≡◌, ◌⊎◌, inl, inr, ℕ, ◌<◌, List, [], length, Option, Some, None, Result, Ok, Err, refl, sym, ap, ◌∙◌, subst}
use Rattle.std.specs.Prelude.{IfOk, IfErr}
use Rattle.std.specs.Option.{option_map}
use Rattle.std.specs.Io.KnownBytes.{Appends, Keeps}
use Rattle.std.proofs.lemmas.List.{append-nil}
use Rattle.vcm_job.specs.declared.reading.ReadFault.{ReadFault}
use Rattle.vcm_job.specs.declared.reading.ReadFault.TheVariants as reads
use Rattle.vcm_job.specs.declared.fault.Fault.{Fault}
use Rattle.vcm_job.specs.declared.fault.Fault.TheVariants as faults
use Rattle.vcm_job.specs.Reading.{most_bytes}
use Rattle.vcm_job.specs.Unread.{not_read, AnswersUnread}
use Rattle.vcm_job.specs.Unanswered.{IsUnanswered, IsUnwritten}
use Rattle.vcm_job.specs.Causes.{Cause, too_long, fault_cause}
use Rattle.vcm_job.specs.Answers.{IsAnswer, told}
use Rattle.vcm_job.specs.Laws.{WroteTheSame, AreOne, TellOne}

-- a cause is told of an input: this holds of it, or the input is too long; and of one that is too long nothing else is told
pub record Refuses (P : Cause → Type 0) (long : Type 0) (c : Cause) : Type 0 where
  pub says : P c ⊎ (long × (c ≡ too_long))
  pub only : long → c ≡ too_long

-- what an answer tells was told so: an input that isn't too long gives this, and so many bytes were written; or a cause is told of it, and nothing was
abbrev pub Tells : {B : Type 0} → (B → List ℕ → Type 0) → (Cause → Type 0) → Type 0 → Result B Cause → Option (List ℕ) → Option (List ℕ) → Type 0
Tells G P long (Ok b) old new = (long → ⊥) × ((bytes : List ℕ) × (G b bytes × Appends old new bytes))
Tells G P long (Err c) old new = Refuses P long c × Keeps old new

-- nothing was written
none_written : (old new : Option (List ℕ)) → Keeps old new → Appends old new []
none_written None new h = tt
none_written (Some xs) None h = h
none_written (Some xs) (Some ys) h = h ∙ sym (append-nil xs)

-- ---- two answers

module _ {B : Type 0} (G : B → List ℕ → Type 0) (P : Cause → Type 0) (long : Type 0) (one : (a b : B) (xs ys : List ℕ) → G a xs → G b ys → (a ≡ b) × (xs ≡ ys))
    (once : (c d : Cause) → P c → P d → c ≡ d) (never : (b : B) (xs : List ℕ) (c : Cause) → G b xs → P c → ⊥) where
  one_cause : (c d : Cause) → Refuses P long c → Refuses P long d → c ≡ d
  one_cause c d h k = by h.says k.says
    where
      by : P c ⊎ (long × (c ≡ too_long)) → P d ⊎ (long × (d ≡ too_long)) → c ≡ d
      by (inl p) (inl q) = once c d p q
      by (inl p) (inr q) = h.only q.0 ∙ sym q.1
      by (inr p) q = p.1 ∙ sym (k.only p.0)

  no_cause : (b : B) (xs : List ℕ) (c : Cause) → (long → ⊥) → G b xs → Refuses P long c → ⊥
  no_cause b xs c short g h = by h.says
    where
      by : P c ⊎ (long × (c ≡ too_long)) → ⊥
      by (inl p) = never b xs c g p
      by (inr p) = short p.0

  pub one_answer : (x y : Result B Cause) (old new other now : Option (List ℕ)) → Tells G P long x old new → Tells G P long y other now → (x ≡ y) × WroteTheSame old new other now
  one_answer (Ok a) (Ok b) old new other now h k =
      let same = one a b h.1.0 k.1.0 h.1.1.0 k.1.1.0 in
      (ap Ok same.0, (k.1.0, subst (Appends old new) same.1 h.1.1.1, k.1.1.1))
  one_answer (Ok a) (Err d) old new other now h k = absurd (no_cause a h.1.0 d h.0 h.1.1.0 k.0)
  one_answer (Err c) (Ok b) old new other now h k = absurd (no_cause b k.1.0 c k.0 k.1.1.0 h.0)
  one_answer (Err c) (Err d) old new other now h k = (ap Err (one_cause c d h.0 k.0), ([], none_written old new h.1, none_written other now k.1))

-- ---- what an answer tells

-- the cause of a fault that has one
cause_in : {B : Type 0} (o : Option Cause) (x : Result B Cause) → option_map Err o ≡ Some x → (c : Cause) × (o ≡ Some c) × (Err c ≡ x)
cause_in None x e = absurd cc
cause_in (Some c) x e = let same : Err c ≡ x = cc in (c, refl, same)

module _ {A F B : Type 0} (given : A → B) (cause : F → Option Cause) (T : Result B Cause → Type 0) where
  pub telling : (r : Result A F) (x : Result B Cause) → IfOk r (λ a. T (Ok (given a))) → IfErr r (λ f. (c : Cause) → cause f ≡ Some c → T (Err c)) → told given cause r ≡ Some x
      → T x
  telling (Ok a) x h k e = let same : Ok (given a) ≡ x = cc in subst T same h
  telling (Err f) x h k e = let c = cause_in (cause f) x e in subst T c.2 (k c.0 c.1)

-- ---- inputs that are too long

-- one that gives something is not
pub not_long : {A R : Type 0} (input : List ℕ) (a : A) → AnswersUnread {R = R} (Some input) (Ok a) → most_bytes < length input → ⊥
not_long input a h l = let e = (h l).1 in absurd cc

only_long : {R : Type 0} (cause : R → Option Cause) (read : ReadFault) (c : Cause) → fault_cause cause (not_read read) ≡ Some c → c ≡ too_long
only_long cause reads.NoMemory c e = absurd cc
only_long cause reads.Device c e = absurd cc
only_long cause reads.TooLong c e = cc

-- of one that is, nothing else is told
pub long_told : {A R : Type 0} (cause : R → Option Cause) (input : List ℕ) (f : Fault R) (c : Cause) → AnswersUnread {A = A} (Some input) (Err f) → fault_cause cause f ≡ Some c
    → most_bytes < length input → c ≡ too_long
long_told {A} {R} cause input f c h e l =
    let k = h l in
    let fault : f ≡ not_read k.0 = let is = k.1 in cc in
    only_long cause k.0 c (ap (fault_cause cause) (sym fault) ∙ e)

-- that it is too long is told of it
pub told_long : (P : Cause → Type 0) (long : Type 0) (c : Cause) → long → (long → c ≡ too_long) → Refuses P long c
told_long P long c l only = record { says = inr (l, only l); only = only }

-- something else is
pub told_other : (P : Cause → Type 0) (long : Type 0) (c : Cause) → P c → (long → c ≡ too_long) → Refuses P long c
told_other P long c p only = record { says = inl p; only = only }

-- ---- faults

module _ {R : Type 0} (cause : R → Option Cause) (refused : List ℕ → R → Type 0) (input : List ℕ) (P : Cause → Type 0)
    (tell : (r : R) (c : Cause) → refused input r → cause r ≡ Some c → P c) where
  abbrev long : Type 0
  long = most_bytes < length input

  -- why an answer was not given
  pub unanswered_tells : (f : Fault R) (rest : Option (List ℕ)) (c : Cause) → IsUnanswered refused (Some input) rest f → fault_cause cause f ≡ Some c → (long → c ≡ too_long)
      → Refuses P long c
  unanswered_tells (faults.Refused r) rest c h e only = told_other P long c (tell r c h e) only
  unanswered_tells faults.TooLong rest c h e only = told_long P long c h only
  unanswered_tells faults.NoMemory rest c h e only = absurd cc
  unanswered_tells (faults.Memory done) rest c h e only = absurd cc
  unanswered_tells faults.Read rest c h e only = absurd cc
  unanswered_tells (faults.Write done) rest c h e only = absurd cc

  -- why it was not written whole
  pub unwritten_tells : (halted cut : ℕ → Option (List ℕ) → Option (List ℕ) → Type 0) (f : Fault R) (rest old new : Option (List ℕ)) (c : Cause)
      → IsUnwritten refused halted cut (Some input) rest f old new → fault_cause cause f ≡ Some c → (long → c ≡ too_long) → Refuses P long c × Keeps old new
  unwritten_tells halted cut (faults.Memory done) rest old new c h e only = absurd cc
  unwritten_tells halted cut (faults.Write done) rest old new c h e only = absurd cc
  unwritten_tells halted cut (faults.Refused r) rest old new c h e only = (unanswered_tells (faults.Refused r) rest c h.0 e only, h.1)
  unwritten_tells halted cut faults.TooLong rest old new c h e only = (unanswered_tells faults.TooLong rest c h.0 e only, h.1)
  unwritten_tells halted cut faults.NoMemory rest old new c h e only = absurd cc
  unwritten_tells halted cut faults.Read rest old new c h e only = absurd cc

-- ---- two answers of one command

module _ {A B R : Type 0} (given : A → B) (cause : R → Option Cause) (refused : List ℕ → R → Type 0) (input : List ℕ) (G : B → List ℕ → Type 0) (P : Cause → Type 0)
    (tell : (r : R) (c : Cause) → refused input r → cause r ≡ Some c → P c) (one : (a b : B) (xs ys : List ℕ) → G a xs → G b ys → (a ≡ b) × (xs ≡ ys))
    (once : (c d : Cause) → P c → P d → c ≡ d) (never : (b : B) (xs : List ℕ) (c : Cause) → G b xs → P c → ⊥) where
  abbrev Says : Result B Cause → Option (List ℕ) → Option (List ℕ) → Type 0
  Says x old new = Tells G P (most_bytes < length input) x old new

  module _ (gives : A → Option (List ℕ) → Option (List ℕ) → Type 0) (halted cut : ℕ → Option (List ℕ) → Option (List ℕ) → Type 0)
      (wrote : (a : A) (old new : Option (List ℕ)) → gives a old new → (bytes : List ℕ) × (G (given a) bytes × Appends old new bytes)) where
    abbrev IsWritten : Result A (Fault R) → Option (List ℕ) → Option (List ℕ) → Option (List ℕ) → Type 0
    IsWritten r rest old new = IsAnswer (λ a. gives a old new) (λ f. IsUnwritten refused halted cut (Some input) rest f old new) input r

    written_tells : (r : Result A (Fault R)) (rest old new : Option (List ℕ)) (x : Result B Cause) → IsWritten r rest old new → told given (fault_cause cause) r ≡ Some x → Says x old new
    written_tells (Ok a) rest old new x h e = telling given (fault_cause cause) (λ z. Says z old new) (Ok a) x (not_long input a h.long, wrote a old new h.done) tt e
    written_tells (Err f) rest old new x h e =
        telling given (fault_cause cause) (λ z. Says z old new) (Err f) x tt
        (λ c is. unwritten_tells cause refused input P tell halted cut f rest old new c h.fault is (long_told cause input f c h.long is)) e

    -- of a command that writes
    pub written_once : AreOne IsWritten (told given (fault_cause cause))
    written_once r s rest left old new other now x y h k p q =
        one_answer G P (most_bytes < length input) one once never x y old new other now (written_tells r rest old new x h p) (written_tells s left other now y k q)

  module _ (gives : A → Type 0) (gave : (a : A) → gives a → G (given a) []) where
    abbrev IsGiven : Result A (Fault R) → Option (List ℕ) → Type 0
    IsGiven r rest = IsAnswer gives (λ f. IsUnanswered refused (Some input) rest f) input r

    given_tells : (r : Result A (Fault R)) (rest : Option (List ℕ)) (x : Result B Cause) → IsGiven r rest → told given (fault_cause cause) r ≡ Some x → Says x None None
    given_tells (Ok a) rest x h e = telling given (fault_cause cause) (λ z. Says z None None) (Ok a) x (not_long input a h.long, ([], (gave a h.done, tt))) tt e
    given_tells (Err f) rest x h e =
        telling given (fault_cause cause) (λ z. Says z None None) (Err f) x tt
        (λ c is. (unanswered_tells cause refused input P tell f rest c h.fault is (long_told cause input f c h.long is), tt)) e

    -- of one that writes nothing
    pub given_once : TellOne IsGiven (told given (fault_cause cause))
    given_once r s rest left x y h k p q =
        (one_answer G P (most_bytes < length input) one once never x y None None None None (given_tells r rest x h p) (given_tells s left y k q)).0

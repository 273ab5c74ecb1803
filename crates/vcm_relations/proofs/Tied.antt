-- What a command's clauses say of an input, for one that is known, as one answer.
use Rattle.std.specs.Prelude.{◌≡◌, ℕ, ◌≤◌, List, length, Option, Some, None, Result, IfOk, IfErr, IfSome}
use Rattle.std.specs.Global.{Vec}
use Rattle.vcm_job.specs.declared.reading.ReadFault.{ReadFault}
use Rattle.vcm_job.specs.declared.fault.Fault.{Fault}
use Rattle.vcm_job.specs.Reading.{most_bytes, IsReadFault}
use Rattle.vcm_job.specs.Unread.{AnswersUnread}
use Rattle.vcm_job.specs.Answers.{IsAnswer, IsReadAnswer}

-- of a command that writes
pub answer : {A R : Type 0} (gives : List ℕ → A → Option (List ℕ) → Option (List ℕ) → Type 0)
    (fails : Option (List ℕ) → Option (List ℕ) → Fault R → Option (List ℕ) → Option (List ℕ) → Type 0) (before : Option (List ℕ)) (r : Result A (Fault R)) (rest old new : Option (List ℕ))
    → IfOk r (λ a. IfSome before (λ input. gives input a old new)) → IfErr r (λ f. fails before rest f old new) → AnswersUnread before r
    → IfSome before (λ input. IsAnswer (λ a. gives input a old new) (λ f. fails (Some input) rest f old new) input r)
answer gives fails None r rest old new a b c = tt
answer gives fails (Some input) r rest old new a b c = record { done = a; fault = b; long = c }

-- of one that writes nothing
pub given : {A R : Type 0} (gives : List ℕ → A → Type 0) (fails : Option (List ℕ) → Option (List ℕ) → Fault R → Type 0) (before : Option (List ℕ)) (r : Result A (Fault R)) (rest : Option (List ℕ))
    → IfOk r (λ a. IfSome before (λ input. gives input a)) → IfErr r (λ f. fails before rest f) → AnswersUnread before r
    → IfSome before (λ input. IsAnswer (gives input) (λ f. fails (Some input) rest f) input r)
given gives fails None r rest a b c = tt
given gives fails (Some input) r rest a b c = record { done = a; fault = b; long = c }

pub read_all_answer : (before : Option (List ℕ)) (r : Result (Vec ℕ) ReadFault) (rest : Option (List ℕ))
    → IfOk r (λ v. IfSome before (λ input. v.items ≡ input)) → IfOk r (λ v. length v.items ≤ most_bytes)
    → IfErr r (IsReadFault before rest) → IfSome before (λ input. IsReadAnswer input r rest)
read_all_answer None r rest a b c = tt
read_all_answer (Some input) r rest a b c = record { all = a; short = b; fault = c }

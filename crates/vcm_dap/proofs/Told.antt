-- Messages that are told.
use Rattle.std.proofs.Common.{◌≡◌, ℕ, Bool, List, [], ◌∷◌, ◌++◌, Result, Ok, Err, sym, ap, ◌∙◌, subst}
use Rattle.std.specs.Prelude.{IfOk, IfErr}
use Rattle.std.specs.Io.KnownBytes.{Appends}
use Rattle.std.proofs.lemmas.List.{append-nil}
use Rattle.json.specs.Token.{Token}
use Rattle.json.specs.Print.{print}
use Rattle.vcm_wire.specs.Frames.{frame}
use Rattle.vcm_wire.specs.Messages.{Adds}
use Rattle.vcm_dap.specs.Talking.{Talking, next_seq, ended, initialized, IsWritten, Told}
use Rattle.vcm_dap.specs.Telling.{SaysSome}

-- the bytes are these
pub written_as : {A E : Type 0} (old new : Talking) (bytes others : List ℕ) (r : Result A E) → bytes ≡ others → IsWritten old new bytes r → IsWritten old new others r
written_as old new bytes others r e h = subst (λ (x : List ℕ). IsWritten old new x r) e h

-- the message that was made, or couldn't be, is this one
pub made_as : {M F A E : Type 0} (tokens : M → List Token) (old new : Talking) (ts : List Token) (made : Result M F) (r : Result A E) → IfOk made (λ m. tokens m ≡ ts)
    → IfOk made (λ m. Told old new (ended (tokens m)) r) → IfErr made (λ e. (us : List Token) → Told old new us r) → Told old new (ended ts) r
made_as tokens old new ts (Ok m) r e h k = subst (λ (x : List Token). Told old new (ended x) r) e h
made_as tokens old new ts (Err f) r e h k = k (ended ts)

-- one message was told
pub told_one : {A E : Type 0} (old new : Talking) (ts : List Token) (r : Result A E) → Told old new ts r → IfOk r (λ u. SaysSome old new)
told_one old new ts (Ok u) h = (
  ts ∷ [],
  record {
    counted = h.counted;
    written = subst (λ (l : List ℕ). Appends old.written new.written l) (sym (append-nil (frame (print ts)))) h.sent;
  },
)
told_one old new ts (Err e) h = tt

-- tokens behind the same tokens
pub grown : (a b c ts : List Token) → a ≡ b → c ≡ a ++ ts → c ≡ b ++ ts
grown a b c ts e h = h ∙ ap (λ l. l ++ ts) e

pub adds_on : {A E : Type 0} (a b c ts : List Token) (r : Result A E) → a ≡ b → Adds a c ts r → IfOk r (λ u. c ≡ b ++ ts)
adds_on a b c ts (Ok u) e h = h ∙ ap (λ l. l ++ ts) e
adds_on a b c ts (Err f) e h = tt

-- how lines are counted was kept first
pub initial : {A E B F : Type 0} (old mid new : Talking) (is off has had : Bool) (request : ℕ) (command : List ℕ) (u : A) (v : B) → mid ≡ record old { is_from_0 = is }
    → is ≡ off → has ≡ had → Told {A = A} {E = E} mid new (initialized has (next_seq mid.seq) request command) (Ok u)
    → Told {A = B} {E = F} (record old { is_from_0 = off }) new (initialized had (next_seq old.seq) request command) (Ok v)
initial {A} {E} old mid new is off has had request command u v m e i h =
    let same = subst (λ (b : Bool). Told {A = A} {E = E} mid new (initialized b (next_seq mid.seq) request command) (Ok u)) i h in
    let told =
    subst (λ (t : Talking). Told {A = A} {E = E} t new (initialized had (next_seq t.seq) request command) (Ok u)) (m ∙ ap (λ b. record old { is_from_0 = b }) e) same in
    record { counted = told.counted; same = told.same; sent = told.sent }

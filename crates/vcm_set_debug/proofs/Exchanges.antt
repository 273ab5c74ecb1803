-- Answers to lines.
use Rattle.std.proofs.Common.{◌≡◌, ℕ, ◌<◌, Bool, List, [], ◌∷◌, length, Option, Result, Ok, Err, refl, sym, subst, arith}
use Rattle.std.proofs.Common.{inl, inr}
use Rattle.std.specs.Io.KnownBytes.{Appends, Keeps}
use Rattle.std.proofs.KnownBytes.{Appends-kept}
use Rattle.vcm_num.specs.Written.{AppendsFront}
use Rattle.vcm_num.specs.declared.memory.WriteFault.{WriteFault}
use Rattle.vcm_console.specs.declared.reply.Halted.{Halted}
use Rattle.vcm_console.specs.declared.reply.Reply.{Reply}
use Rattle.vcm_console.specs.Parsing.{command_of}
use Rattle.vcm_debug.specs.Serving.{is_bye}
use Rattle.vcm_set_debug.specs.Session.{TurnedDebugging}
use Rattle.vcm_set_debug.specs.Telling.{answer_text}
use Rattle.vcm_set_debug.specs.Serving.{AnswersTo, Exchange, IsExchange}
use Rattle.vcm_set_debug.specs.inner.Exchanges.{HasExchanged}

exchange_of : (old new : TurnedDebugging) (line text : List ℕ) (last : Bool) → 0 < length line → Exchange old line new text last → IsExchange old line new text last
exchange_of old new [] text last l t = absurd (omega arith)
exchange_of old new (b ∷ bs) text last l t = t

-- a line was answered
told_exchange : (old new : TurnedDebugging) (line : List ℕ) (told : Result Reply Halted) → 0 < length line → AnswersTo old (command_of line) new told
    → IsExchange old line new (answer_text new told) (is_bye told)
told_exchange old new line told l a = exchange_of old new line _ _ l (record { told = told; answers = a; text_is = refl; last_is = refl })

-- the answer was written and handed on
pub exchange_told : (old new : TurnedDebugging) (line : List ℕ) (told : Result Reply Halted) (before written after : Option (List ℕ)) (last : Bool) → 0 < length line
    → AnswersTo old (command_of line) new told → Appends before written (answer_text new told) → Keeps written after → last ≡ is_bye told
    → HasExchanged old line new before after (Ok last)
exchange_told old new line told before written after last l a w k e =
    subst (λ b. HasExchanged old line new before after (Ok b)) (sym e)
    (answer_text new told, told_exchange old new line told l a, Appends-kept before written after (answer_text new told) w k)

-- it was written and not handed on
pub exchange_kept : (old new : TurnedDebugging) (line : List ℕ) (told : Result Reply Halted) (before written after : Option (List ℕ)) (e : WriteFault) → 0 < length line
    → AnswersTo old (command_of line) new told → Appends before written (answer_text new told) → Keeps written after → HasExchanged old line new before after (Err e)
exchange_kept old new line told before written after e l a w k =
    (answer_text new told, is_bye told, told_exchange old new line told l a, inr (Appends-kept before written after (answer_text new told) w k))

-- it was not written
pub exchange_cut : (old new : TurnedDebugging) (line : List ℕ) (told : Result Reply Halted) (before after : Option (List ℕ)) (e : WriteFault) → 0 < length line
    → AnswersTo old (command_of line) new told → AppendsFront before after (answer_text new told) → HasExchanged old line new before after (Err e)
exchange_cut old new line told before after e l a w = (answer_text new told, is_bye told, told_exchange old new line told l a, inl w)

-- a line that spells no command is refused
pub refused : (d : TurnedDebugging) (line : List ℕ) (reply : Reply) → Err reply ≡ command_of line → AnswersTo d (command_of line) d (Ok reply)
refused d line reply e = subst (λ r. AnswersTo d r d (Ok reply)) e (refl, refl)

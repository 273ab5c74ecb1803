-- Lines of which only the first bytes are kept.
use Rattle.std.proofs.Common.{◌≡◌, ℕ, ◌+◌, ◌-◌, ◌<◌, ◌≤◌, ◌==◌, Bool, true, false, List, [], ◌∷◌, length, take, sym, ap, ◌∙◌, subst, arith, length-take, Err}
use Rattle.std.specs.Prelude.{nat_le, ◌&&◌, slice_index_or, if◌then◌else◌, ◌⊎◌}
use Rattle.std.proofs.Common.{inl, inr}
use Rattle.std.proofs.lemmas.List.{take_all}
use Rattle.vcm_console.specs.declared.reply.Reply.TheVariants.{Refused}
use Rattle.vcm_console.specs.declared.reply.CommandRefusal.TheVariants.{UnknownCommand}
use Rattle.vcm_debug.specs.Debugging.{Debugging}
use Rattle.vcm_console.specs.Parsing.{has_at_most_two_words, command_of_words, first_word, behind_word, replied, command_of}
use Rattle.vcm_console.specs.Reading.{kept_of}
use Rattle.vcm_debug.specs.Serving.{content, AnswersTo, IsExchange}

too_long : (n : ℕ) → 256 < n → nat_le n 256 ≡ false
too_long n l = grind arith

-- a line over 256 bytes is refused
pub long_refused : (line : List ℕ) → 256 < length line → command_of line ≡ Err (Refused UnknownCommand)
long_refused line l =
    ap (λ b. replied (if b && has_at_most_two_words line then command_of_words (first_word line) (first_word (behind_word line)) else Err UnknownCommand)) (too_long (length line) l)

long_return : (b : Bool) (bs : List ℕ) → length bs ≤ length (if b then take (length bs - 1) bs else bs) + 1
long_return true bs = (let e = length-take (length bs - 1) bs in omega (arith, e))
long_return false bs = omega arith

pub long_content : (bs : List ℕ) (ended : Bool) → length bs ≤ length (content bs ended) + 1
long_content bs true = long_return (slice_index_or bs (length bs - 1) 0 == 13) bs
long_content bs false = omega arith

same_turn : (old new : Debugging) (a b text : List ℕ) (last : Bool) → 0 < length a → 0 < length b → command_of a ≡ command_of b → IsExchange old a new text last → IsExchange old b new text last
same_turn old new [] b text last l m e t = absurd (omega arith)
same_turn old new (x ∷ a) [] text last l m e t = absurd (omega arith)
same_turn old new (x ∷ a) (y ∷ b) text last l m e t = record {
  told = t.told;
  answers = subst (λ r. AnswersTo old r new t.told) e t.answers;
  text_is = t.text_is;
  last_is = t.last_is;
}

pub short_or_long : (n m : ℕ) → (n ≤ m) ⊎ (m < n)
short_or_long n m = grind arith

pub kept_exchange : (old new : Debugging) (raw text : List ℕ) (ended last : Bool) → IsExchange old (content (kept_of raw) ended) new text last → IsExchange old (content raw ended) new text last
kept_exchange old new raw text ended last t = by (short_or_long (length raw) 258)
  where
    by : (length raw ≤ 258) ⊎ (258 < length raw) → IsExchange old (content raw ended) new text last
    by (inl l) = subst (λ x. IsExchange old (content x ended) new text last) (take_all 258 raw l) t
    by (inr l) =
        let k = length-take 258 raw in
        let a = long_content (kept_of raw) ended in
        let b = long_content raw ended in
        let la : 256 < length (content (kept_of raw) ended) = omega (arith, k, a) in
        let lb : 256 < length (content raw ended) = omega (arith, b) in
        same_turn old new (content (kept_of raw) ended) (content raw ended) text last (omega (arith, la)) (omega (arith, lb))
        (long_refused (content (kept_of raw) ended) la ∙ sym (long_refused (content raw ended) lb)) t

-- Lines of which only the first bytes are kept.
use Rattle.std.proofs.Common.{◌≡◌, ℕ, ◌<◌, ◌≤◌, Bool, List, [], ◌∷◌, length, sym, ◌∙◌, subst, arith, length-take, inl, inr}
use Rattle.std.specs.Prelude.{◌⊎◌}
use Rattle.std.proofs.lemmas.List.{take_all}
use Rattle.vcm_console.specs.Parsing.{command_of}
use Rattle.vcm_console.specs.Reading.{kept_of}
use Rattle.vcm_debug.specs.Serving.{content}
use Rattle.vcm_debug.proofs.KeptLines.{long_refused, long_content, short_or_long}
use Rattle.vcm_set_debug.specs.Session.{TurnedDebugging}
use Rattle.vcm_set_debug.specs.Serving.{AnswersTo, IsExchange}

same_turn : (old new : TurnedDebugging) (a b text : List ℕ) (last : Bool) → 0 < length a → 0 < length b → command_of a ≡ command_of b → IsExchange old a new text last → IsExchange old b new text last
same_turn old new [] b text last l m e t = absurd (omega arith)
same_turn old new (x ∷ a) [] text last l m e t = absurd (omega arith)
same_turn old new (x ∷ a) (y ∷ b) text last l m e t = record {
  told = t.told;
  answers = subst (λ r. AnswersTo old r new t.told) e t.answers;
  text_is = t.text_is;
  last_is = t.last_is;
}

pub kept_exchange : (old new : TurnedDebugging) (raw text : List ℕ) (ended last : Bool) → IsExchange old (content (kept_of raw) ended) new text last → IsExchange old (content raw ended) new text last
kept_exchange old new raw text ended last t = by (short_or_long (length raw) 258)
  where
    by : (length raw ≤ 258) ⊎ (258 < length raw) → IsExchange old (content raw ended) new text last
    by (inl l) = subst (λ x. IsExchange old (content x ended) new text last) (take_all 258 raw l) t
    by (inr l) =
        let k = length-take 258 raw in
        let a = long_content (kept_of raw) ended in
        let b = long_content raw ended in
        let la : 256 < length (content (kept_of raw) ended) = omega (arith, k, a) in
        let lb : 256 < length (content raw ended) = omega (arith, b) in
        same_turn old new (content (kept_of raw) ended) (content raw ended) text last (omega (arith, la)) (omega (arith, lb))
        (long_refused (content (kept_of raw) ended) la ∙ sym (long_refused (content raw ended) lb)) t

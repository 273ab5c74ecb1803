use Rattle.std.proofs.Common.{sym, ◌∙◌, ap, [], List, ℕ, Option, Some}
use Rattle.vcm_words.specs.WordReaders.{◌>>=◌}
use Rattle.vcm_words.proofs.TextLaws.{text_from, text_none}
use Rattle.vcm_words.proofs.places.text.Goals as goal

pub returns-in_err-bytes : goal.returns-in_err-bytes
returns-in_err-bytes c = c.from_residual.ensures ∙ sym (text_none c.args.exact c.args.words.now c.in_err-bytes.ensures)

pub returns-in_err-text : goal.returns-in_err-text
returns-in_err-text c =
    c.from_residual-in_err-text.ensures
    ∙ sym (text_from c.args.exact c.args.words.now c.in_ok-bytes.bytes.now c.in_ok-bytes.ensures.1 c.in_ok-bytes.ensures.0
    ∙ ap (λ (o : Option (List ℕ)). o >>= λ bs. Some (bs, [])) (sym c.quoted.ensures ∙ c.in_err-text.was))

pub returns : goal.returns
returns c =
    sym (text_from c.args.exact c.args.words.now c.in_ok-bytes.bytes.now c.in_ok-bytes.ensures.1 c.in_ok-bytes.ensures.0
    ∙ ap (λ (o : Option (List ℕ)). o >>= λ bs. Some (bs, [])) (sym c.quoted.ensures ∙ c.in_ok-text.was)
    ∙ ap (λ (ws : List (List ℕ)). Some (c.in_ok-text.text, ws)) (sym c.none.ensures))

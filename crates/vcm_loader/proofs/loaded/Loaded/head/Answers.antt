use Rattle.std.proofs.Common.{ℕ, List, refl, sym, ap, ◌∙◌}
use Rattle.std.specs.Int.{w32}
use Rattle.vcm_fields.specs.declared.fault.ImageFault.TheVariants.{BadField}
use Rattle.vcm_code.specs.declared.word.Word.{Word}
use Rattle.vcm_code.specs.Words.{has_word}
use Rattle.vcm_fields.specs.Readers.{any_word_at, number_at, operands_at}
use Rattle.vcm_fields.proofs.Inverse.{ok_is}
use Rattle.vcm_fields.proofs.Taking.{tested_is, number_there, line_is}
use Rattle.vcm_loader.proofs.loaded.Loaded.head.Goals as goal

pub known_word-word-requires : goal.known_word-word-requires
known_word-word-requires c =
    let b = c.bytes_from.ensures in
    let p = line_is _ _ b.0 b.1 b.2 in
    (p.word, p.behind_word, (tested_is BadField (has_word _) any_word_at _ p.word p.behind_word p.word_is).0, tt)

pub known_long-line-requires : goal.known_long-line-requires
known_long-line-requires c =
    let b = c.bytes_from.ensures in
    let p = line_is _ _ b.0 b.1 b.2 in
    let both = ok_is _ _ (sym c.known_word-word.ensures ∙ (tested_is BadField (has_word _) any_word_at _ p.word p.behind_word p.word_is).0) in
    number_there w32 _ _ (ap (λ (x : Word × List ℕ). number_at w32 x.1) both ∙ p.line_is)

pub returns : goal.returns
returns c =
    let b = c.bytes_from.ensures in
    let p = line_is _ _ b.0 b.1 b.2 in
    let both = ok_is _ _ (sym c.known_word-word.ensures ∙ (tested_is BadField (has_word _) any_word_at _ p.word p.behind_word p.word_is).0) in
    let line = ok_is _ _ (sym c.known_long-line.ensures ∙ ap (λ (x : Word × List ℕ). number_at w32 x.1) both ∙ p.line_is) in
    let there = ap (λ (x : ℕ × List ℕ). operands_at c.known_word-word.result.0 x.1) line ∙ ap (λ (x : Word × List ℕ). operands_at x.0 p.behind_line) both ∙ p.operands_are in
    (b.0, b.3, ap (λ (x : ℕ × List ℕ). x.0) line, (b.0.op, b.1, there, refl))

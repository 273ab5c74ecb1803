use Rattle.std.proofs.Common.{Ok, sym, ap, ◌∙◌}
use Rattle.vcm_code.specs.Shape.{all_words}
use Rattle.vcm_code.specs.Words.{word_byte}
use Rattle.vcm_fields.specs.Readers.{any_word_at}
use Rattle.vcm_fields.proofs.Taking.{never_fails, gives_it, byte_there, one_is, one_there}
use Rattle.vcm_fields.proofs.tags.known_word.Goals as goal

pub known_byte-number-requires : goal.known_byte-number-requires
unfolding any_word_at
known_byte-number-requires c = let q = one_is word_byte all_words _ _ _ c.requires.2 in byte_there _ _ q.2

pub known-requires : goal.known-requires
unfolding any_word_at
known-requires c = never_fails _ _ _ _ (c.word_with.ensures c.known_byte-number.result.1.now) (one_there word_byte all_words _ _ _ _ _ c.requires.2 c.known_byte-number.ensures)

pub returns : goal.returns
unfolding any_word_at
returns c =
    let there = one_there word_byte all_words _ _ _ _ _ c.requires.2 c.known_byte-number.ensures in
    c.requires.2 ∙ ap Ok (sym (gives_it _ _ _ _ _ (c.word_with.ensures c.known_byte-number.result.1.now) there c.known.ensures))

use Rattle.std.proofs.Common.{refl}
use Rattle.vcm_blocks.specs.Adding.{with_triangle}
use Rattle.vcm_blocks.proofs.laws.blocks_examples.Goals as goal

pub returns-clause-one_turn : goal.returns-clause-one_turn
returns-clause-one_turn c = refl

pub returns-clause-two_turns : goal.returns-clause-two_turns
returns-clause-two_turns c = refl

pub returns-clause-no_quarter : goal.returns-clause-no_quarter
returns-clause-no_quarter c = refl

pub returns-clause-no_turn : goal.returns-clause-no_turn
returns-clause-no_turn c = refl

pub returns-clause-two_words : goal.returns-clause-two_words
returns-clause-two_words c = refl

pub returns-clause-no_name : goal.returns-clause-no_name
returns-clause-no_name c = refl

pub returns-clause-around : goal.returns-clause-around
unfolding with_triangle
returns-clause-around c = refl

pub returns-clause-first_look : goal.returns-clause-first_look
unfolding with_triangle
returns-clause-first_look c = refl

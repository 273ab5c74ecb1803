use Rattle.std.proofs.Common.{refl}
use Rattle.toml.proofs.OnLiterals.{toml_on_literals}
use Rattle.vcm_part.specs.PartFile.{point_at, tip_at, fixture_at, block_of, blocks_from, blocks_at, part_of_table}
use Rattle.vcm_part.proofs.Bytes.{ascii_gives}
use Rattle.vcm_part.proofs.laws.part_examples.Goals as goal

pub returns-clause-no_blocks : goal.returns-clause-no_blocks
unfolding toml_on_literals point_at tip_at fixture_at block_of blocks_from blocks_at part_of_table
returns-clause-no_blocks c = ascii_gives _ _ refl refl

pub returns-clause-one_block : goal.returns-clause-one_block
unfolding toml_on_literals point_at tip_at fixture_at block_of blocks_from blocks_at part_of_table
returns-clause-one_block c = ascii_gives _ _ refl refl

pub returns-clause-two_blocks : goal.returns-clause-two_blocks
unfolding toml_on_literals point_at tip_at fixture_at block_of blocks_from blocks_at part_of_table
returns-clause-two_blocks c = ascii_gives _ _ refl refl

pub returns-clause-home_on_an_edge : goal.returns-clause-home_on_an_edge
unfolding toml_on_literals point_at tip_at fixture_at block_of blocks_from blocks_at part_of_table
returns-clause-home_on_an_edge c = ascii_gives _ _ refl refl

pub returns-clause-too_far : goal.returns-clause-too_far
unfolding toml_on_literals point_at tip_at fixture_at block_of blocks_from blocks_at part_of_table
returns-clause-too_far c = ascii_gives _ _ refl refl

pub returns-clause-no_whole_number : goal.returns-clause-no_whole_number
unfolding toml_on_literals point_at tip_at fixture_at block_of blocks_from blocks_at part_of_table
returns-clause-no_whole_number c = ascii_gives _ _ refl refl

pub returns-clause-low_above : goal.returns-clause-low_above
unfolding toml_on_literals point_at tip_at fixture_at block_of blocks_from blocks_at part_of_table
returns-clause-low_above c = ascii_gives _ _ refl refl

pub returns-clause-tip_clear : goal.returns-clause-tip_clear
unfolding toml_on_literals point_at tip_at fixture_at block_of blocks_from blocks_at part_of_table
returns-clause-tip_clear c = ascii_gives _ _ refl refl

pub returns-clause-tip_on_block : goal.returns-clause-tip_on_block
unfolding toml_on_literals point_at tip_at fixture_at block_of blocks_from blocks_at part_of_table
returns-clause-tip_on_block c = ascii_gives _ _ refl refl

pub returns-clause-tip_too_wide : goal.returns-clause-tip_too_wide
unfolding toml_on_literals point_at tip_at fixture_at block_of blocks_from blocks_at part_of_table
returns-clause-tip_too_wide c = ascii_gives _ _ refl refl

pub returns-clause-tip_no_number : goal.returns-clause-tip_no_number
unfolding toml_on_literals point_at tip_at fixture_at block_of blocks_from blocks_at part_of_table
returns-clause-tip_no_number c = ascii_gives _ _ refl refl

pub returns-clause-fixed : goal.returns-clause-fixed
unfolding toml_on_literals point_at tip_at fixture_at block_of blocks_from blocks_at part_of_table
returns-clause-fixed c = ascii_gives _ _ refl refl

pub returns-clause-fixed_by_a_number : goal.returns-clause-fixed_by_a_number
unfolding toml_on_literals point_at tip_at fixture_at block_of blocks_from blocks_at part_of_table
returns-clause-fixed_by_a_number c = ascii_gives _ _ refl refl

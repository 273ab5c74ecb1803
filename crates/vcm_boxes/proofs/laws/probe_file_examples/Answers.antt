use Rattle.std.proofs.Common.{refl}
use Rattle.toml.proofs.OnLiterals.{toml_on_literals}
use Rattle.vcm_boxes.specs.BoxFile.{name_at, corner_at, box_of, boxes_behind, boxes_of_table}
use Rattle.vcm_boxes.proofs.Examples.{ascii_gives}
use Rattle.vcm_boxes.proofs.laws.probe_file_examples.Goals as goal

pub returns-clause-one_box : goal.returns-clause-one_box
unfolding toml_on_literals name_at corner_at box_of boxes_behind boxes_of_table
returns-clause-one_box c = ascii_gives _ _ refl refl

pub returns-clause-same_name : goal.returns-clause-same_name
unfolding toml_on_literals name_at corner_at box_of boxes_behind boxes_of_table
returns-clause-same_name c = ascii_gives _ _ refl refl

pub returns-clause-tip_below : goal.returns-clause-tip_below
unfolding toml_on_literals name_at corner_at box_of boxes_behind boxes_of_table
returns-clause-tip_below c = ascii_gives _ _ refl refl

pub returns-clause-boxes : goal.returns-clause-boxes
unfolding toml_on_literals name_at corner_at box_of boxes_behind boxes_of_table
returns-clause-boxes c = ascii_gives _ _ refl refl

pub returns-clause-odd_key : goal.returns-clause-odd_key
unfolding toml_on_literals name_at corner_at box_of boxes_behind boxes_of_table
returns-clause-odd_key c = ascii_gives _ _ refl refl

pub returns-clause-nothing : goal.returns-clause-nothing
unfolding toml_on_literals name_at corner_at box_of boxes_behind boxes_of_table
returns-clause-nothing c = ascii_gives _ _ refl refl

pub returns-clause-empty : goal.returns-clause-empty
unfolding toml_on_literals name_at corner_at box_of boxes_behind boxes_of_table
returns-clause-empty c = ascii_gives _ _ refl refl

pub returns-clause-millimetres : goal.returns-clause-millimetres
unfolding toml_on_literals name_at corner_at box_of boxes_behind boxes_of_table
returns-clause-millimetres c = ascii_gives _ _ refl refl

pub returns-clause-above : goal.returns-clause-above
unfolding toml_on_literals name_at corner_at box_of boxes_behind boxes_of_table
returns-clause-above c = ascii_gives _ _ refl refl

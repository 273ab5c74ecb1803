use Rattle.std.proofs.Common.{refl}
use Rattle.toml.proofs.OnLiterals.{toml_on_literals}
use Rattle.vcm_probe_set.specs.Bodies.{bodies_behind}
use Rattle.vcm_probe_set.specs.ProbeFile.{point_at, corner_at, limit_at, box_name_at, box_of, rows_behind, probe_name_at, number_at, tip_at, pose_at, bodies_at, probe_of, probes_at, variable_at, travel_at, swing_at, set_of_table}
use Rattle.vcm_probe_set.proofs.Examples.{ascii_gives, ascii_is}
use Rattle.vcm_probe_set.proofs.laws.probe_set_examples.Goals as goal

pub returns-clause-one_probe : goal.returns-clause-one_probe
unfolding toml_on_literals point_at corner_at limit_at box_name_at box_of rows_behind probe_name_at number_at tip_at pose_at bodies_at probe_of probes_at variable_at travel_at swing_at set_of_table bodies_behind
returns-clause-one_probe c = ascii_gives _ _ refl refl

pub returns-clause-other_variable : goal.returns-clause-other_variable
unfolding toml_on_literals point_at corner_at limit_at box_name_at box_of rows_behind probe_name_at number_at tip_at pose_at bodies_at probe_of probes_at variable_at travel_at swing_at set_of_table bodies_behind
returns-clause-other_variable c = ascii_gives _ _ refl refl

pub returns-clause-same_number : goal.returns-clause-same_number
unfolding toml_on_literals point_at corner_at limit_at box_name_at box_of rows_behind probe_name_at number_at tip_at pose_at bodies_at probe_of probes_at variable_at travel_at swing_at set_of_table bodies_behind
returns-clause-same_number c = ascii_gives _ _ refl refl

pub returns-clause-no_swing : goal.returns-clause-no_swing
unfolding toml_on_literals point_at corner_at limit_at box_name_at box_of rows_behind probe_name_at number_at tip_at pose_at bodies_at probe_of probes_at variable_at travel_at swing_at set_of_table bodies_behind
returns-clause-no_swing c = ascii_gives _ _ refl refl

pub returns-clause-no_low : goal.returns-clause-no_low
unfolding toml_on_literals point_at corner_at limit_at box_name_at box_of rows_behind probe_name_at number_at tip_at pose_at bodies_at probe_of probes_at variable_at travel_at swing_at set_of_table bodies_behind
returns-clause-no_low c = ascii_gives _ _ refl refl

pub returns-clause-other_key : goal.returns-clause-other_key
unfolding toml_on_literals point_at corner_at limit_at box_name_at box_of rows_behind probe_name_at number_at tip_at pose_at bodies_at probe_of probes_at variable_at travel_at swing_at set_of_table bodies_behind
returns-clause-other_key c = ascii_gives _ _ refl refl

pub returns-clause-one_body : goal.returns-clause-one_body
unfolding bodies_behind
returns-clause-one_body c = refl

pub returns-clause-is_several : goal.returns-clause-is_several
unfolding toml_on_literals
returns-clause-is_several c = ascii_is _ _ refl refl

pub returns-clause-is_one : goal.returns-clause-is_one
unfolding toml_on_literals
returns-clause-is_one c = ascii_is _ _ refl refl

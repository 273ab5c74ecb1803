-- Worked rows of measured points, computed.
use Rattle.std.specs.Prelude.{◌≡◌, refl, ℕ, List, [], pos, negsuc, Some, None, true, false, codes}
use Rattle.std.specs.Fmt.{digits}
use Rattle.vcm_num.specs.declared.axis.Axis.TheVariants.{PlusY}
use Rattle.vcm_num.specs.Point.{point}
use Rattle.vcm_spec.specs.declared.feature.Feature.{Feature}
use Rattle.vcm_spec.specs.Frame.{Frame, opening_frame, quarters}
use Rattle.vcm_trace.specs.Deviations.{told_deviation, comparable, beside, root_by, root_down}
use Rattle.vcm_trace.specs.Points.{point_row}

-- a frame that is a quarter turn about z, its origin 5 mm over the machine's
abbrev turned : Frame
turned = record { turn = quarters 2 1; origin = point (pos 0) (pos 0) (pos 5000) }

-- a point of it on a face towards its y
abbrev touched : Feature
touched = record { at = point (pos 20000) (negsuc 9999) (pos 10000); toward = PlusY }

-- where it was to be: 0.3 mm and 0.4 mm beside it, and 0.1 mm before it
abbrev wanted : Feature
wanted = record { at = point (pos 20300) (negsuc 10099) (pos 9600); toward = PlusY }

-- on the machine that is a face towards -x; the statement comes from a CALL of line 31, and that from one of line 44
pub on_the_machine : point_row true (Some turned) turned 4 6 (codes "P1") (Some touched) (Some touched) (codes "31 44")
    ≡ codes "4,6,P1,20.000,-10.000,10.000,20.000,-10.000,10.000,0,1,0,0.000,0.000,same,10.000,20.000,15.000,-1,0,0,31 44\n"
unfolding digits root_by root_down
on_the_machine = refl

-- the same in part coordinates alone; it lies 0.1 mm off along its direction, and half a millimetre beside its line
pub in_the_part : point_row false (Some turned) turned 4 6 (codes "P1") (Some wanted) (Some touched) []
    ≡ codes "4,6,P1,20.300,-10.100,9.600,20.000,-10.000,10.000,0,1,0,0.100,0.500,same,\n"
unfolding digits root_by root_down
in_the_part = refl

-- of a FEAT that was carried out in the frame of the start neither is told
pub of_another_frame : point_row false (Some opening_frame) turned 4 6 (codes "P1") (Some wanted) (Some touched) []
    ≡ codes "4,6,P1,20.300,-10.100,9.600,20.000,-10.000,10.000,0,1,0,,,other,\n"
unfolding digits root_by root_down
of_another_frame = refl

pub no_deviation : told_deviation (Some opening_frame) turned (Some wanted) touched ≡ None
no_deviation = refl

-- of a feature that wasn't declared nothing is told
pub undeclared : point_row false None turned 4 6 (codes "P1") None (Some touched) [] ≡ codes "4,6,P1,,,,20.000,-10.000,10.000,0,1,0,,,,\n"
unfolding digits root_by root_down
undeclared = refl

-- a length is cut off: the square of 1414 micrometres is less than twice the square of a millimetre, that of 1415 more
pub cut_off : root_down 2000000 ≡ 1414
unfolding root_by root_down
cut_off = refl

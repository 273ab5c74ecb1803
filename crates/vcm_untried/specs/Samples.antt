-- Worked examples: steps of a program with remarks, and the lines that report them.
use Rattle.std.specs.Prelude.{◌≡◌, refl, ℕ, ℤ, pos, ◌+◌, Bool, true, false, List, [], ◌∷◌, Some, codes, flat_map}
use Rattle.std.specs.Fmt.{digits}
use Rattle.vcm_spec.specs.declared.simple.Simple.TheVariants.{GoHome}
use Rattle.vcm_spec.specs.Setup.{setup_of}
use Rattle.vcm_spec.specs.World.{World, opening_world}
use Rattle.vcm_spec.specs.Samples.Parts.{one_block}
use Rattle.vcm_code.specs.declared.op.Op.TheVariants.{Plain}
use Rattle.vcm_remarks.specs.declared.remark.Cause.TheVariants.{Mode, Frame}
use Rattle.vcm_remarks.specs.declared.remark.Remark.{Remark}
use Rattle.vcm_remarks.specs.declared.remark.Remark.TheVariants.{NotTried, BeginsElsewhere, AnotherTip, NotInFile, Loses, Ends}
use Rattle.vcm_remarks.specs.declared.remark.NumberedRemark.{NumberedRemark}
use Rattle.vcm_steps.specs.Passages.{Passage, passage}
use Rattle.vcm_untried.specs.declared.about.About.TheVariants as about
use Rattle.vcm_untried.specs.declared.frames.NamedFrame.{NamedFrame}
use Rattle.vcm_untried.specs.Times.{remark_times}
use Rattle.vcm_untried.specs.Rows.{row}
use Rattle.vcm_untried.specs.Telling.{Telling, told_of}
use Rattle.vcm_untried.specs.Lines.{untried_text}

-- a state in which the variables have these values
abbrev world : List ℤ → World
world variables = record (opening_world (setup_of one_block (record { variables = []; features = []; frames = [] }))) { variables = variables }

-- all is known but the mode
abbrev no_mode : List ℤ
no_mode = pos 1 ∷ pos 4 ∷ pos 0 ∷ pos 1 ∷ pos 1 ∷ pos 1 ∷ pos 1 ∷ pos 1 ∷ pos 1 ∷ pos 1 ∷ pos 0 ∷ []

-- all is known but the frame
abbrev no_frame : List ℤ
no_frame = pos 0 ∷ pos 4 ∷ pos 1 ∷ pos 1 ∷ pos 1 ∷ pos 1 ∷ pos 1 ∷ pos 1 ∷ pos 1 ∷ pos 1 ∷ pos 0 ∷ []

-- a step of the statement with a number, where the variables have these values
abbrev step : ℕ → List ℤ → Passage
step number variables = passage 1 number (record { op = Plain GoHome; line = 1 }) (world variables) (world variables) (number + 1)

abbrev remark : ℕ → ℕ → Remark → NumberedRemark
remark number line what = record { number = number; line = line; remark = what }

abbrev remarks : List NumberedRemark
remarks =
    remark 3 11 (Loses Mode) ∷ remark 4 24 NotTried ∷ remark 5 25 NotTried ∷ remark 6 26 NotTried ∷ remark 7 30 NotTried ∷ remark 8 107 (Loses Frame)
    ∷ remark 9 108 NotTried ∷ remark 10 44 BeginsElsewhere ∷ remark 11 76 Ends ∷ remark 12 200 NotTried ∷ []

-- three lines once, and one twice
abbrev steps : List Passage
steps =
    step 2 no_mode ∷ step 3 no_mode ∷ step 4 no_mode ∷ step 5 no_mode ∷ step 6 no_mode ∷ step 7 no_mode ∷ step 7 no_mode ∷ step 8 no_frame ∷ step 9 no_frame
    ∷ step 10 no_frame ∷ step 11 no_frame ∷ []

-- how often the statement of each remark is taken
pub are_taken : remark_times steps remarks ≡ 1 ∷ 1 ∷ 1 ∷ 1 ∷ 2 ∷ 1 ∷ 1 ∷ 1 ∷ 1 ∷ 0 ∷ []
are_taken = refl

-- what is reported of them
abbrev told : Telling
told = record {
  lost = 0 ∷ 11 ∷ 0 ∷ 0 ∷ 107 ∷ 0 ∷ 0 ∷ [];
  rows =
      row (about.NotTried Mode 11) 24 1 ∷ row (about.NotTried Mode 11) 25 1 ∷ row (about.NotTried Mode 11) 26 1 ∷ row (about.NotTried Mode 11) 30 2
      ∷ row about.BeginsElsewhere 44 1 ∷ row (about.NotTried Frame 107) 108 1 ∷ [];
  end = Some 76;
}

pub is_told : told_of remarks steps ≡ told
is_told = refl

-- its lines
pub is_written : untried_text [] told ≡ flat_map (λ t. t) (
    codes "not tried 5: lines 24-26 30(2), the mode isn't programmed since line 11\n"
    ∷ codes "not tried 1: line 108, the frame isn't known since line 107\n"
    ∷ codes "begins elsewhere 1: line 44\n"
    ∷ codes "not tried from line 76 on\n"
    ∷ [])
unfolding digits
is_written = refl

-- ---- names of frames, and other sensors

-- a statement that makes or recalls this frame
abbrev named : ℕ → List ℕ → Bool → NamedFrame
named line name takes = record { line = line; name = name; takes_given = takes }

-- the frame A is made of something that isn't known, B by a shift
abbrev frames : List NamedFrame
frames = named 31 (codes "A") true ∷ named 40 (codes "B") false ∷ []

abbrev lost_since : ℕ → List ℕ
lost_since since = untried_text frames (told_of (remark 0 since (Loses Frame) ∷ remark 1 70 NotTried ∷ []) (step 0 no_frame ∷ step 1 no_frame ∷ []))

pub frame_is_named : lost_since 31 ≡ codes "not tried 1: line 70, the frame A isn't known since line 31; give --frame A=X,Y,Z\n"
unfolding digits
frame_is_named = refl

pub frame_of_the_text_is_named : lost_since 40 ≡ codes "not tried 1: line 70, the frame B isn't known since line 40\n"
unfolding digits
frame_of_the_text_is_named = refl

pub other_lines_name_none : lost_since 50 ≡ codes "not tried 1: line 70, the frame isn't known since line 50\n"
unfolding digits
other_lines_name_none = refl

-- one other sensor, and several behind what begins elsewhere
abbrev tips : List NumberedRemark
tips = remark 0 14 AnotherTip ∷ remark 1 30 AnotherTip ∷ remark 2 31 BeginsElsewhere ∷ []

pub one_tip_is_told : untried_text [] (told_of tips (step 0 no_mode ∷ [])) ≡ codes "another tip since line 14\n"
unfolding digits
one_tip_is_told = refl

pub tips_are_told : untried_text [] (told_of tips (step 0 no_mode ∷ step 1 no_mode ∷ step 1 no_mode ∷ step 2 no_mode ∷ [])) ≡ flat_map (λ t. t) (
    codes "begins elsewhere 1: line 31\n"
    ∷ codes "another tip since lines 14 30(2)\n"
    ∷ [])
unfolding digits
tips_are_told = refl

-- probes that the file hasn't, behind other tips: each line once, with the name that it selects
abbrev missing : List NumberedRemark
missing = remark 0 137 NotInFile ∷ remark 1 14 AnotherTip ∷ remark 2 9 NotInFile ∷ []

abbrev sensors : List NamedFrame
sensors = named 9 (codes "SA(T_2)") false ∷ named 137 (codes "S(H30)") false ∷ []

pub missing_probes_are_told : untried_text sensors (told_of missing (step 0 no_mode ∷ step 1 no_mode ∷ step 0 no_mode ∷ step 2 no_mode ∷ [])) ≡ flat_map (λ t. t) (
    codes "another tip since line 14\n"
    ∷ codes "not in the probe file: SA(T_2) line 9\n"
    ∷ codes "not in the probe file: S(H30) line 137\n"
    ∷ [])
unfolding digits
missing_probes_are_told = refl

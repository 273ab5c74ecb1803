-- Jumps that are judged one by one.
use Rattle.std.specs.Prelude.{◌≡◌, ℕ, IsTrue, if◌then◌else◌, List, [], ◌∷◌, ◌++◌, Some}
use Rattle.vcm_lines.specs.declared.fault.SourceFault.{SourceFault}
use Rattle.vcm_spec.specs.Program.{Label}
use Rattle.vcm_nodes.specs.Jumps.{Jump, is_among, BreaksJumps}

-- labels with one more, which is added where it isn't among them
abbrev pub with_label : List Label → Label → List Label
with_label ls l = if is_among ls l then ls else ls ++ l ∷ []

-- labels with others, one by one
abbrev pub with_labels : List Label → List Label → List Label
with_labels ls [] = ls
with_labels ls (m ∷ ms) = with_labels (with_label ls m) ms

-- a jump on this line, to this label, with these labels within reach
abbrev pub jump : ℕ → Label → List Label → Jump
jump line to reach = record { line = line; to = to; reach = reach }

-- each jump goes to a label that there is, and that is within its reach
abbrev pub AllReach : List Label → List Jump → Type 0
AllReach all [] = Unit {0}
AllReach all (j ∷ js) = IsTrue (is_among all j.to) × IsTrue (is_among j.reach j.to) × AllReach all js

-- the refusal tells the first jump that doesn't
pub record IsFirst (all : List Label) (js : List Jump) (f : SourceFault) : Type 0 where
  pub before : List Jump
  pub at_fault : Jump
  pub after : List Jump
  pub cut : js ≡ before ++ at_fault ∷ after
  pub reached : AllReach all before
  pub broken : BreaksJumps all before (Some at_fault) f.code
  pub told : f.line ≡ at_fault.line

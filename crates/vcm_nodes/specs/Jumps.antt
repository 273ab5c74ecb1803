-- The jump labels and the jumps of a structured program.
use Rattle.std.specs.Prelude.{ℕ, IsTrue, not, ◌&&◌, Bool, List, [], ◌∷◌, ◌++◌, Option, Some, None}
use Rattle.std.specs.List.{list_any}
use Rattle.vcm_lines.specs.declared.fault.FaultCode.{FaultCode}
use Rattle.vcm_lines.specs.declared.fault.FaultCode.TheVariants.{UnknownName, JumpInward}
use Rattle.vcm_spec.specs.Program.{Label, Node, Block, Cases, simple, label, jump, choice, choice_else, do_loop, meas, select, ending, done, then}
use Rattle.vcm_spec.specs.Program.{no_more, one_case, default, is_same_label}

-- the label that a node is, if it is one
abbrev pub own_label : Node → List Label
own_label (label line l) = l ∷ []
own_label _ = []

-- the labels that stand directly in a block, in writing
abbrev pub own_labels : Block → List Label
own_labels done = []
own_labels (then n b) = own_label n ++ own_labels b

-- a jump: its line, the label that it goes to, and the labels within its reach, which stand directly in the blocks around it
pub record Jump : Type 0 where
  pub line : ℕ
  pub to : Label
  pub reach : List Label

-- the jumps of a node in blocks with these labels, in writing; and those of a block's nodes
abbrev mutual
  pub node_jumps : Node → List Label → List Jump
  node_jumps (simple line what) reach = []
  node_jumps (label line l) reach = []
  node_jumps (jump line l) reach = record { line = line; to = l; reach = reach } ∷ []
  node_jumps (choice line test first close) reach = jumps_in first (reach ++ own_labels first)
  node_jumps (choice_else line test first mid second close) reach =
      jumps_in first (reach ++ own_labels first) ++ jumps_in second (reach ++ own_labels second)
  node_jumps (do_loop line v initial limit increment body close) reach = jumps_in body (reach ++ own_labels body)
  node_jumps (meas line feature body close) reach = jumps_in body (reach ++ own_labels body)
  node_jumps (select line value cases close) reach = jumps_among cases reach
  node_jumps (ending line) reach = []

  pub jumps_in : Block → List Label → List Jump
  jumps_in done reach = []
  jumps_in (then n b) reach = node_jumps n reach ++ jumps_in b reach

  pub jumps_among : Cases → List Label → List Jump
  jumps_among no_more reach = []
  jumps_among (one_case line value block close rest) reach = jumps_in block (reach ++ own_labels block) ++ jumps_among rest reach
  jumps_among (default line block close) reach = jumps_in block (reach ++ own_labels block)

-- the jumps of a program
abbrev pub jumps_of : Block → List Jump
jumps_of program = jumps_in program (own_labels program)

-- all labels of a program, in writing
abbrev mutual
  pub node_labels : Node → List Label
  node_labels (simple line what) = []
  node_labels (label line l) = l ∷ []
  node_labels (jump line l) = []
  node_labels (choice line test first close) = labels_of first
  node_labels (choice_else line test first mid second close) = labels_of first ++ labels_of second
  node_labels (do_loop line v initial limit increment body close) = labels_of body
  node_labels (meas line feature body close) = labels_of body
  node_labels (select line value cases close) = labels_among cases
  node_labels (ending line) = []

  pub labels_of : Block → List Label
  labels_of done = []
  labels_of (then n b) = node_labels n ++ labels_of b

  pub labels_among : Cases → List Label
  labels_among no_more = []
  labels_among (one_case line value block close rest) = labels_of block ++ labels_among rest
  labels_among (default line block close) = labels_of block

-- whether a label is among others
abbrev pub is_among : List Label → Label → Bool
is_among ls l = list_any (is_same_label l) ls

-- The phase of jumps, in a program with these labels: a jump to a label that there isn't, a jump to one that is out of its reach; and
-- nothing at the end
abbrev pub BreaksJumps : List Label → List Jump → Option Jump → FaultCode → Type 0
BreaksJumps all before (Some j) UnknownName = IsTrue (not (is_among all j.to))
BreaksJumps all before (Some j) JumpInward = IsTrue (is_among all j.to && not (is_among j.reach j.to))
BreaksJumps all before place code = ⊥

-- a fault is told at the line of its jump
abbrev pub jumps_line : List Jump → Option Jump → ℕ
jumps_line before None = 0
jumps_line before (Some j) = j.line

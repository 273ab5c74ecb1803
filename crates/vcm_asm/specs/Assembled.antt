-- The statement code of a structured program.
use Rattle.std.specs.Prelude.{ℕ, suc, ◌+◌, List, [], ◌∷◌, ◌++◌}
use Rattle.vcm_spec.specs.Expression.{spelling}
use Rattle.vcm_spec.specs.Simple.{with_form}
use Rattle.vcm_spec.specs.Program.{Label as Name, Node, Block, Cases, simple, label, jump, choice, choice_else, do_loop, meas, select, ending, done, then}
use Rattle.vcm_spec.specs.Program.{no_more, one_case, default, size, sizes, case_sizes, is_same_label}
use Rattle.vcm_spec.specs.Table.{if_true}
use Rattle.vcm_code.specs.declared.branch.Branch.{Branch}
use Rattle.vcm_code.specs.declared.op.Op.TheVariants.{Plain, If, Else, EndIf, Do, EndDo, Label, JumpTo, Meas, EndMes, Select, Case, EndCas, DftCas, EndSel}
use Rattle.vcm_code.specs.declared.op.Op.TheVariants.{EndFil}
use Rattle.vcm_code.specs.Code.{CodeStatement, statement}

-- a label, and the number of its statement
abbrev pub Mark : Type 0
Mark = Name × ℕ

-- the labels of a node with the numbers of their statements, in writing, those of a block, and those of the blocks of a SELECT; the first
-- statement has the number `base`
abbrev mutual
  pub node_marks : Node → ℕ → List Mark
  node_marks (simple line what) base = []
  node_marks (label line l) base = (l, base) ∷ []
  node_marks (jump line l) base = []
  node_marks (choice line test first close) base = marks first (base + 1)
  node_marks (choice_else line test first mid second close) base = marks first (base + 1) ++ marks second (base + 1 + sizes first + 1)
  node_marks (do_loop line v initial limit increment body close) base = marks body (base + 1)
  node_marks (meas line feature body close) base = marks body (base + 1)
  node_marks (select line value cases close) base = case_marks cases (base + 1)
  node_marks (ending line) base = []

  pub marks : Block → ℕ → List Mark
  marks done base = []
  marks (then n b) base = node_marks n base ++ marks b (base + size n)

  pub case_marks : Cases → ℕ → List Mark
  case_marks no_more base = []
  case_marks (one_case line value block close rest) base = marks block (base + 1) ++ case_marks rest (base + 1 + sizes block + 1)
  case_marks (default line block close) base = marks block (base + 1)

-- the number of a label's statement, 0 where there is none
abbrev pub place_in : List Mark → Name → ℕ
place_in [] l = 0
place_in (m ∷ ms) l = if_true (is_same_label m.0 l) m.1 (place_in ms l)

-- the branches of a SELECT whose blocks' first statement has the number `base`: each CASE with the first statement of its block
abbrev pub branches_of : Cases → ℕ → List Branch
branches_of no_more base = []
branches_of (one_case line value block close rest) base =
    record { value = value; target = base + 1 } ∷ branches_of rest (base + 1 + sizes block + 1)
branches_of (default line block close) base = []

-- where it goes if no branch has the value: to the first statement of the block of DFTCAS, otherwise to its ENDSEL
abbrev pub last_target : Cases → ℕ → ℕ
last_target no_more base = base
last_target (one_case line value block close rest) base = last_target rest (base + 1 + sizes block + 1)
last_target (default line block close) base = base + 1

-- the code of a node, of a block, and of the blocks of a SELECT behind whose ENDSEL stands `behind`; `depth` DO stand around it, its first
-- statement has the number `base`, and `to` gives the numbers of labels
abbrev mutual
  pub node_code : (Name → ℕ) → Node → ℕ → ℕ → List CodeStatement
  node_code to (simple line what) depth base = statement line (Plain (with_form spelling what)) ∷ []
  node_code to (label line l) depth base = statement line Label ∷ []
  node_code to (jump line l) depth base = statement line (JumpTo (to l)) ∷ []
  node_code to (choice line test first close) depth base =
      statement line (If (spelling test) (base + 1 + sizes first)) ∷ (block_code to first depth (base + 1) ++ statement close EndIf ∷ [])
  node_code to (choice_else line test first mid second close) depth base =
      statement line (If (spelling test) (base + 1 + sizes first + 1))
      ∷ (block_code to first depth (base + 1)
      ++ (statement mid (Else (base + 1 + sizes first + 1 + sizes second + 1))
      ∷ (block_code to second depth (base + 1 + sizes first + 1) ++ statement close EndIf ∷ [])))
  node_code to (do_loop line v initial limit increment body close) depth base =
      statement line (Do v depth (spelling initial) (spelling limit) (spelling increment) (base + 1 + sizes body + 1))
      ∷ (block_code to body (suc depth) (base + 1) ++ statement close (EndDo v depth (base + 1)) ∷ [])
  node_code to (meas line feature body close) depth base =
      statement line (Meas feature) ∷ (block_code to body depth (base + 1) ++ statement close EndMes ∷ [])
  node_code to (select line value cases close) depth base =
      statement line (Select (spelling value) (branches_of cases (base + 1)) (last_target cases (base + 1)))
      ∷ (case_code to cases depth (base + 1) (base + 1 + case_sizes cases + 1) ++ statement close EndSel ∷ [])
  node_code to (ending line) depth base = statement line EndFil ∷ []

  pub block_code : (Name → ℕ) → Block → ℕ → ℕ → List CodeStatement
  block_code to done depth base = []
  block_code to (then n b) depth base = node_code to n depth base ++ block_code to b depth (base + size n)

  pub case_code : (Name → ℕ) → Cases → ℕ → ℕ → ℕ → List CodeStatement
  case_code to no_more depth base behind = []
  case_code to (one_case line value block close rest) depth base behind =
      statement line Case
      ∷ (block_code to block depth (base + 1) ++ statement close (EndCas behind) ∷ case_code to rest depth (base + 1 + sizes block + 1) behind)
  case_code to (default line block close) depth base behind =
      statement line DftCas ∷ (block_code to block depth (base + 1) ++ statement close (EndCas behind) ∷ [])

-- the statements of a program
abbrev pub flat_code : Block → List CodeStatement
flat_code program = block_code (place_in (marks program 0)) program 0 0

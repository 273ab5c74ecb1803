-- What an accepted text is: a structured program with the tables of its names, and notices.
use Rattle.std.specs.Prelude.{ℕ, ◌≡◌, ◌+◌, ◌<◌, ◌≤◌, IsTrue, not, true, List, [], ◌∷◌, length}
use Rattle.std.specs.List.{AllByRecursion}
use Rattle.vcm_spec.specs.Setup.{Tables}
use Rattle.vcm_spec.specs.Program.{Label, Node, Block, Cases, choice, choice_else, do_loop, meas, select, no_more, one_case, default, done, then, sizes}
use Rattle.vcm_spec.specs.Whole.{is_closed}
use Rattle.vcm_spec.specs.Phase.{IsClean}
use Rattle.vcm_spec.specs.Fitting.{BlockFits}
use Rattle.vcm_items.specs.NameBytes.{is_name}
use Rattle.vcm_items.specs.Names.{AreNamed}
use Rattle.vcm_nodes.specs.Jumps.{is_among, labels_of, jumps_of, BreaksJumps}
use Rattle.vcm_program.specs.declared.accepted.Noticed.{Noticed}
use Rattle.vcm_num.specs.declared.limits.TheConstants.{DEEPEST_BLOCKS, MOST_NAMES, MOST_STATEMENTS}

-- what a text is: a program, the tables of its names, and notices
pub record Parsed : Type 0 where
  pub program : Block
  pub tables : Tables
  pub notices : List Noticed

-- where so many blocks are around a node, or a block, those in it nest at most 32 deep; a SELECT is no block, but each of its blocks is one
abbrev mutual
  pub NodeNests : ℕ → Node → Type 0
  NodeNests d (choice line test first close) = (d < DEEPEST_BLOCKS) × BlockNests (d + 1) first
  NodeNests d (choice_else line test first mid second close) = (d < DEEPEST_BLOCKS) × BlockNests (d + 1) first × BlockNests (d + 1) second
  NodeNests d (do_loop line v initial limit increment body close) = (d < DEEPEST_BLOCKS) × BlockNests (d + 1) body
  NodeNests d (meas line feature body close) = (d < DEEPEST_BLOCKS) × BlockNests (d + 1) body
  NodeNests d (select line value cases close) = CasesNest d cases
  NodeNests d _ = Unit {0}

  pub BlockNests : ℕ → Block → Type 0
  BlockNests d done = Unit {0}
  BlockNests d (then n b) = NodeNests d n × BlockNests d b

  pub CasesNest : ℕ → Cases → Type 0
  CasesNest d no_more = Unit {0}
  CasesNest d (one_case line value block close rest) = (d < DEEPEST_BLOCKS) × BlockNests (d + 1) block × CasesNest d rest
  CasesNest d (default line block close) = (d < DEEPEST_BLOCKS) × BlockNests (d + 1) block

-- no label stands twice
abbrev pub AreDistinct : List Label → Type 0
AreDistinct [] = Unit {0}
AreDistinct (l ∷ ls) = IsTrue (not (is_among ls l)) × AreDistinct ls

-- at most 4,096, and each of them is a name
pub record AreNames (names : List (List ℕ)) : Type 0 where
  pub few : length names ≤ MOST_NAMES
  pub named : AllByRecursion (λ n. is_name n ≡ true) names

-- A whole program: its last node is ENDFIL, it has at most 20,000 statements, they fit its tables, whose variables have the names of
-- variables, its blocks nest at most 32 deep, no jump label stands twice, and each jump reaches its label.
pub record IsWhole (program : Block) (ts : Tables) : Type 0 where
  pub closed : IsTrue (is_closed program)
  pub few : sizes program ≤ MOST_STATEMENTS
  pub fits : BlockFits ts program
  pub named : AreNamed ts.variables
  pub nested : BlockNests 0 program
  pub once : AreDistinct (labels_of program)
  pub jumps : IsClean (BreaksJumps (labels_of program)) (jumps_of program)

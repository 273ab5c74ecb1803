-- Expressions whose postfix spelling keeps their kind and is short enough for an image.
use Rattle.std.specs.Prelude.{◌≡◌, ◌<◌, ◌≤◌, List, length, Some}
use Rattle.vcm_num.specs.declared.number.Kind.{Kind}
use Rattle.vcm_spec.specs.Expression.{Tree, kind_of, spelling, HasKind}
use Rattle.vcm_spec.specs.TextBytes.{IsText}
use Rattle.vcm_spec.specs.Simple.{Simple}
use Rattle.vcm_spec.specs.declared.simple.Simple.TheVariants.{Goto, GoHome, Assign, Feat, PtMeas, SnSet, Trans, Rotate, Recall, Obtain, Output, Text}
use Rattle.vcm_spec.specs.Program.{Node, Block, Cases, simple, label, jump, choice, choice_else, do_loop, meas, select, ending, done, then, no_more, one_case}
use Rattle.vcm_spec.specs.Program.{default}
use Rattle.vcm_num.specs.declared.limits.TheConstants.{MOST_ITEMS}

-- whatever the kinds of the variables are, the spelling has the kind of the tree, and at most 1,024 items if it has one
abbrev pub Keeps : Tree → Type 0
Keeps t = (kinds : List Kind) (k : Kind) → kind_of kinds t ≡ Some k → HasKind kinds (spelling t) k × (length (spelling t) ≤ MOST_ITEMS)

-- so of three
abbrev pub KeepThree : Tree → Tree → Tree → Type 0
KeepThree x y z = Keeps x × Keeps y × Keeps z

-- so of the expressions of a simple statement that acceptance gives, whose text is one
abbrev pub SimpleKeeps : Simple Tree → Type 0
SimpleKeeps (Goto x y z) = KeepThree x y z
SimpleKeeps GoHome = Unit {0}
SimpleKeeps (Assign v e) = Keeps e
SimpleKeeps (Feat i x y z d) = KeepThree x y z
SimpleKeeps (PtMeas i x y z d) = KeepThree x y z
SimpleKeeps (SnSet which e) = Keeps e
SimpleKeeps (Trans i x y z) = KeepThree x y z
SimpleKeeps (Rotate i axis n) = Unit {0}
SimpleKeeps (Recall i) = Unit {0}
SimpleKeeps (Obtain v source i word) = Unit {0}
SimpleKeeps (Output source i) = Unit {0}
SimpleKeeps (Text bytes) = IsText bytes

-- so of all expressions and texts of a node, of a block, and of the blocks of a SELECT
abbrev mutual
  pub NodeKeeps : Node → Type 0
  NodeKeeps (simple line what) = SimpleKeeps what
  NodeKeeps (label line l) = Unit {0}
  NodeKeeps (jump line l) = Unit {0}
  NodeKeeps (choice line test first close) = Keeps test × BlockKeeps first
  NodeKeeps (choice_else line test first mid second close) = Keeps test × BlockKeeps first × BlockKeeps second
  NodeKeeps (do_loop line v initial limit increment body close) = Keeps initial × Keeps limit × Keeps increment × BlockKeeps body
  NodeKeeps (meas line feature body close) = BlockKeeps body
  NodeKeeps (select line value cases close) = Keeps value × CasesKeep cases
  NodeKeeps (ending line) = Unit {0}

  pub BlockKeeps : Block → Type 0
  BlockKeeps done = Unit {0}
  BlockKeeps (then n b) = NodeKeeps n × BlockKeeps b

  pub CasesKeep : Cases → Type 0
  CasesKeep no_more = Unit {0}
  CasesKeep (one_case line value block close rest) = BlockKeeps block × CasesKeep rest
  CasesKeep (default line block close) = BlockKeeps block

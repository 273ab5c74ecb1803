-- Which parts have all their fields in range and their widths, so that they have a spelling.
use Rattle.std.specs.Prelude.{◌<◌, ◌≤◌, ◌^◌, IsTrue, List, length}
use Rattle.std.specs.List.{AllByRecursion}
use Rattle.vcm_spec.specs.declared.expression.Item.{Item}
use Rattle.vcm_spec.specs.Setup.{Variable as Entry}
use Rattle.vcm_items.specs.NameBytes.{IsVariableName}
use Rattle.vcm_code.specs.declared.branch.Branch.{Branch}
use Rattle.vcm_code.specs.declared.version.Version.{Version}
use Rattle.vcm_code.specs.Code.{Op, CodeStatement}
use Rattle.vcm_code.specs.Words.{word_of, has_word}
use Rattle.vcm_code.specs.Shape.{Place, Said, InOperands}
use Rattle.vcm_code.specs.Ranges.{IsShort, IsRanged}
use Rattle.vcm_fields.specs.Widths.{FitsItem, FitsBranch, HasWidth}
use Rattle.vcm_num.specs.declared.limits.TheConstants.{MOST_BRANCHES}

-- an expression
abbrev pub FitsExpression : List Item → Type 0
FitsExpression items = IsShort items × AllByRecursion FitsItem items

-- three of them
abbrev pub FitThree : List Item → List Item → List Item → Type 0
FitThree x y z =
    (IsShort x × IsShort y × IsShort z) × (AllByRecursion FitsItem x × AllByRecursion FitsItem y × AllByRecursion FitsItem z)

-- branches
abbrev pub FitBranches : List Branch → Type 0
FitBranches bs = (length bs ≤ MOST_BRANCHES) × AllByRecursion FitsBranch bs

-- what stands in a place
abbrev pub FitsPlace : (p : Place) → Said p → Type 0
FitsPlace p x = IsRanged p x × HasWidth p x

-- a statement: all its operands do
abbrev pub FitsOperation : Op → Type 0
FitsOperation o = InOperands FitsPlace o

-- a statement: its version has its word, its source line has 32 bits, and its operands fit
abbrev pub FitsLine : Version → CodeStatement → Type 0
FitsLine v s = IsTrue (has_word v (word_of s.op)) × ((s.line < 2 ^ 32) × FitsOperation s.op)

-- a variable: its expansion has 32 bits, and its name is a variable's
abbrev pub FitsEntry : Entry → Type 0
FitsEntry v = (v.expansion < 2 ^ 32) × IsVariableName v.name

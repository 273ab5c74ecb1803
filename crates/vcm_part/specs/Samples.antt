-- Worked examples of part files.
use Rattle.std.specs.Prelude.{◌≡◌, ℕ, List, [], ◌++◌, codes, Result, Ok, Err}
use Rattle.vcm_spec.specs.Workpiece.{Workpiece}
use Rattle.vcm_spec.specs.Samples.Parts.{bounds, at, one_block, two_halves}
use Rattle.vcm_part.specs.declared.fault.PartCode.TheVariants.{BadKey, OutOfRange, LowAboveHigh, HomeNotClear}
use Rattle.vcm_part.specs.declared.fault.PartFault.{PartFault}
use Rattle.vcm_part.specs.Faults.{fault}
use Rattle.vcm_part.specs.PartFile.{part_of}

-- a text gives this answer
abbrev pub Gives : List ℕ → Result Workpiece PartFault → Type 0
Gives text answer = part_of text ≡ answer

-- limits of half a metre on each side, home 100 mm up
abbrev pub limits : List ℕ
limits = codes "low = [-500000, -500000, -500000]\nhigh = [500000, 500000, 500000]\nhome = [0, 0, 100000]\n"

-- a machine with no block
abbrev pub NoBlocks : Type 0
NoBlocks = Gives limits (Ok (record { bounds = bounds; blocks = [] }))

-- the tip of 4 mm, and home where it just clears the block
abbrev pub with_tip : List ℕ → List ℕ
with_tip home =
    codes "low = [-500000, -500000, -500000]\nhigh = [500000, 500000, 500000]\ntip = 2000\nhome = [20000, 20000, " ++ home
    ++ codes "]\n[[block]]\nlow = [10000, 10000, 0]\nhigh = [30000, 30000, 20000]\n"

-- a micrometre above the block
abbrev pub TipClear : Type 0
TipClear = Gives (with_tip (codes "22001")) (Ok (record {
  bounds = record (bounds) { home = at 20000 20000 22001; tip = 2000 };
  blocks = one_block.blocks;
}))

-- one block
abbrev pub OneBlock : Type 0
OneBlock = Gives (limits ++ codes "[[block]]\nlow = [10000, 10000, 0]\nhigh = [30000, 30000, 20000]\n") (Ok one_block)

-- two blocks in order
abbrev pub TwoBlocks : Type 0
TwoBlocks =
    Gives (limits
    ++ codes "[[block]]\nlow = [10000, 10000, 0]\nhigh = [20000, 30000, 20000]\n"
    ++ codes "[[block]]\nlow = [20000, 10000, 0]\nhigh = [30000, 30000, 20000]\n") (Ok two_halves)

-- home on an edge of the block
abbrev pub HomeOnAnEdge : Type 0
HomeOnAnEdge = Gives (limits ++ codes "[[block]]\nlow = [-5, 0, 0]\nhigh = [5, 9, 100000]\n") (Err (fault HomeNotClear 0))

-- the tip at home rests on the block
abbrev pub TipOnBlock : Type 0
TipOnBlock = Gives (with_tip (codes "22000")) (Err (fault HomeNotClear 0))

-- a tip that is a micrometre too wide, or no whole number
abbrev pub TipTooWide : Type 0
TipTooWide = Gives (limits ++ codes "tip = 50001\n") (Err (fault OutOfRange 0))

abbrev pub TipNoNumber : Type 0
TipNoNumber = Gives (limits ++ codes "tip = \"x\"\n") (Err (fault BadKey 0))

-- a corner of the second block is a micrometre too far
abbrev pub TooFar : Type 0
TooFar =
    Gives (limits
    ++ codes "[[block]]\nlow = [1, 1, 1]\nhigh = [2, 2, 2]\n[[block]]\nlow = [1, 1, 1]\nhigh = [2, 2, 1000000001]\n")
    (Err (fault OutOfRange 2))

-- a number with a point is no whole number
abbrev pub NoWholeNumber : Type 0
NoWholeNumber = Gives (limits ++ codes "[[block]]\nlow = [1, 1.0, 1]\n") (Err (fault BadKey 1))

-- the low corner is above the high one on one axis
abbrev pub LowAbove : Type 0
LowAbove = Gives (limits ++ codes "[[block]]\nlow = [1, 3, 1]\nhigh = [2, 2, 2]\n") (Err (fault LowAboveHigh 1))

-- a block of the fixture
abbrev pub Fixed : Type 0
Fixed = Gives (limits ++ codes "[[block]]\nlow = [10000, 10000, 0]\nhigh = [30000, 30000, 20000]\nfixture = true\n") (Ok one_block)

-- whether a block is one of the fixture isn't said by a number
abbrev pub FixedByANumber : Type 0
FixedByANumber = Gives (limits ++ codes "[[block]]\nlow = [10000, 10000, 0]\nhigh = [30000, 30000, 20000]\nfixture = 1\n") (Err (fault BadKey 1))

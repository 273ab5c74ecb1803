-- Which codes have all their fields in the ranges that an image has for them. Indexes, targets, source lines and numbers have theirs by
-- their types.
use Rattle.std.specs.Prelude.{◌≡◌, ℕ, ◌<◌, ◌≤◌, Bool, false, List, length}
use Rattle.std.specs.List.{AllByRecursion, list_any}
use Rattle.vcm_spec.specs.declared.expression.Item.{Item}
use Rattle.vcm_spec.specs.TextBytes.{IsText}
use Rattle.vcm_spec.specs.Table.{if_true}
use Rattle.vcm_items.specs.NameBytes.{IsName}
use Rattle.vcm_code.specs.declared.version.Version.{Version}
use Rattle.vcm_code.specs.declared.version.Version.TheVariants.{One, Two}
use Rattle.vcm_code.specs.Code.{Op, CodeStatement}
use Rattle.vcm_code.specs.declared.code.Code.{Code}
use Rattle.vcm_code.specs.Words.{word_of, is_of_select}
use Rattle.vcm_code.specs.Shape.{Place, Said, InOperands}
use Rattle.vcm_code.specs.Shape as at
use Rattle.vcm_items.specs.Names.{AreNamed}
use Rattle.vcm_num.specs.declared.limits.TheConstants.{DEEPEST_BLOCKS, MOST_BRANCHES, MOST_ITEMS, MOST_NAMES, MOST_STATEMENTS}

-- an expression has at least one item and at most 1,024
abbrev pub IsShort : List Item → Type 0
IsShort items = (1 ≤ length items) × (length items ≤ MOST_ITEMS)

-- what stands in a place is in range, where its type alone doesn't keep it there: expressions are short, a pair is one of the 32, a text is one, and
-- branches are at most 20,000
abbrev pub IsRanged : (p : Place) → Said p → Type 0
IsRanged at.pair n = n < DEEPEST_BLOCKS
IsRanged (at.items k) e = IsShort e
IsRanged (at.three k) t = IsShort t.0 × IsShort t.1.0 × IsShort t.1.1
IsRanged at.assigned o = IsShort o.1
IsRanged at.text bs = IsText bs
IsRanged at.branches bs = length bs ≤ MOST_BRANCHES
IsRanged _ x = Unit {0}

-- a statement: what stands in all its places is
abbrev pub OpInRange : Op → Type 0
OpInRange o = InOperands IsRanged o

-- all statements are in range
abbrev pub AllInRange : List CodeStatement → Type 0
AllInRange ss = AllByRecursion (λ (s : CodeStatement). OpInRange s.op) ss

-- whether one of these statements is SELECT, CASE, ENDCAS, DFTCAS or ENDSEL
abbrev pub has_selection : List CodeStatement → Bool
has_selection ss = list_any (λ (s : CodeStatement). is_of_select (word_of s.op)) ss

-- the first version that has all these statements
abbrev pub version_for : List CodeStatement → Version
version_for ss = if_true (has_selection ss) Two One

-- which version has these statements: the first has none of SELECT, CASE, ENDCAS, DFTCAS and ENDSEL, the second has all
abbrev pub IsOfVersion : Version → List CodeStatement → Type 0
IsOfVersion One ss = has_selection ss ≡ false
IsOfVersion Two ss = Unit {0}

-- all of these are names
abbrev pub AllAreNames : List (List ℕ) → Type 0
AllAreNames ns = AllByRecursion IsName ns

-- at most 4,096 variables, features and frames, all with their names, and at most 20,000 statements, all in range and of the code's version
pub record IsInRange (c : Code) : Type 0 where
  pub variables : (length c.tables.variables ≤ MOST_NAMES) × AreNamed c.tables.variables
  pub features : (length c.tables.features ≤ MOST_NAMES) × AllAreNames c.tables.features
  pub frames : (length c.tables.frames ≤ MOST_NAMES) × AllAreNames c.tables.frames
  pub statements : (length c.statements ≤ MOST_STATEMENTS) × AllInRange c.statements
  pub version : IsOfVersion c.version c.statements

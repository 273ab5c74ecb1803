-- What is read of a text, and one statement more.
use Rattle.std.specs.Prelude.{◌≡◌, List, [], ◌∷◌, ◌++◌, reverse, Some}
use Rattle.vcm_lines.specs.declared.fault.SourceFault.{SourceFault}
use Rattle.vcm_forms.specs.declared.statement.Statement.{Statement}
use Rattle.vcm_macro.specs.declared.text.Reading.{Reading}
use Rattle.vcm_macro.specs.Walk.{Defined, Visit, walk_from, walk}
use Rattle.vcm_macro.specs.inner.Expanding.{Done, TellsFirst, Walked}

-- nothing has been expanded
abbrev pub nothing : Done
nothing = record { placed = []; count = 0; calls = 0 }

-- the places of a text from here on, behind what is read
abbrev pub walk_of : Reading → List Statement → List Visit
walk_of r ss = walk_from (reverse r.macros.items) r.current r.waits r.done.calls ss

-- the same is read, and this macro is open
abbrev pub with_current : Defined → Reading → Reading
with_current m r = record { macros = r.macros; current = Some m; waits = r.waits; done = r.done }

-- one statement more is read
pub record IsRead (old : Reading) (s : Statement) (new : Reading) : Type 0 where
  pub places : List Visit
  pub walked : Walked old.done new.done places
  pub is : (ss : List Statement) → walk_of old (s ∷ ss) ≡ places ++ walk_of new ss

-- the refusal tells of the first place that breaks a rule, where this statement is the next one
abbrev pub TellsRead : Reading → Statement → SourceFault → Type 0
TellsRead old s f = (ss : List Statement) → TellsFirst old.done.count (walk_of old (s ∷ ss)) f

-- all statements are read but these, which are left
pub record IsReadTo (all : List Statement) (r : Reading) (rest : List Statement) : Type 0 where
  pub places : List Visit
  pub walked : Walked nothing r.done places
  pub is : walk all ≡ places ++ walk_of r rest

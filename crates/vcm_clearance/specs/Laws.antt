-- Statements about clearances. Each is the contract of a law in src/laws.rt.
use Rattle.std.specs.Prelude.{◌≡◌, ◌⊎◌, ℕ, ◌<◌, IsTrue, Bool, true, false, List, [], ◌∷◌, Some}
use Rattle.std.specs.List.{list_all, AllByRecursion}
use Rattle.vcm_spec.specs.declared.workpiece.Block3.{Block3}
use Rattle.vcm_spec.specs.Workpiece.{Workpiece, IsValid, is_block}
use Rattle.vcm_code.specs.declared.code.Code.{Code}
use Rattle.vcm_carried.specs.Carried.{IsBox}
use Rattle.vcm_way.specs.Gone.{PlacedWay, ways_of}
use Rattle.vcm_clearance.specs.declared.room.Room.{Room}
use Rattle.vcm_clearance.specs.declared.told.Told.{Told}
use Rattle.vcm_clearance.specs.Contacts.{told_on}
use Rattle.vcm_clearance.specs.Rooms.{met_ways, IsRoom}

-- a body has one room
abbrev pub RoomsAreOne : Type 0
RoomsAreOne =
    (body blocks : List Block3) → AllByRecursion (IsBox 10000000) body → IsTrue (list_all is_block blocks) → (ways : List PlacedWay) (r s : Room)
    → IsRoom blocks body ways r → IsRoom blocks body ways s → r ≡ s

-- something is told of the body on one of these ways, of which the first is that of the run, or not
abbrev pub IsSomeTold : List Block3 → List Block3 → Bool → List PlacedWay → Type 0
IsSomeTold blocks body is_first [] = ⊥
IsSomeTold blocks body is_first (p ∷ ps) = ((t : Told) × (told_on blocks is_first body p ≡ Some t)) ⊎ IsSomeTold blocks body false ps

-- of a body that meets a block on a way of a run, something is told on some way of it
abbrev pub WhatIsMetIsTold : Type 0
WhatIsMetIsTold =
    (part : Workpiece) → IsValid part → (body : List Block3) → AllByRecursion (IsBox 10000000) body → (c : Code) (n : ℕ)
    → 0 < met_ways part.blocks body (ways_of part c n) → IsSomeTold part.blocks body true (ways_of part c n)

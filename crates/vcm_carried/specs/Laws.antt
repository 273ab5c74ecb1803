-- Statements about carried boxes. Each is the contract of a law in src/laws.rt.
use Rattle.std.specs.Prelude.{◌≡◌, ◌↔◌, ◌≤◌, ℕ, ℤ, pos, ◌-ℤ◌, Bool, IsTrue, List, [], ◌∷◌, Option}
use Rattle.std.specs.List.{list_all, AllByRecursion}
use Rattle.vcm_num.specs.Point.{point}
use Rattle.vcm_spec.specs.declared.workpiece.Block3.{Block3}
use Rattle.vcm_spec.specs.Workpiece.{grown, is_block}
use Rattle.vcm_spec.specs.Contact.{Meets, TipMeets}
use Rattle.vcm_spec.specs.FirstContact.{Fraction}
use Rattle.vcm_carried.specs.declared.contact.Contact.{Contact}
use Rattle.vcm_carried.specs.Carried.{IsBox, BoxMeets, Counts, spread, IsFirstContact}
use Rattle.vcm_carried.specs.FirstCarried.{box_contact}
use Rattle.vcm_carried.specs.Bodies.{BodyCounts, body_contact}

-- a box meets a block where the centre of the tip lies in the spread block
abbrev pub BoxesMeetSpreadBlocks : Type 0
BoxesMeetSpreadBlocks =
    (most : ℕ) (box block : Block3) → IsBox most box → IsTrue (is_block block) → (x y : ℕ → ℤ) (a b : ℕ)
    → BoxMeets box x y block a b ↔ Meets x y (spread box block) a b

-- the computed contact is what the relation says of a box on a way
abbrev pub BoxContactIsComputed : Type 0
BoxContactIsComputed =
    (most : ℕ) (box : Block3) (blocks : List Block3) → IsBox most box → IsTrue (list_all is_block blocks) → (gone : Fraction) (with_start : Bool) (x y : ℕ → ℤ)
    → IsFirstContact blocks (Counts with_start gone box x y) x y (box_contact with_start gone box x y blocks)

-- what the relation says of a box on a way is the computed contact
abbrev pub BoxContactIsUnique : Type 0
BoxContactIsUnique =
    (most : ℕ) (box : Block3) (blocks : List Block3) → IsBox most box → IsTrue (list_all is_block blocks)
    → (gone : Fraction) (with_start : Bool) (x y : ℕ → ℤ) (answer : Option Contact)
    → IsFirstContact blocks (Counts with_start gone box x y) x y answer → answer ≡ box_contact with_start gone box x y blocks

-- the cube round the centre of the tip, h being half its width
abbrev pub cube : ℕ → Block3
cube h = record {
  low = point (pos 0 -ℤ pos h) (pos 0 -ℤ pos h) (pos 0 -ℤ pos h);
  high = point (pos h) (pos h) (pos h);
}

-- it meets a block where the tip of that width does
abbrev pub CubesAreTips : Type 0
CubesAreTips = (h : ℕ) (block : Block3) (x y : ℕ → ℤ) (a b : ℕ) → BoxMeets (cube h) x y block a b ↔ TipMeets h x y block a b

-- a box without extent meets a block where the centre of the tip lies in it
abbrev pub PointsAreCentres : Type 0
PointsAreCentres = (block : Block3) (x y : ℕ → ℤ) (a b : ℕ) → BoxMeets (cube 0) x y block a b ↔ Meets x y block a b

-- what a box meets with its sides moved out, it meets with its sides moved out farther
abbrev pub WiderBoxesMeetMore : Type 0
WiderBoxesMeetMore =
    (box block : Block3) (x y : ℕ → ℤ) (g more a b : ℕ) → g ≤ more → BoxMeets (grown g box) x y block a b → BoxMeets (grown more box) x y block a b

-- what a box meets with its sides moved out by nothing, is what it meets
abbrev pub UnmovedBoxesMeetTheSame : Type 0
UnmovedBoxesMeetTheSame = (box block : Block3) (x y : ℕ → ℤ) (a b : ℕ) → BoxMeets (grown 0 box) x y block a b ↔ BoxMeets box x y block a b

-- the computed contact is what the relation says of a body on a way
abbrev pub BodyContactIsComputed : Type 0
BodyContactIsComputed =
    (most : ℕ) (body blocks : List Block3) → AllByRecursion (IsBox most) body → IsTrue (list_all is_block blocks)
    → (gone : Fraction) (with_start : Bool) (x y : ℕ → ℤ)
    → IsFirstContact blocks (BodyCounts with_start gone body x y) x y (body_contact with_start gone body x y blocks)

-- what the relation says of a body on a way is the computed contact
abbrev pub BodyContactIsUnique : Type 0
BodyContactIsUnique =
    (most : ℕ) (body blocks : List Block3) → AllByRecursion (IsBox most) body → IsTrue (list_all is_block blocks)
    → (gone : Fraction) (with_start : Bool) (x y : ℕ → ℤ) (answer : Option Contact)
    → IsFirstContact blocks (BodyCounts with_start gone body x y) x y answer → answer ≡ body_contact with_start gone body x y blocks

-- a body of one box meets what the box meets
abbrev pub OneBoxBodies : Type 0
OneBoxBodies =
    (with_start : Bool) (gone : Fraction) (box : Block3) (x y : ℕ → ℤ) (blocks : List Block3)
    → body_contact with_start gone (box ∷ []) x y blocks ≡ box_contact with_start gone box x y blocks

-- Worked examples of the options' words and of a first look.
use Rattle.std.specs.Prelude.{◌≡◌, pos, negsuc, [], ◌∷◌, codes, Some, None, Ok}
use Rattle.vcm_num.specs.Point.{point}
use Rattle.vcm_spec.specs.declared.words.FrameAxis.TheVariants as axes
use Rattle.vcm_mesh.specs.declared.triangle.Triangle.{Triangle}
use Rattle.vcm_mesh.specs.Meshes.{triangle}
use Rattle.vcm_mesh.specs.Placings.{no_turn, then_quarter}
use Rattle.vcm_blocks.specs.Words.{turn_of, name_of}
use Rattle.vcm_blocks.specs.Adding.{box_of, base_of}

-- a quarter turn about z
abbrev pub OneTurn : Type 0
OneTurn = turn_of (codes "z90") ≡ Some (then_quarter axes.Z no_turn)

-- one about x, and then one about z the other way round, which is three
abbrev pub TwoTurns : Type 0
TwoTurns = turn_of (codes "x90,z-90") ≡ Some (then_quarter axes.Z (then_quarter axes.Z (then_quarter axes.Z (then_quarter axes.X no_turn))))

-- half a quarter, and a word that is empty
abbrev pub NoQuarter : Type 0
NoQuarter = turn_of (codes "z45") ≡ None

abbrev pub NoTurn : Type 0
NoTurn = turn_of [] ≡ None

-- a name of two words, and none
abbrev pub TwoWords : Type 0
TwoWords = name_of (codes "left jaw") ≡ Some (codes "left jaw")

abbrev pub NoName : Type 0
NoName = name_of [] ≡ None

-- a triangle of 2 by 3 mm that leans up to 4 mm
abbrev pub leaning : Triangle
leaning = triangle (point (pos 0) (pos 0) (pos 0)) (point (pos 2000) (pos 0) (pos 4000)) (point (pos 0) (negsuc 2999) (pos 0))

-- its box
abbrev pub Box : Type 0
Box = box_of (leaning ∷ []) ≡ record { low = point (pos 0) (negsuc 2999) (pos 0); high = point (pos 2000) (pos 0) (pos 4000) }

-- the limits and the home of a first look at it
abbrev pub FirstLook : Type 0
FirstLook = base_of None (leaning ∷ []) ≡ Ok (record {
  bounds = record {
    low = point (negsuc 99999) (negsuc 102999) (pos 0);
    high = point (pos 102000) (pos 100000) (pos 204000);
    home = point (pos 0) (negsuc 2999) (pos 104000);
    tip = 0;
  };
  blocks = [];
})

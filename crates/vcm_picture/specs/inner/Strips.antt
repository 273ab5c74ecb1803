-- Strips of a view.
use Rattle.std.specs.Prelude.{◌≡◌, ℤ, Bool, ◌&&◌, int_le, List, filter, IfSome}
use Rattle.vcm_picture.specs.declared.shown.Face.{Face}
use Rattle.vcm_picture.specs.declared.strips.Strip.{Strip}

-- whether a block reaches into what lies from left to right
abbrev pub reaches : ℤ → ℤ → Face → Bool
reaches left right f = int_le f.rect.left right && int_le left f.rect.right

-- if a strip has blocks, these are the ones of the view that reach into it
abbrev pub IsStrip : List Face → Strip → Type 0
IsStrip all s = IfSome s.faces (λ faces. faces.items ≡ filter (reaches s.left s.right) all)

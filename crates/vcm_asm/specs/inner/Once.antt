-- Labels that stand once.
use Rattle.std.specs.Prelude.{◌≡◌, List, [], ◌∷◌}
use Rattle.vcm_spec.specs.Program.{Label}
use Rattle.vcm_asm.specs.Assembled.{Mark}

-- the label is at none of these places
abbrev pub Absent : Label → List Mark → Type 0
Absent l [] = Unit {0}
Absent l (m ∷ ms) = (m.0 ≡ l → ⊥) × Absent l ms

-- no label is at two of them
abbrev pub Once : List Mark → Type 0
Once [] = Unit {0}
Once (m ∷ ms) = Absent m.0 ms × Once ms

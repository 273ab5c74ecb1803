-- Lines one after the other, as the loop reads them.
use Rattle.std.proofs.Common.{◌≡◌, ℕ, Bool, true, false, eqb, ◌+◌, List, [], ◌∷◌, length, Result, Ok, Err, refl, sym, ◌∙◌, arith}
use Rattle.std.specs.Str.Lines.{lines}
use Rattle.vcm_mesh.specs.declared.triangle.Triangle.{Triangle}
use Rattle.vcm_mesh.specs.declared.placing.Placing.{Placing}
use Rattle.vcm_mesh.specs.declared.text.Place.{Place}
use Rattle.vcm_mesh.specs.declared.fault.Refusal.{Refusal}
use Rattle.vcm_mesh.specs.declared.fault.MeshFault.{MeshFault}
use Rattle.vcm_mesh.specs.declared.fault.MeshFault.TheVariants.{NoMemory, Refused}
use Rattle.vcm_mesh.specs.Meshes.{Fails, read_line, read_lines, read_end}
use Rattle.vcm_mesh.specs.inner.Reads.{read_so_far}

module _ (p : Placing) (line : ℕ) (ts : List Triangle) (place : Place) (rest : List ℕ) (total : Result (List Triangle) Refusal)
    (so_far : read_lines p line (read_so_far ts place) (lines rest) ≡ total) where
  module _ (text behind : List ℕ) (cut : lines rest ≡ text ∷ lines behind) where
    pub goes_on : (us : List Triangle) (next : Place) → read_line p line (read_so_far ts place) text ≡ Ok (read_so_far us next) →
        read_lines p (line + 1) (read_so_far us next) (lines behind) ≡ total
    unfolding read_lines
    goes_on us next h =
        let one : read_lines p line (read_so_far ts place) (lines rest) ≡ read_lines p (line + 1) (read_so_far us next) (lines behind) = rw (cut, h) refl in
        sym one ∙ so_far

    pub ends : (e : MeshFault) → Fails e (read_line p line (read_so_far ts place) text) → Fails e total
    unfolding read_lines
    ends NoMemory h = tt
    ends (Refused r) h =
        let one : read_lines p line (read_so_far ts place) (lines rest) ≡ Err r = rw (cut, h) refl in
        sym so_far ∙ one

  pub is_done : rest ≡ [] → total ≡ read_end line ts place
  unfolding read_lines
  is_done e =
      let one : read_lines p line (read_so_far ts place) (lines rest) ≡ read_end line ts place = rw e refl in
      sym so_far ∙ one

-- bytes that are empty
pub nothing : (bs : List ℕ) (test : Bool) → test ≡ eqb (length bs) 0 → test ≡ true → bs ≡ []
nothing [] test e f = refl
nothing (b ∷ bs) test e f = let g : test ≡ false = grind arith in absurd (let no_such : true ≡ false = sym f ∙ g in cc)

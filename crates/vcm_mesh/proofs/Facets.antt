-- Facets one after the other, as the loop reads them.
use Rattle.std.proofs.Common.{◌≡◌, ℕ, suc, ◌+◌, ◌-◌, ◌*◌, ◌<◌, ◌≤◌, List, [], ◌∷◌, ◌++◌, Result, Ok, Err, refl, sym, ◌∙◌, arith}
use Rattle.vcm_mesh.specs.declared.triangle.Triangle.{Triangle}
use Rattle.vcm_mesh.specs.declared.placing.Placing.{Placing}
use Rattle.vcm_mesh.specs.declared.fault.Refusal.{Refusal}
use Rattle.vcm_mesh.specs.Meshes.{facets_behind, facet_at, of_triangle}

module _ (p : Placing) (bytes : List ℕ) (above : List Triangle) (count index : ℕ) (total : Result (List Triangle) Refusal)
    (so_far : facets_behind p bytes above (count - index) (index + 1) ≡ total) where
  module _ (lt : index < count) (r : Result Triangle Refusal) (read : r ≡ of_triangle (index + 1) (facet_at p bytes (84 + 50 * index))) where
    here : count - index ≡ suc (count - (index + 1))
    here = omega arith

    place : 34 + 50 * (index + 1) ≡ 84 + 50 * index
    place = omega arith

    pub goes_on : (t : Triangle) → r ≡ Ok t → facets_behind p bytes (above ++ t ∷ []) (count - (index + 1)) (index + 1 + 1) ≡ total
    unfolding facets_behind
    goes_on t h =
        let one : facets_behind p bytes above (count - index) (index + 1) ≡ facets_behind p bytes (above ++ t ∷ []) (count - (index + 1)) (index + 1 + 1) =
        rw (here, place, ← read, h) refl
        in
        sym one ∙ so_far

    pub ends : (e : Refusal) → r ≡ Err e → total ≡ Err e
    unfolding facets_behind
    ends e h =
        let one : facets_behind p bytes above (count - index) (index + 1) ≡ Err e = rw (here, place, ← read, h) refl in
        sym so_far ∙ one

  pub is_done : count ≤ index → total ≡ Ok above
  unfolding facets_behind
  is_done le =
      let none : count - index ≡ 0 = omega arith in
      let one : facets_behind p bytes above (count - index) (index + 1) ≡ Ok above = rw none refl in
      sym so_far ∙ one

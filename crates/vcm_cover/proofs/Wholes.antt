-- Triangles that blocks hold, and lists of them.
use Rattle.std.proofs.Common.{◌≡◌, ℕ, ℤ, List, subst}
use Rattle.std.proofs.lemmas.List.Elements.{All-map, All-contains}
use Rattle.std.specs.List.{All}
use Rattle.vcm_spec.specs.declared.workpiece.Block3.{Block3}
use Rattle.vcm_mesh.specs.declared.triangle.Triangle.{Triangle}
use Rattle.vcm_covering.specs.Parting.{Corners, IsPoint}
use Rattle.vcm_covering.specs.Covering.{Covers, IsCovered}
use Rattle.vcm_boxing.specs.declared.range.Range.{Range}
use Rattle.vcm_boxing.specs.declared.facet.Facet.{Facet}
use Rattle.vcm_boxing.specs.Facets.{IsFacetOf}
use Rattle.vcm_boxing.specs.Ranges.{IsIn, facet_corners}
use Rattle.vcm_cover.specs.Models.{corners, corners_of}
use Rattle.vcm_cover.specs.inner.Held.{IsHeldIn, IsHeldWhole}

same_corners : (f : Facet) (t : Triangle) → IsFacetOf f t → facet_corners f ≡ corners_of t
same_corners f t is = rw (is.a, is.b, is.c)

-- where blocks hold all of the triangle in the range around it
pub whole : (f : Facet) (t : Triangle) (blocks : List Block3) (r : Range) → IsFacetOf f t → ((s : ℕ) (x : ℕ → ℤ) → IsPoint (facet_corners f) s x → IsIn r s x)
    → IsHeldIn (facet_corners f) blocks r → IsHeldWhole blocks t
whole f t blocks r is within h =
    let e = same_corners f t is in
    record { held = subst (λ (c : Corners). (s : ℕ) (x : ℕ → ℤ) → IsPoint c s x → IsCovered blocks s x) e (λ s x p. h.held s x p (within s x p)) }

-- each of its points lies in a block
abbrev pub IsHeldFrom : List Block3 → Corners → Type 0
IsHeldFrom blocks c = (s : ℕ) (x : ℕ → ℤ) → IsPoint c s x → IsCovered blocks s x

-- and of each triangle
pub covers : (blocks : List Block3) (ts : List Triangle) → All (IsHeldWhole blocks) ts → Covers blocks (corners ts)
covers blocks ts all = λ t there. All-contains (IsHeldFrom blocks) (corners ts) t (All-map (IsHeldFrom blocks) corners_of ts (λ k d lt. (all k d lt).held)) there

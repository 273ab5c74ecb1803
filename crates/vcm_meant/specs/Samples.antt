-- Worked remarks, computed.
use Rattle.std.specs.Prelude.{◌≡◌, refl, ℕ, pos, true, false, List, [], ◌∷◌, Option, Some, None}
use Rattle.vcm_num.specs.declared.axis.Axis.TheVariants.{PlusX, PlusZ}
use Rattle.vcm_num.specs.declared.point.Point.{Point}
use Rattle.vcm_num.specs.Point.{point}
use Rattle.vcm_spec.specs.declared.feature.Feature.{Feature}
use Rattle.vcm_spec.specs.declared.stop.Stop.TheVariants.{Ended}
use Rattle.vcm_trace.specs.Deviations.{root_by, root_down}
use Rattle.vcm_meant.specs.declared.remark.Remark.{Remark}
use Rattle.vcm_meant.specs.declared.remark.What.TheVariants.{Far, Turned, Again, Never, NoRound}
use Rattle.vcm_meant.specs.Measuring.{remark, far_from, turned_from, added}
use Rattle.vcm_meant.specs.Seen.{seen, seen_with}
use Rattle.vcm_meant.specs.Meant.{remarks_of}

-- a feature on a face towards z
abbrev declared : Feature
declared = record { at = point (pos 20000) (pos 20000) (pos 20000); toward = PlusZ }

-- as far as the approach distance is no farther
pub as_far : far_from 5 0 3 2000 (Some declared) (Some (point (pos 22000) (pos 20000) (pos 20000))) ≡ None
as_far = refl

-- and half a micrometre more is, though the length that is told is cut off
pub farther : far_from 5 0 3 2000 (Some declared) (Some (point (pos 22000) (pos 20050) (pos 20000))) ≡ Some (remark 5 (Far 0 3 (Some (pos 2000)) 2000))
unfolding root_by root_down
farther = refl

-- a measurement along x
pub turned : turned_from 5 0 3 (Some declared) (Some (record declared { toward = PlusX })) ≡ Some (remark 5 (Turned 0 PlusX 3 PlusZ))
turned = refl

-- of one line one remark of a kind is told, and one of another kind too
pub told_once : added (Some (remark 5 (Again 3))) (added (Some (remark 5 (Turned 0 PlusX 3 PlusZ))) (added (Some (remark 5 (Again 4))) []))
    ≡ remark 5 (Again 4) ∷ remark 5 (Turned 0 PlusX 3 PlusZ) ∷ []
told_once = refl

-- a FEAT of line 3 that is carried out twice, and whose feature was measured the first time
pub measured_once : seen_with 3 0 false (seen_with 3 0 true (seen_with 3 0 false [])) ≡ seen 3 0 true ∷ []
measured_once = refl

-- at the end of a program: FEATs and DOs among what is remarked of measurements, in the order of lines
pub in_order : remarks_of (record {
  feats = [];
  declared = seen 3 0 true ∷ seen 4 1 false ∷ [];
  loops = seen 9 0 false ∷ seen 2 0 false ∷ [];
  remarks = remark 8 (Again 3) ∷ remark 4 (Again 3) ∷ [];
}) (Some (record { stop = Ended; number = 12; line = 14 }))
    ≡ remark 2 NoRound ∷ remark 4 (Again 3) ∷ remark 4 (Never 1) ∷ remark 8 (Again 3) ∷ remark 9 NoRound ∷ []
in_order = refl

-- before the end a FEAT may be measured yet
pub before_the_end : remarks_of (record { feats = []; declared = seen 4 1 false ∷ []; loops = []; remarks = [] }) None ≡ []
before_the_end = refl

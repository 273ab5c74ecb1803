use Rattle.std.proofs.Common.{arith, pos, w64, to_z, of_z, inl, inr, rules}
use Rattle.std.proofs.lemmas.Int.{ints, clamps, by_lt_z}
use Rattle.vcm_motion.proofs.Reached.{moving}
use Rattle.vcm_carried.proofs.axis.reach.Goals as goal
use Rattle.vcm_carried.proofs.axis.reach.Goals.{then-far-lt0, else-far-lt0}
use lib.IntN.{nat_abs}

pub returns-else-run-eq0 : goal.returns-else-run-eq0
returns-else-run-eq0 c = λ a b f.
    let m = moving c.args.near c.args.far c.args.run (nat_abs (to_z w64 (of_z w64 c.max.result))) (nat_abs (to_z w64 (of_z w64 c.args.far))) (nat_abs (to_z w64 (of_z w64 c.args.run)))
    (omega (arith, ints))
    (elim c.if-far-lt0.branch [ then-far-lt0 w ↦ absurd (omega (arith, ints)) | else-far-lt0 w ↦ omega (arith, ints) ])
    (by_lt_z (pos 0) c.args.near (λ h. inr (omega (arith, ints, clamps))) (λ h. inl (omega (arith, ints), omega (arith, ints, clamps))))
    a b in
    (λ r. record { after = (m.0 r).0; before = (m.0 r).1 }, λ w. m.1 (w.after, w.before))

pub returns-then-run-eq0 : goal.returns-then-run-eq0
returns-then-run-eq0 c = search rules

use Rattle.std.proofs.Common.{◌≡◌, ◌∙◌, ap, subst, ◌++◌, ◌∷◌, []}
use Rattle.vcm_picture.specs.Shown.{rects_before, seen_of}
use Rattle.vcm_picture.proofs.Faces.{seen_on}
use Rattle.vcm_picture.proofs.strips.push_seen.Goals as goal

pub loop-face-preserved : goal.loop-face-preserved
loop-face-preserved c =
    let all = c.args.all.now in
    let rivals = c.rivals_in-rivals.result.now in
    record {
      seen = seen_on c.args.unit all rivals c.loop-face.face-index c.face-item.result c.loop-face.seen.items _ _ c.loop-face-test.true
          (subst (λ f. rects_before f rivals ≡ rects_before f all) c.face-item.is c.rivals_in-rivals.ensures)
          (c.in_ok-push_among.ensures ∙ ap (λ f. c.loop-face.seen.items ++ seen_of c.args.unit rivals f ∷ []) c.face-item.is) c.loop-face.invariant.seen;
    }

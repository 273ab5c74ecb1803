use Rattle.std.proofs.Common.{◌≡◌, ◌≤ℤ◌, ◌∙◌, ap, filter, rules, w64, FitsSigned, to_z-of_z}
use Rattle.vcm_spec.proofs.Entries.{le_true}
use Rattle.vcm_picture.specs.Shown.{rects_before}
use Rattle.vcm_picture.specs.inner.Strips.{reaches}
use Rattle.vcm_picture.proofs.Reaching.{all_before}
use Rattle.vcm_picture.proofs.strips.rivals.Goals as goal

pub returns-then-rect-strip : goal.returns-then-rect-strip
returns-then-rect-strip c =
    let s = c.args.strip.now in
    let f = c.args.face.now in
    let all = c.args.all.now in
    let f1 : FitsSigned w64 s.left = search rules in
    let f2 : FitsSigned w64 s.right = search rules in
    let f3 : FitsSigned w64 c.rect-rect.result.left = search rules in
    let f4 : FitsSigned w64 c.rect-rect.result.right = search rules in
    let a : s.left ≤ℤ c.rect-rect.result.left = le_true _ _ (simp to_z-of_z at c.if-strip-rect.true) in
    let b : c.rect-rect.result.right ≤ℤ s.right = le_true _ _ (simp to_z-of_z at c.if-rect-strip.true) in
    let across : s.left ≤ℤ f.rect.left = rw c.rect-rect.ensures.rect at a in
    let along : f.rect.right ≤ℤ s.right = rw c.rect-rect.ensures.rect at b in
    let kept : c.in-Some.faces.items ≡ filter (reaches s.left s.right) all = rw c.in-Some.is at c.requires in
    ap (rects_before f) (c.as_slice.ensures.value ∙ kept) ∙ all_before s.left s.right f all across along

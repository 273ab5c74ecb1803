-- Blocks that reach into a strip.
use Rattle.std.proofs.Common.{◌≡◌, ℤ, ◌≤ℤ◌, Bool, true, false, true≢false, cond, List, [], ◌∷◌, ◌++◌, filter, int_le, arith, ap, refl, sym, ◌∙◌}
use Rattle.std.proofs.lemmas.Bool.{and_parts}
use Rattle.std.proofs.lemmas.Int.{ints}
use Rattle.vcm_spec.proofs.Entries.{le_true, true_le}
use Rattle.vcm_picture.specs.declared.shown.Face.{Face}
use Rattle.vcm_picture.specs.Shown.{stands_before, rect_before, rects_before}
use Rattle.vcm_picture.specs.inner.Strips.{reaches}

-- what stands before a block within a strip reaches into the strip
reaching_before : (left right : ℤ) (f o : Face) → left ≤ℤ f.rect.left → f.rect.right ≤ℤ right → stands_before o f ≡ true → reaches left right o ≡ true
reaching_before left right f o h k e =
    let m = and_parts _ _ e in
    let across = and_parts _ _ m.1 in
    let sides = and_parts _ _ across.0 in
    let a : o.rect.left ≤ℤ f.rect.right = le_true _ _ sides.0 in
    let b : f.rect.left ≤ℤ o.rect.right = le_true _ _ sides.1 in
    let p : int_le o.rect.left right ≡ true = true_le o.rect.left right (omega (arith, ints)) in
    let q : int_le left o.rect.right ≡ true = true_le left o.rect.right (omega (arith, ints)) in
    rw (p, q) refl

-- so a block that doesn't reach into it gives no rectangle
none_before : (t : Bool) (left right : ℤ) (f o : Face) → left ≤ℤ f.rect.left → f.rect.right ≤ℤ right → reaches left right o ≡ false
    → stands_before o f ≡ t → rect_before f o ≡ []
none_before true left right f o h k n e = absurd (true≢false (sym (reaching_before left right f o h k e) ∙ n))
none_before false left right f o h k n e = rw e refl

kept_or_none : (t : Bool) (left right : ℤ) (f o : Face) (kept all : List Face) → left ≤ℤ f.rect.left → f.rect.right ≤ℤ right → reaches left right o ≡ t
    → rects_before f kept ≡ rects_before f all → rects_before f (cond t (o ∷ kept) kept) ≡ rect_before f o ++ rects_before f all
kept_or_none true left right f o kept all h k e w = ap (λ rs. rect_before f o ++ rs) w
kept_or_none false left right f o kept all h k e w = rw (none_before _ left right f o h k e refl) w

-- among the blocks that reach into the strip are all that stand before a block within it
pub all_before : (left right : ℤ) (f : Face) (all : List Face) → left ≤ℤ f.rect.left → f.rect.right ≤ℤ right
    → rects_before f (filter (reaches left right) all) ≡ rects_before f all
all_before left right f [] h k = refl
all_before left right f (o ∷ os) h k =
    kept_or_none (reaches left right o) left right f o (filter (reaches left right) os) os h k refl (all_before left right f os h k)

-- Blocks and limits that compare as equal.
use Rattle.std.proofs.Common.{◌≡◌, ap, refl, ◌∙◌, ℕ, ℤ, Bool, true, false, ◌&&◌, eqb, List, [], ◌∷◌, ◌++◌}
use Rattle.std.specs.Cmp.Lexicographic.{pointwise}
use Rattle.std.specs.Ordering.{int_eq}
use Rattle.std.proofs.lemmas.Bool.{and_parts}
use Rattle.std.proofs.lemmas.Bool.Decides.{Decides-int_eq, Decides-eqb}
use Rattle.std.proofs.lemmas.Slice.Eq.{slice_eq-Decides}
use Rattle.vcm_num.specs.declared.point.Point.{Point}
use Rattle.vcm_spec.specs.declared.workpiece.Block3.{Block3}
use Rattle.vcm_spec.specs.declared.workpiece.Bounds.{Bounds}
use Rattle.vcm_spec.specs.Workpiece.{Workpiece}
use Rattle.vcm_blocks.specs.inner.Steps.{workpiece}

abbrev point_of : List ℤ → Point
point_of xs = record { 0 = xs }

pub point_eq : (p q : Point) → pointwise int_eq p.0 q.0 ≡ true → p ≡ q
point_eq p q h = ap point_of ((slice_eq-Decides Decides-int_eq p.0 q.0 (pointwise int_eq p.0 q.0) refl).0 h)

abbrev block_of : Point → Point → Block3
block_of low high = record { low = low; high = high }

pub block_eq : (a b : Block3) → (pointwise int_eq a.low.0 b.low.0 && pointwise int_eq a.high.0 b.high.0) ≡ true → a ≡ b
block_eq a b h =
    let parts = and_parts _ _ h in
    let low : a.low ≡ b.low = point_eq a.low b.low parts.0 in
    let high : a.high ≡ b.high = point_eq a.high b.high parts.1 in
    ap (λ (x : Point). block_of x a.high) low ∙ ap (λ (x : Point). block_of b.low x) high

pub list_eq : (E : Block3 → Block3 → Bool) → ((a b : Block3) → E a b ≡ true → a ≡ b) → (xs ys : List Block3) → pointwise E xs ys ≡ true → xs ≡ ys
list_eq E each [] [] h = refl
list_eq E each [] (y ∷ ys) h = absurd (let no : false ≡ true = h in cc)
list_eq E each (x ∷ xs) [] h = absurd (let no : false ≡ true = h in cc)
list_eq E each (x ∷ xs) (y ∷ ys) h =
    let parts = and_parts _ _ h in
    let first : x ≡ y = each x y parts.0 in
    let others : xs ≡ ys = list_eq E each xs ys parts.1 in
    ap (λ (z : Block3). z ∷ xs) first ∙ ap (λ (zs : List Block3). y ∷ zs) others

abbrev bounds_of : Point → Point → Point → ℕ → Bounds
bounds_of low high home tip = record { low = low; high = high; home = home; tip = tip }

pub bounds_eq : (a b : Bounds) →
    (pointwise int_eq a.low.0 b.low.0 && (pointwise int_eq a.high.0 b.high.0 && (pointwise int_eq a.home.0 b.home.0 && eqb a.tip b.tip))) ≡ true → a ≡ b
bounds_eq a b h =
    let first = and_parts _ _ h in
    let second = and_parts _ _ first.1 in
    let third = and_parts _ _ second.1 in
    let low : a.low ≡ b.low = point_eq a.low b.low first.0 in
    let high : a.high ≡ b.high = point_eq a.high b.high second.0 in
    let home : a.home ≡ b.home = point_eq a.home b.home third.0 in
    let tip : a.tip ≡ b.tip = (Decides-eqb a.tip b.tip).0 third.1 in
    ap (λ (x : Point). bounds_of x a.high a.home a.tip) low ∙ ap (λ (x : Point). bounds_of b.low x a.home a.tip) high
    ∙ ap (λ (x : Point). bounds_of b.low b.high x a.tip) home ∙ ap (λ (n : ℕ). bounds_of b.low b.high b.home n) tip

pub joined : (us vs xs ys : List Block3) → us ≡ xs → vs ≡ ys → us ++ vs ≡ xs ++ ys
joined us vs xs ys e f = ap (λ (zs : List Block3). zs ++ vs) e ∙ ap (λ (zs : List Block3). xs ++ zs) f

pub workpiece_eq : (w : Workpiece) (b : Bounds) (bs : List Block3) → w.bounds ≡ b → w.blocks ≡ bs → w ≡ workpiece b bs
workpiece_eq w b bs e f = ap (λ (x : Bounds). workpiece x w.blocks) e ∙ ap (λ (xs : List Block3). workpiece b xs) f

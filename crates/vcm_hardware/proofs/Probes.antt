-- Probes: how the head is turned, and what is written of them.
use Rattle.std.proofs.Common.{◌≡◌, ℕ, ℤ, ◌+ℤ◌, ◌-ℤ◌, List, ◌++◌, ap, refl, subst, ◌∙◌}
use Rattle.std.specs.Prelude.{Result, OnOk}
use Rattle.vcm_num.specs.Point.{point}
use Rattle.vcm_hardware.specs.declared.angle.Spot.{Spot}
use Rattle.vcm_hardware.specs.declared.angle.Turning.{Turning}
use Rattle.vcm_hardware.specs.declared.description.Place.{Place}
use Rattle.vcm_hardware.specs.declared.description.StillBox.{StillBox}
use Rattle.vcm_hardware.specs.declared.description.Cylinder.{Cylinder}
use Rattle.vcm_hardware.specs.declared.description.Ball.{Ball}
use Rattle.vcm_hardware.specs.declared.description.Choice.{Choice}
use Rattle.vcm_hardware.specs.Described.{Hanging}
use Rattle.vcm_hardware.specs.Intervals.{floor_one, ceil_one, half_up}
use Rattle.vcm_hardware.specs.Turned.{turning_by, turned}
use Rattle.vcm_hardware.specs.Boxes.{turning_of, parts_count, centre, ball_box, head_box, rounded, pivot}
use Rattle.vcm_hardware.specs.ProbeFile.{parts_text, balls_text, heads_text, probe_text_at}

pub turned_by : (t : Turning) (a b d e : ℤ) → t ≡ turning_by a b → a ≡ d → b ≡ e → t ≡ turning_by d e
turned_by t a b d e h p q = h ∙ ap (λ (z : ℤ). turning_by z b) p ∙ ap (λ (z : ℤ). turning_by d z) q

pub sum_same : (a b d e : ℤ) → a ≡ d → b ≡ e → a +ℤ b ≡ d +ℤ e
sum_same a b d e p q = ap (λ (z : ℤ). z +ℤ b) p ∙ ap (λ (z : ℤ). d +ℤ z) q

pub turned_of : (t : Turning) (a b : ℤ) (choice : Choice) → t ≡ turning_of a choice → a ≡ b → t ≡ turning_of b choice
turned_of t a b choice h e = h ∙ ap (λ (z : ℤ). turning_of z choice) e

pub counted : (k : ℕ) (t u : Turning) (tip at : Place) (ps qs : List Cylinder) → k ≡ parts_count t tip ps → t ≡ u → tip ≡ at → ps ≡ qs → k ≡ parts_count u at qs
counted k t u tip at ps qs h et ep eq =
    h ∙ ap (λ (x : Turning). parts_count x tip ps) et ∙ ap (λ (x : Place). parts_count u x ps) ep ∙ ap (λ (x : List Cylinder). parts_count u at x) eq

pub turned_text : {A E : Type 0} (r : Result A E) (o m : List ℕ) (h : Hanging) (t u : Turning) (choice : Choice) → t ≡ u → OnOk r (m ≡ o ++ probe_text_at h t choice)
    → OnOk r (m ≡ o ++ probe_text_at h u choice)
turned_text r o m h t u choice e p = subst (λ (x : Turning). OnOk r (m ≡ o ++ probe_text_at h x choice)) e p

pub tip_text : {A E : Type 0} (r : Result A E) (o m : List ℕ) (h : Hanging) (t : Turning) (own : ℕ) (tip at : Place) → tip ≡ at
    → OnOk r (m ≡ o ++ (parts_text t tip h.parts ++ (balls_text t tip own 0 h.balls ++ heads_text (centre t tip) h.heads)))
    → OnOk r (m ≡ o ++ (parts_text t at h.parts ++ (balls_text t at own 0 h.balls ++ heads_text (centre t at) h.heads)))
tip_text r o m h t own tip at e p =
    subst (λ (x : Place). OnOk r (m ≡ o ++ (parts_text t x h.parts ++ (balls_text t x own 0 h.balls ++ heads_text (centre t x) h.heads)))) e p

-- ---- boxes

pub ball_box_is : (t : Turning) (tip : Place) (ball : Ball) (s : Spot) (r a b d e f g : ℤ) → s ≡ turned t ball.at tip → r ≡ half_up ball.diameter → a ≡ floor_one s.x.low -ℤ r
    → b ≡ floor_one s.y.low -ℤ r → d ≡ floor_one s.z.low -ℤ r → e ≡ ceil_one s.x.high +ℤ r → f ≡ ceil_one s.y.high +ℤ r → g ≡ ceil_one s.z.high +ℤ r
    → record { low = point a b d; high = point e f g } ≡ ball_box t tip ball
ball_box_is t tip ball s r a b d e f g es er ea eb ed ee ef eg = rw (ea, eb, ed, ee, ef, eg, er, es) refl

pub head_box_is : (c : Spot) (still : StillBox) (a b d e f g : ℤ) → a ≡ floor_one c.x.low +ℤ still.low.x → b ≡ floor_one c.y.low +ℤ still.low.y → d ≡ floor_one c.z.low +ℤ still.low.z
    → e ≡ ceil_one c.x.high +ℤ still.high.x → f ≡ ceil_one c.y.high +ℤ still.high.y → g ≡ ceil_one c.z.high +ℤ still.high.z
    → record { low = point a b d; high = point e f g } ≡ head_box c still
head_box_is c still a b d e f g ea eb ed ee ef eg = rw (ea, eb, ed, ee, ef, eg) refl

pub pivot_is : (c : Spot) (a b d : ℤ) → a ≡ rounded c.x.low c.x.high → b ≡ rounded c.y.low c.y.high → d ≡ rounded c.z.low c.z.high → point a b d ≡ pivot c
pivot_is c a b d ea eb ed = rw (ea, eb, ed) refl

-- Statements leave the probe at rest within the limits, its tip meeting no block.
use Rattle.std.proofs.Common.{◌≡◌, ℕ, ◌<◌, ℤ, pos, negsuc, ◌≤ℤ◌, Bool, true, false, List, refl, sym, subst, arith}
use Rattle.std.specs.Prelude.{int_le, unsigned_abs, IsTrue, not}
use Rattle.std.proofs.lemmas.Bool.{and_parts}
use Rattle.std.proofs.lemmas.Int.{ints}
use Rattle.vcm_num.specs.declared.axis.Axis.{Axis}
use Rattle.vcm_num.specs.declared.point.Point.{Point}
use Rattle.vcm_num.specs.Point.{coordinate}
use Rattle.vcm_spec.specs.declared.feature.Touch.{Touch}
use Rattle.vcm_spec.specs.declared.stop.Stop.TheVariants.{BadSetting}
use Rattle.vcm_spec.specs.declared.words.MovePhase.TheVariants.{Move}
use Rattle.vcm_spec.specs.declared.words.Setting.{Setting}
use Rattle.vcm_spec.specs.declared.words.Setting.TheVariants.{Approach, Retract, Search, Depth}
use Rattle.vcm_spec.specs.Setup.{Setup}
use Rattle.vcm_spec.specs.Workpiece.{Workpiece, IsValid, is_blocked, is_within}
use Rattle.vcm_spec.specs.World.{Settings, World, with_variable}
use Rattle.vcm_spec.specs.Frame.{direction, to_part}
use Rattle.vcm_spec.specs.Touch.{IsTouch}
use Rattle.vcm_spec.specs.FirstTouch.{free_move, touch}
use Rattle.vcm_spec.specs.Outcome.{Outcome, Gives, Stops, ◌>>=◌, demand, found, point_at}
use Rattle.vcm_spec.specs.Simple.{Simple}
use Rattle.vcm_spec.specs.declared.simple.Simple.TheVariants.{Goto, GoHome, Assign, Feat, PtMeas, SnSet, Trans, Rotate, Recall, Obtain, Output, Text}
use Rattle.vcm_spec.specs.Effect.{carried_out, go, with_line, with_setting, is_allowed, measured_direction, machine_point, feature_in, at_index}
use Rattle.vcm_spec.proofs.Touches.{touch_is}
use Rattle.vcm_spec.proofs.Entries.{le_true}
use Rattle.vcm_spec.specs.Rests.{Rests, OpensAtRest}
use Rattle.vcm_spec.proofs.Resting.{Free, free_rests, back_rests}

abbrev RestsIn : Workpiece → Outcome World → Type 0
RestsIn part (Gives w) = Rests part w
RestsIn part (Stops why) = Unit {0}

record Kept (part : Workpiece) (o : Outcome World) : Type 0 where
  kept : RestsIn part o

kept_after : {A : Type 0} (part : Workpiece) (o : Outcome A) (f : A → Outcome World) → ((x : A) → Kept part (f x)) → Kept part (o >>= f)
kept_after part (Gives x) f k = k x
kept_after part (Stops why) f k = record { kept = tt }

-- the same place, and the same settings
gives : {part : Workpiece} {w : World} → Rests part w → Kept part (Gives w)
gives r = record { kept = r }

there : (part : Workpiece) (w w' : World) → w'.position ≡ w.position → w'.settings ≡ w.settings → Rests part w → Kept part (Gives w')
there part w w' e f r = record {
  kept = record {
    within = subst (λ p. IsTrue (is_within part.bounds (coordinate p))) (sym e) r.within;
    clear = subst (λ p. IsTrue (not (is_blocked part (coordinate p)))) (sym e) r.clear;
    back = subst (λ (s : Settings). 0 < s.retract) (sym f) r.back;
  };
}

go_kept : (setup : Setup) → IsValid setup.part → (w : World) (target : Point) → Rests setup.part w → Kept setup.part (go setup w target)
go_kept setup valid w target r = by (free_move Move setup.part (coordinate w.position) (coordinate target)) refl
  where
    by : (o : Outcome (Unit {0})) → free_move Move setup.part (coordinate w.position) (coordinate target) ≡ o → Kept setup.part (o >>= (λ u. Gives (record w { position = target })))
    by (Gives u) e = let f = free_rests Move setup.part valid (coordinate w.position) (coordinate target) u e in record { kept = record { within = f.within; clear = f.clear; back = r.back } }
    by (Stops why) e = record { kept = tt }

touch_kept : (part : Workpiece) → IsValid part → (w : World) (nominal : ℕ → ℤ) (d : Axis) (next : Touch → Outcome World) → Rests part w
    → ((t : Touch) → Free part (coordinate t.retract) → Kept part (next t)) → Kept part (touch part w.settings (coordinate w.position) nominal d >>= next)
touch_kept part valid w nominal d next r k = by (touch part w.settings (coordinate w.position) nominal d) (touch_is part valid w.settings (coordinate w.position) nominal d r.back)
  where
    by : (o : Outcome Touch) → IsTouch part w.settings (coordinate w.position) nominal d o → Kept part (o >>= next)
    by (Gives t) h =
        let f = back_rests part valid _ _ h.1.within h.1.clear in
        k t (record {
          within = subst (λ p. IsTrue (is_within part.bounds (coordinate p))) (sym h.3) f.within;
          clear = subst (λ p. IsTrue (not (is_blocked part (coordinate p)))) (sym h.3) f.clear;
        })
    by (Stops why) h = record { kept = tt }

above_0 : (z : ℤ) → pos 1 ≤ℤ z → 0 < unsigned_abs z
above_0 (pos n) h = omega (arith, ints)
above_0 (negsuc n) h = absurd (omega (arith, ints))

set_kept : (part : Workpiece) (w : World) (which : Setting) (z : ℤ) → Rests part w
    → Kept part (demand (is_allowed which z) BadSetting >>= (λ u. Gives (record w { settings = with_setting w.settings which (unsigned_abs z) })))
set_kept part w Approach z r = kept_after part _ _ (λ u. gives (record { within = r.within; clear = r.clear; back = r.back }))
set_kept part w Search z r = kept_after part _ _ (λ u. gives (record { within = r.within; clear = r.clear; back = r.back }))
set_kept part w Depth z r = kept_after part _ _ (λ u. gives (record { within = r.within; clear = r.clear; back = r.back }))
set_kept part w Retract z r = by (is_allowed Retract z) refl
  where
    by : (b : Bool) → is_allowed Retract z ≡ b → Kept part (demand b BadSetting >>= (λ u. Gives (record w { settings = with_setting w.settings Retract (unsigned_abs z) })))
    by true e = gives (record { within = r.within; clear = r.clear; back = above_0 z (le_true (pos 1) z (and_parts (int_le (pos 1) z) (int_le z (pos 1000000)) e).0) })
    by false e = record { kept = tt }

variable_kept : (part : Workpiece) (w : World) (v : ℕ) (x : ℤ) → Rests part w → Kept part (Gives (with_variable w v x))
unfolding with_variable
variable_kept part w v x r = there part w _ refl refl r

line_kept : (part : Workpiece) (w : World) (line : List ℕ) → Rests part w → Kept part (with_line w line)
line_kept part w line r = kept_after part _ _ (λ u. there part w _ refl refl r)

carried_out_kept : (setup : Setup) → IsValid setup.part → (w : World) (s : Simple ℤ) → Rests setup.part w → Kept setup.part (carried_out setup w s)
unfolding carried_out
carried_out_kept setup valid w (Goto x y z) r = kept_after setup.part (machine_point w x y z) _ (λ p. go_kept setup valid w p r)
carried_out_kept setup valid w GoHome r = go_kept setup valid w setup.part.bounds.home r
carried_out_kept setup valid w (Assign v x) r = variable_kept setup.part w v x r
carried_out_kept setup valid w (Feat i x y z d) r = there setup.part w _ refl refl r
carried_out_kept setup valid w (PtMeas i x y z given) r =
    kept_after setup.part (measured_direction w i given) _ (λ d. kept_after setup.part (machine_point w x y z) _ (λ nominal.
    touch_kept setup.part valid w (coordinate nominal) (direction w.frame.turn d) _ r (λ t f.
    kept_after setup.part (point_at (to_part w.frame (coordinate t.at))) _ (λ at. gives (record { within = f.within; clear = f.clear; back = r.back })))))
carried_out_kept setup valid w (SnSet which z) r = set_kept setup.part w which z r
carried_out_kept setup valid w (Trans i x y z) r = kept_after setup.part (machine_point w x y z) _ (λ o. there setup.part w _ refl refl r)
carried_out_kept setup valid w (Rotate i axis n) r = there setup.part w _ refl refl r
carried_out_kept setup valid w (Recall i) r = kept_after setup.part (found (at_index w.saved i) _) _ (λ f. there setup.part w _ refl refl r)
carried_out_kept setup valid w (Obtain v source i word) r = kept_after setup.part (feature_in w source i) _ (λ f. variable_kept setup.part w v _ r)
carried_out_kept setup valid w (Output source i) r = kept_after setup.part (feature_in w source i) _ (λ f. line_kept setup.part w _ r)
carried_out_kept setup valid w (Text bytes) r = line_kept setup.part w bytes r

pub stays_at_rest : (setup : Setup) → IsValid setup.part → (w after : World) (s : Simple ℤ) → Rests setup.part w → carried_out setup w s ≡ Gives after → Rests setup.part after
stays_at_rest setup valid w after s r e = let k : Kept setup.part (Gives after) = subst (Kept setup.part) e (carried_out_kept setup valid w s r) in k.kept

-- at the start it is, since home is such a place
pub opens_at_rest : OpensAtRest
opens_at_rest su valid = record { within = valid.home; clear = valid.clear; back = omega arith }

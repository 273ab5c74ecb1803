-- Places and probes, as they are read.
use Rattle.std.proofs.Common.{◌≡◌, ℕ, ℤ, pos, negsuc, ◌<◌, ◌≤ℤ◌, true, false, List, [], ◌∷◌, length, get_or, Some, Result, Ok, arith, ap, refl, sym, FitsSigned}
use Rattle.std.specs.Prelude.{int_le}
use Rattle.std.specs.List.{list_any}
use Rattle.std.proofs.lemmas.Bool.{and_parts}
use Rattle.std.proofs.lemmas.Int.{ints}
use mir.Syntax.{w32}
use Rattle.toml.specs.Data.{Members}
use Rattle.vcm_num.specs.declared.point.Point.{Point}
use Rattle.vcm_num.specs.Point.{coordinate}
use Rattle.vcm_hardware.specs.declared.description.Choice.{Choice}
use Rattle.vcm_hardware.specs.declared.fault.HardwareKey.TheVariants as keys
use Rattle.vcm_hardware.specs.declared.fault.Where.TheVariants as stand
use Rattle.vcm_hardware.specs.declared.fault.HardwareFault.{HardwareFault}
use Rattle.vcm_hardware.specs.Keys.{probe_keys}
use Rattle.vcm_hardware.specs.Described.{Hanging}
use Rattle.vcm_hardware.specs.HardwareFile.{is_close, place_of, only, probe_name_at, number_or, text_at, angle_at, is_name_taken, is_number_taken, place_of_tip, fitting, choice_in}
use Rattle.vcm_hardware.specs.inner.Reads.{Gives}
use Rattle.vcm_hardware.specs.ProbeFile.{is_other_pose, has_poses}

-- ---- places

near_fits : (z : ℤ) → negsuc 999999 ≤ℤ z → z ≤ℤ pos 1000000 → FitsSigned w32 z
near_fits z low high = omega (arith, ints)

pub close_fits : (z : ℤ) → is_close z ≡ true → FitsSigned w32 z
close_fits z e =
    let both = and_parts (int_le (negsuc 999999) z) (int_le z (pos 1000000)) e in
    near_fits z (record { le = rw both.0 tt }) (record { le = rw both.1 tt })

pub place_is : (p : Point) → is_close (coordinate p 0) ≡ true → is_close (coordinate p 1) ≡ true → is_close (coordinate p 2) ≡ true
    → Some (record { x = coordinate p 0; y = coordinate p 1; z = coordinate p 2 }) ≡ place_of p
place_is p ex ey ez = rw (ex, ey, ez) refl

-- ---- probes

pub choice_is : (h : Hanging) (above : List Choice) (number : ℕ) (t : Members) (name tip : List ℕ) (own a b : ℤ) (ball : ℕ) (r : Result Choice HardwareFault)
    → only probe_keys t (stand.Probe number) ≡ Ok tt → probe_name_at t (stand.Probe number) ≡ Ok name
    → number_or t (stand.Probe number) keys.Number (pos 1) (pos 999999) (pos number) ≡ Ok own → text_at t (stand.Probe number) keys.Tip ≡ Ok tip
    → angle_at t (stand.Probe number) keys.A ≡ Ok a → angle_at t (stand.Probe number) keys.B ≡ Ok b → is_name_taken name above ≡ false → is_number_taken own above ≡ false
    → place_of_tip tip h.balls ≡ Some ball
    → Gives {X = Choice} {Y = Choice} (λ c. c) r (fitting h number (record { name = name; number = own; tip = ball; a = a; b = b }))
    → Gives {X = Choice} {Y = Choice} (λ c. c) r (choice_in h above number t)
unfolding choice_in
choice_is h above number t name tip own a b ball r e1 e2 e3 e4 e5 e6 e7 e8 e9 fit = rw (e1, e2, e3, e4, e5, e6, e7, e8, e9) fit

pub poses_are : (xs : List Choice) (x : Choice) → 0 < length xs → get_or xs 0 x ≡ x → list_any (is_other_pose x) xs ≡ has_poses xs
poses_are [] x some at = absurd (omega arith)
poses_are (c ∷ cs) x some at = ap (λ (v : Choice). list_any (is_other_pose v) (c ∷ cs)) (sym at)

use Rattle.std.proofs.Common.{◌<◌, ◌*◌, ◌≤◌, arith, rules}
use Rattle.vcm_spec.proofs.Fractions.{not_after_trans}
use Rattle.vcm_carried.proofs.fraction.Fraction.later.Goals as goal

pub returns-then-is_before : goal.returns-then-is_before
returns-then-is_before c a b =
    let s = c.args.self in
    let o = c.args.other in
    let l : s.num * o.den < o.num * s.den = search rules in
    (λ h. (not_after_trans s.num s.den o.num o.den a b o.positive (omega (arith, l)) h, h), λ h. h.1)

pub returns-else-is_before : goal.returns-else-is_before
returns-else-is_before c a b =
    let s = c.args.self in
    let o = c.args.other in
    let l : o.num * s.den ≤ s.num * o.den = grind arith in
    (λ h. (h, not_after_trans o.num o.den s.num s.den a b s.positive l h), λ h. h.0)

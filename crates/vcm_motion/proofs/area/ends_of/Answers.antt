use Rattle.std.proofs.Common.{arith}
use Rattle.std.proofs.lemmas.Int.{ints, clamps}
use Rattle.vcm_spec.proofs.Entries.{below_three}
use Rattle.vcm_motion.proofs.Inside.{reachable}
use Rattle.vcm_motion.proofs.area.ends_of.Goals as goal

pub returns-clause-holds : goal.returns-clause-holds
returns-clause-holds c =
    let f = reachable c.args.from c.requires.from in
    let t = reachable c.args.to c.requires.to in
    let fx = f 0 (omega arith) in let fxl = fx.from_below in let fxh = fx.from_above in
    let fy = f 1 (omega arith) in let fyl = fy.from_below in let fyh = fy.from_above in
    let fz = f 2 (omega arith) in let fzl = fz.from_below in let fzh = fz.from_above in
    let tx = t 0 (omega arith) in let txl = tx.from_below in let txh = tx.from_above in
    let ty = t 1 (omega arith) in let tyl = ty.from_below in let tyh = ty.from_above in
    let tz = t 2 (omega arith) in let tzl = tz.from_below in let tzh = tz.from_above in
    below_three _
    (record { from_low = omega (arith, ints, clamps); from_high = omega (arith, ints, clamps); to_low = omega (arith, ints, clamps); to_high = omega (arith, ints, clamps) })
    (record { from_low = omega (arith, ints, clamps); from_high = omega (arith, ints, clamps); to_low = omega (arith, ints, clamps); to_high = omega (arith, ints, clamps) })
    (record { from_low = omega (arith, ints, clamps); from_high = omega (arith, ints, clamps); to_low = omega (arith, ints, clamps); to_high = omega (arith, ints, clamps) })

pub returns-clause-low : goal.returns-clause-low
returns-clause-low c =
    let f = reachable c.args.from c.requires.from in
    let t = reachable c.args.to c.requires.to in
    let fx = f 0 (omega arith) in let fxl = fx.from_below in let fxh = fx.from_above in
    let fy = f 1 (omega arith) in let fyl = fy.from_below in let fyh = fy.from_above in
    let fz = f 2 (omega arith) in let fzl = fz.from_below in let fzh = fz.from_above in
    let tx = t 0 (omega arith) in let txl = tx.from_below in let txh = tx.from_above in
    let ty = t 1 (omega arith) in let tyl = ty.from_below in let tyh = ty.from_above in
    let tz = t 2 (omega arith) in let tzl = tz.from_below in let tzh = tz.from_above in
    below_three _
    (record { from_below = omega (arith, ints, clamps); from_above = omega (arith, ints, clamps) })
    (record { from_below = omega (arith, ints, clamps); from_above = omega (arith, ints, clamps) })
    (record { from_below = omega (arith, ints, clamps); from_above = omega (arith, ints, clamps) })

pub returns-clause-high : goal.returns-clause-high
returns-clause-high c =
    let f = reachable c.args.from c.requires.from in
    let t = reachable c.args.to c.requires.to in
    let fx = f 0 (omega arith) in let fxl = fx.from_below in let fxh = fx.from_above in
    let fy = f 1 (omega arith) in let fyl = fy.from_below in let fyh = fy.from_above in
    let fz = f 2 (omega arith) in let fzl = fz.from_below in let fzh = fz.from_above in
    let tx = t 0 (omega arith) in let txl = tx.from_below in let txh = tx.from_above in
    let ty = t 1 (omega arith) in let tyl = ty.from_below in let tyh = ty.from_above in
    let tz = t 2 (omega arith) in let tzl = tz.from_below in let tzh = tz.from_above in
    below_three _
    (record { from_below = omega (arith, ints, clamps); from_above = omega (arith, ints, clamps) })
    (record { from_below = omega (arith, ints, clamps); from_above = omega (arith, ints, clamps) })
    (record { from_below = omega (arith, ints, clamps); from_above = omega (arith, ints, clamps) })

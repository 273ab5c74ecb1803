use Rattle.std.proofs.Common.{◌∙◌, ◌≤ℤ◌, rules, arith, w64, FitsSigned, to_z-of_z}
use Rattle.std.proofs.lemmas.Int.{ints, clamps}
use Rattle.vcm_sheet.proofs.paper.unit_at.Goals as goal

pub returns-clause-value : goal.returns-clause-value
returns-clause-value c =
    let fq : FitsSigned w64 c.quarter_at.result = search rules in
    let fg : FitsSigned w64 c.get.result = search rules in
    let fd : FitsSigned w64 c.quotient.result = search rules in
    let fm : FitsSigned w64 c.max.result = search rules in
    let fs : FitsSigned w64 c.args.scale = search rules in
    let q = simp to_z-of_z at c.quotient.ensures.value in
    let s = simp to_z-of_z at c.quarter_at.ensures.value in
    let m = simp to_z-of_z at c.max.ensures.value in
    let n = simp to_z-of_z at c.new.ensures in
    n ∙ rw (q, s, c.get.ensures.number) at m

pub returns-clause-slim : goal.returns-clause-slim
returns-clause-slim c =
    let fq : FitsSigned w64 c.quarter_at.result = search rules in
    let fd : FitsSigned w64 c.quotient.result = search rules in
    let fm : FitsSigned w64 c.max.result = search rules in
    let m = simp to_z-of_z at c.max.ensures.value in
    let n = simp to_z-of_z at c.new.ensures in
    let most = simp to_z-of_z at c.quotient.ensures.to_value in
    let t : c.quotient.result ≤ℤ c.quarter_at.result = most (omega (arith, ints, c.quarter_at.ensures.some)) in
    omega (arith, ints, clamps, n, m, t, c.quarter_at.ensures.slim)

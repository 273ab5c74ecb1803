use Rattle.std.proofs.Common.{◌<◌, ◌≤◌, length, ap, arith}
use Rattle.vcm_code.specs.declared.code.Code.{Code}
use Rattle.vcm_debug.specs.Debugging.{Debugging}
use Rattle.vcm_dap.proofs.Clearing.{clears_more, clears_all}
use Rattle.vcm_dap.proofs.breaking.clear_all.Goals as goal

pub clear-requires : goal.clear-requires
clear-requires g c =
    let steps = ap (λ (x : Debugging). x.count) c.loop-n.invariant in
    let same = ap (λ (x : Debugging). length x.code.statements) c.loop-n.invariant in
    let all = ap (λ (x : Code). length x.statements) c.loaded.ensures in
    record {
      count = omega (arith, steps, c.requires);
      within = omega (arith, same, all, c.loop-n-test.true, c.statement_count-count.ensures.count);
    }

pub loop-n-preserved : goal.loop-n-preserved
loop-n-preserved g c =
    let all = ap (λ (x : Code). length x.statements) c.loaded.ensures in
    let l : c.loop-n.n < length c.args.session.now.code.statements = omega (arith, all, c.loop-n-test.true, c.statement_count-count.ensures.count) in
    clears_more c.args.session.now c.loop-n.session c.clear.new.session c.loop-n.n l c.loop-n.invariant c.clear.ensures

pub returns : goal.returns
returns g c =
    let all = ap (λ (x : Code). length x.statements) c.loaded.ensures in
    let l : length c.args.session.now.code.statements ≤ c.loop-n.n = omega (arith, all, c.loop-n-test.false, c.statement_count-count.ensures.count) in
    clears_all c.args.session.now c.loop-n.session c.loop-n.n l c.loop-n.invariant

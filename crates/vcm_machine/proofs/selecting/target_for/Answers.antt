use Rattle.std.proofs.Common.{◌∙◌, sym, ap, rules, ℕ, List, FitsSigned, w64, of_z, to_z-of_z, arith}
use Rattle.std.specs.Int.{w32}
use Rattle.vcm_fields.proofs.Inverse.{ok_is}
use Rattle.vcm_fields.proofs.Taking.{number_there}
use Rattle.vcm_machine.proofs.SelectSteps.{choosing, left_now, value_there, target_there, test_tells, last_here, same_number, hits, differs, choosing_more}
use Rattle.vcm_machine.proofs.selecting.target_for.Goals as goal

pub loop-init : goal.loop-init
loop-init c = choosing _ _ _

pub known_signed-found-requires : goal.known_signed-found-requires
known_signed-found-requires c = value_there _ _ _ _ _ _ (left_now _ _ _ _ _ c.loop.invariant _ _ c.requires.2) (omega (arith, c.loop-test.true))

pub known_long-target-requires : goal.known_long-target-requires
known_long-target-requires c = target_there _ _ _ _ _ _ (left_now _ _ _ _ _ c.loop.invariant _ _ c.requires.2) (omega (arith, c.loop-test.true)) _ _ c.known_signed-found.ensures

pub returns-then-value-found : goal.returns-then-value-found
returns-then-value-found c o rest h =
    let fv : FitsSigned w64 c.args.value = c.ranges.value in
    let ff : FitsSigned w64 c.known_signed-found.result.0 = search rules in
    let left = rw (to_z-of_z fv) at (left_now _ _ _ _ _ c.loop.invariant o rest h) in
    let told = test_tells _ _ _ _ _ _ left (omega (arith, c.loop-test.true)) _ _ c.known_signed-found.ensures _ _ c.known_long-target.ensures in
    sym (told.hit (hits _ _ (same_number _ _ fv ff c.if-value-found.true)))

pub loop-preserved : goal.loop-preserved
loop-preserved c =
    let fv : FitsSigned w64 c.args.value = c.ranges.value in
    choosing_more _ _ _ _ _ c.loop.invariant c.loop-test.true _ _ _ _ c.known_signed-found.ensures c.known_long-target.ensures
    (rw (to_z-of_z fv) (differs c.args.value c.known_signed-found.result.0 (λ e. c.if-value-found.false (ap (of_z w64) e))))

pub known_long-last-requires : goal.known_long-last-requires
known_long-last-requires c =
    let here = last_here _ _ _ _ _ _ (left_now _ _ _ _ _ c.loop.invariant _ _ c.requires.2) (omega (arith, c.loop-test.false)) in
    number_there w32 _ _ here.0

pub returns : goal.returns
returns c o rest h =
    let fv : FitsSigned w64 c.args.value = c.ranges.value in
    let here = last_here _ _ _ _ _ _ (left_now _ _ _ _ _ c.loop.invariant o rest h) (omega (arith, c.loop-test.false)) in
    let last = ap (λ (q : ℕ × List ℕ). q.0) (ok_is _ _ (sym c.known_long-last.ensures ∙ here.0)) in
    last ∙ sym (rw (to_z-of_z fv) at here.1)

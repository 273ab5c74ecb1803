use Rattle.std.proofs.Common.{arith, sym}
use Rattle.vcm_macro.proofs.Finding.{is_found}
use Rattle.vcm_macro.proofs.definition.find.Goals as goal

pub returns-then-eq : goal.returns-then-eq
returns-then-eq c =
    is_found c.args.macros.now c.args.name.now c.found.place c.index-macros-place.result (omega (arith, c.found-test.true)) c.found.invariant.within
    c.index-macros-place.is (rw c.name.ensures at (sym c.if-eq.ensures)) c.found.invariant.is

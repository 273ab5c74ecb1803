use Rattle.std.proofs.Common.{Some, inr, refl, ap}
use Rattle.std.specs.Prelude.{reverse}
use Rattle.vcm_macro.proofs.Texts.{macro_begins, macro_taken, taken_above, taken_twice, not_taken}
use Rattle.vcm_macro.proofs.text.Reading.begin.Goals as goal
use Rattle.vcm_macro.proofs.text.Reading.begin.Goals.{then-is_defined-via-then-is_defined, then-is_defined-via-else-is_defined+then-has_twins}

pub returns-then-is_defined-clause-fault : goal.returns-then-is_defined-clause-fault
returns-then-is_defined-clause-fault c =
    inr (macro_taken c.args.self.now c.args.line c.args.name c.args.parameters c.requires (elim c.then-is_defined.branch [
      | then-is_defined-via-then-is_defined w ↦ taken_above c.args.self.now.macros.items c.deref.result.now c.args.name c.args.parameters c.deref.ensures.value w.if-is_defined.ensures
      | then-is_defined-via-else-is_defined+then-has_twins w
          ↦ taken_twice (reverse c.args.self.now.macros.items) c.args.name c.args.parameters w.as_slice.result.now w.as_slice.ensures w.if-has_twins.ensures
    ]))

pub returns-clause-ok : goal.returns-clause-ok
returns-clause-ok c =
    macro_begins c.args.self.now _ c.args.line c.args.name c.args.parameters c.requires
    (not_taken c.args.self.now.macros.items c.deref.result.now c.args.name c.args.parameters c.as_slice.result.now c.deref.ensures.value c.as_slice.ensures
    c.if-is_defined.ensures c.if-has_twins.ensures)
    refl (ap Some c.new.ensures) refl refl

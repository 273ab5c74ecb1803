use Rattle.std.proofs.Common.{◌≡◌, ap, ◌∙◌, subst}
use Rattle.vcm_spec.specs.Phase.{FirstFault}
use Rattle.vcm_lines.specs.Fault.{NoMemoryOr}
use Rattle.vcm_lines.specs.Statements.{Breaks, told_line, lines_of}
use Rattle.vcm_plain.specs.declared.unit.Unit.TheVariants.{Millimetre}
use Rattle.vcm_plain.specs.Units.{all_in}
use Rattle.vcm_plain.specs.Plain.{plain}
use Rattle.vcm_whole.proofs.Refusing.{lines_refused}
use Rattle.vcm_whole.proofs.whole.build_whole.Goals as goal

pub returns-clause-refused : goal.returns-clause-refused
returns-clause-refused c =
    let e : c.in-Ok.written.items ≡ plain (all_in Millimetre) c.args.text.now =
    c.in-Ok.ensures ∙ ap (λ l. plain l c.args.text.now) c.all_in.ensures in
    lines_refused c.args.choices.now c.args.text.now c.in-Err.fault
    (subst (λ bs. NoMemoryOr (λ g. FirstFault Breaks told_line (lines_of bs) g.code g.line) c.in-Err.fault) (c.deref.ensures.value ∙ e) c.in-Err.ensures.fault)

use Rattle.std.proofs.Common.{◌<◌, length, sym, arith}
use Rattle.vcm_whole.proofs.Lettering.{program_lettered}
use Rattle.vcm_whole.proofs.Refusing.{long_refused, program_refused, placed_refused}
use Rattle.vcm_whole.proofs.whole.build_put.Goals as goal

pub returns-then-len-gt-MOST_STATEMENTS-clause-refused : goal.returns-then-len-gt-MOST_STATEMENTS-clause-refused
returns-then-len-gt-MOST_STATEMENTS-clause-refused c = λ cs text u ls x told.
    let count = c.len.ensures in
    let more = c.if-len-gt-MOST_STATEMENTS.true in
    let long : 20000 < length c.in-Ok.field-0.all.items = omega (arith, count, more) in
    long_refused cs text u ls c.args.expanded.items c.in-Ok.field-0.all.items c.too_long.result c.in-Ok.ensures.all long (rw c.deref.ensures.value at c.too_long.ensures) x

pub returns-then-not-is_program-clause-refused : goal.returns-then-not-is_program-clause-refused
returns-then-not-is_program-clause-refused c = λ cs text u ls x told.
    program_refused cs text u ls c.args.expanded.items c.in-Ok.field-0.all.items c.in-Ok.ensures.all
    (sym (rw c.deref-2.ensures.value at c.if-not-is_program.ensures.value)) x

pub build_placed-requires-clause-lettered : goal.build_placed-requires-clause-lettered
build_placed-requires-clause-lettered c =
    program_lettered c.in-Ok.field-0.all.items (sym (rw c.deref-2.ensures.value at c.if-not-is_program.ensures.value))

pub returns-in-Err-build_placed-clause-refused : goal.returns-in-Err-build_placed-clause-refused
returns-in-Err-build_placed-clause-refused c = λ cs text u ls x told.
    placed_refused cs text u ls c.args.expanded.items c.in-Ok.field-0.all.items c.args.notices.items c.in-Err-build_placed.refusal c.in-Ok.ensures.all
    c.in-Err-build_placed.ensures.refused x told

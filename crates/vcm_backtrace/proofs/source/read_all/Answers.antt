use Rattle.std.proofs.Common.{[], refl, sym, subst}
use Rattle.std.proofs.lemmas.List.{append-nil, drop_all}
use Rattle.vcm_backtrace.specs.Sources.{AreReadAs}
use Rattle.vcm_backtrace.proofs.source.read_all.Goals as goal

pub returns : goal.returns
returns c =
    let l = c.loop-line in
    subst (λ ss. AreReadAs c.args.lines.now ss) (append-nil l.statements.items)
    (l.invariant [] (subst (λ ls. AreReadAs ls []) (sym (drop_all l.line-index c.args.lines.now c.loop-line-test.false)) refl))

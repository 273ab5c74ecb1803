use Rattle.std.specs.Prelude.{true}
use Rattle.std.proofs.Common.{ℕ, List, sym, subst}
use Rattle.vcm_num.specs.Written.{Wrote}
use Rattle.vcm_backtrace.specs.Calls.{numbers_in}
use Rattle.vcm_backtrace.proofs.Chains.{chain_is}
use Rattle.vcm_backtrace.proofs.calls.write_field.Goals as goal

pub returns : goal.returns
returns g c =
    let s = c.source.inside in
    let i = c.source.invariant in
    rw (sym c.source.view_is) (subst (λ (l : List ℕ). Wrote (g.W.Write.contents c.args.writer.now) (g.W.Write.contents c.write_numbers.new.writer) (numbers_in true l) c.write_numbers.result)
    (chain_is s.statements.items s.calls.items s.expansions.items c.args.number i.0 i.1)
    (rw (c.deref-2.ensures.value, c.expansion_at-expansion.ensures, c.deref.ensures.value) at c.write_numbers.ensures))

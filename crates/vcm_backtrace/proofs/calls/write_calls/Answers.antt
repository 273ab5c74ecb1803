use Rattle.std.proofs.Common.{ℕ, List, sym, subst}
use Rattle.std.specs.Prelude.{flat_map}
use Rattle.vcm_num.specs.Written.{Wrote}
use Rattle.vcm_backtrace.specs.Calls.{call_line}
use Rattle.vcm_backtrace.proofs.Chains.{chain_is}
use Rattle.vcm_backtrace.proofs.calls.write_calls.Goals as goal

pub returns : goal.returns
returns g c =
    let s = c.source.inside in
    let i = c.source.invariant in
    rw (sym c.source.view_is) (subst (λ (l : List ℕ). Wrote (g.W.Write.contents c.args.writer.now) (g.W.Write.contents c.write_chain.new.writer) (flat_map (call_line s.text.now s.statements.items) l) c.write_chain.result)
    (chain_is s.statements.items s.calls.items s.expansions.items c.args.number i.0 i.1)
    (rw (c.deref-2.ensures.value, c.deref-3.ensures.value, c.expansion_at-expansion.ensures, c.deref.ensures.value) at c.write_chain.ensures))

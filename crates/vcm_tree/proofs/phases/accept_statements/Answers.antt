use Rattle.std.proofs.lemmas.Result.{err_from_is_err_and, IfErr-weaker, IfOk-weaker}
use Rattle.vcm_tree.proofs.Accepting.{expansion_refused, placed_refused}
use Rattle.vcm_tree.proofs.FewKept.{few_all}
use Rattle.vcm_tree.proofs.Kept.{ended_all, lettered_all}
use Rattle.vcm_tree.proofs.phases.accept_statements.Goals as goal

pub returns-in_err-placed-clause-refused : goal.returns-in_err-placed-clause-refused
returns-in_err-placed-clause-refused c =
    let p = err_from_is_err_and c.from_residual-in_err-placed.result c.from_residual-in_err-placed.ensures.1 in
    rw (p.1, p.2) (expansion_refused c.args.read.items _ c.in_err-placed.ensures.fault)

pub accept_placed-requires : goal.accept_placed-requires
accept_placed-requires c = record {
  lettered = lettered_all c.args.read.items c.in_ok-placed.placed.items c.in_ok-placed.ensures.ok c.requires;
  ended = ended_all c.args.read.items c.in_ok-placed.placed.items c.in_ok-placed.ensures.ok;
  few = few_all c.args.read.items c.in_ok-placed.placed.items c.in_ok-placed.ensures.ok;
  written = (c.args.read.items, rw c.as_slice.ensures.value at c.in_ok-notices.ensures);
}

pub returns-clause-accepted : goal.returns-clause-accepted
returns-clause-accepted c =
    IfOk-weaker c.accept_placed.result _ _ (λ p h. let a = h c.args.read.items (rw c.as_slice.ensures.value at c.in_ok-notices.ensures) in record {
      expanded = c.in_ok-placed.placed.items;
      is_expanded = c.in_ok-placed.ensures.ok;
      program = a.program;
      jumps = a.jumps;
    }) c.accept_placed.ensures.accepted

pub returns-clause-refused : goal.returns-clause-refused
returns-clause-refused c =
    IfErr-weaker c.accept_placed.result _ _ (λ f h. placed_refused c.args.read.items c.in_ok-notices.notices.items c.in_ok-placed.placed.items f (rw c.as_slice.ensures.value at c.in_ok-notices.ensures) c.in_ok-placed.ensures.ok h) c.accept_placed.ensures.refused

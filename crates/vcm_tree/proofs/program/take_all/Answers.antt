use Rattle.std.proofs.Common.{◌≡◌, ◌∷◌, ap, length, arith}
use Rattle.std.proofs.lemmas.List.{nil_from_length}
use Rattle.std.proofs.lemmas.Result.{err_from_is_err_and}
use Rattle.std.specs.Vec.Iter.{into_iter_items}
use Rattle.vcm_tree.proofs.Passing.{told_of_all, walked_all}
use Rattle.vcm_tree.proofs.Walking.{walk_goes}
use Rattle.vcm_tree.proofs.program.take_all.Goals as goal

pub returns-in_err-selection-clause-fault : goal.returns-in_err-selection-clause-fault
returns-in_err-selection-clause-fault c =
    let p = err_from_is_err_and c.from_residual.result c.from_residual.ensures.1 in
    let l = c.loop-placed in
    rw (p.1, p.2) (told_of_all _ c.args.all.items l.read l.selection c.in-Some.placed (into_iter_items c.next.new.self) _ c.into_iter-placed-iterator.ensures.into_iter_gives.0
    (rw c.in-Some.ensures.steps.0 at l.invariant.walked) c.in_err-selection.ensures.fault)

pub loop-placed-preserved : goal.loop-placed-preserved
loop-placed-preserved c =
    let l = c.loop-placed in
    let next : into_iter_items l.placed-iterator ≡ c.in-Some.placed ∷ into_iter_items c.next.new.self = c.in-Some.ensures.steps.0 in
    record {
      size =
          let was = l.invariant.size in
          let gone = c.in-Some.ensures.steps.1 in
          let short = ap length next in
          omega arith;
      walked = walk_goes _ l.read l.selection c.take_one.new.read _ c.in-Some.placed (into_iter_items c.next.new.self) (rw next at l.invariant.walked) c.in_ok-selection.ensures.ok;
    }

pub returns-clause-ok : goal.returns-clause-ok
returns-clause-ok c =
    let l = c.loop-placed in
    let size = l.invariant.size in
    let none = c.in-None.ensures.steps.0 in (
      l.selection,
      walked_all _ c.args.all.items (into_iter_items l.placed-iterator) l.read l.selection c.into_iter-placed-iterator.ensures.into_iter_gives.0
          (nil_from_length (into_iter_items l.placed-iterator) (omega arith)) l.invariant.walked,
    )

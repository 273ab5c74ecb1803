use Rattle.std.proofs.Common.{◌≡◌, ◌∷◌, ◌∙◌, ap, length, arith}
use Rattle.std.proofs.lemmas.List.{nil_from_length}
use Rattle.std.proofs.lemmas.Result.{err_from_is_err_and}
use Rattle.std.specs.Vec.Iter.{into_iter_items}
use Rattle.vcm_macro.specs.Walk.{walk}
use Rattle.vcm_macro.proofs.Texts.{read_more}
use Rattle.vcm_macro.proofs.Phases.{all_clean, kept_few}
use Rattle.vcm_macro.proofs.Whole.{text_told, text_read}
use Rattle.vcm_macro.proofs.text.expanded.Goals as goal

pub returns-in_err-read-clause-fault : goal.returns-in_err-read-clause-fault
returns-in_err-read-clause-fault c =
    let p = err_from_is_err_and c.from_residual-in_err-read.result c.from_residual-in_err-read.ensures.1 in
    let l = c.loop-statement in
    rw (p.1, p.2) (text_told _ c.args.statements.items (into_iter_items l.statement-iterator) (into_iter_items c.next.new.self) c.in-Some.statement l.reading _
    c.into_iter-statement-iterator.ensures.into_iter_gives.0
    c.in-Some.ensures.steps.0 l.invariant.read c.in_err-read.ensures.fault)

pub loop-statement-preserved : goal.loop-statement-preserved
loop-statement-preserved c =
    let l = c.loop-statement in
    let next : into_iter_items l.statement-iterator ≡ c.in-Some.statement ∷ into_iter_items c.next.new.self = c.in-Some.ensures.steps.0 in
    record {
      size =
          let was = l.invariant.size in
          let gone = c.in-Some.ensures.steps.1 in
          let short = ap length next in
          omega arith;
      read = read_more _ (into_iter_items l.statement-iterator) (into_iter_items c.next.new.self) c.in-Some.statement l.reading c.read.new.self next l.invariant.read c.in_ok-read.ensures.ok;
    }

pub returns-clause-clean : goal.returns-clause-clean
returns-clause-clean c =
    let l = c.loop-statement in
    let size = l.invariant.size in
    let none = c.in-None.ensures.steps.0 in
    let w = text_read _ c.args.statements.items (into_iter_items l.statement-iterator) l.reading c.into_iter-statement-iterator.ensures.into_iter_gives.0
    (nil_from_length (into_iter_items l.statement-iterator) (omega arith)) l.invariant.read in
    all_clean (walk c.args.statements.items) w.fine

pub returns-clause-ok : goal.returns-clause-ok
returns-clause-ok c =
    let l = c.loop-statement in
    let size = l.invariant.size in
    let none = c.in-None.ensures.steps.0 in
    let w = text_read _ c.args.statements.items (into_iter_items l.statement-iterator) l.reading c.into_iter-statement-iterator.ensures.into_iter_gives.0
    (nil_from_length (into_iter_items l.statement-iterator) (omega arith)) l.invariant.read in
    c.into_placed.ensures.all ∙ w.placed

pub returns-clause-few : goal.returns-clause-few
returns-clause-few c =
    let l = c.loop-statement in
    let size = l.invariant.size in
    let none = c.in-None.ensures.steps.0 in
    let w = text_read _ c.args.statements.items (into_iter_items l.statement-iterator) l.reading c.into_iter-statement-iterator.ensures.into_iter_gives.0
    (nil_from_length (into_iter_items l.statement-iterator) (omega arith)) l.invariant.read in
    let all = c.into_placed.ensures.all ∙ w.placed in
    rw all (omega (arith, kept_few (walk c.args.statements.items), w.count, c.into_placed.ensures.few))

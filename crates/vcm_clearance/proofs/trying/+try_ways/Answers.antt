use Rattle.std.proofs.Common.{refl, sym, subst, rules}
use Rattle.std.specs.Prelude.{IfOk, IfErr}
use Rattle.vcm_naming.specs.Pages.{page}
use Rattle.vcm_way.proofs.Near.{behind_near}
use Rattle.vcm_clearance.specs.inner.Following.{AreAdded, AreCut}
use Rattle.vcm_clearance.proofs.Tried.{if_ok, if_err, first_of, none_of, more_ways, cut_first, cut_later}
use Rattle.vcm_clearance.proofs.trying.+try_ways.Goals as goal

pub try_ways-requires : goal.try_ways-requires
try_ways-requires g depth c =
    let near = behind_near c.args.blocks.now c.args.marks.now c.in-Some.behind.now _ c.in-Some.ensures.cases.0 c.requires.near in
    search (rules, near)

pub try_ways-requires-in-Ok : goal.try_ways-requires-in-Ok
try_ways-requires-in-Ok g depth c =
    let near = behind_near c.args.blocks.now c.args.marks.now c.in-Some.behind.now _ c.in-Some.ensures.cases.0 c.requires.near in
    search (rules, near)

pub returns-in-Ok-clause-ok : goal.returns-in-Ok-clause-ok
returns-in-Ok-clause-ok g depth c =
    let part = c.args.blocks.now in
    let v = c.in-Some-first_way.way in
    let r = c.try_ways-in-Ok.result in
    let old = page (g.W.Write.contents c.args.writer.now) c.args.names.now in
    first_of part c.args.marks.now c.in-Some.behind.now _ c.in-Some.ensures.cases.0 v c.in-Some-first_way.ensures
    (λ gs. IfOk r (λ n. AreAdded c.args.here.now part.blocks c.args.boxes.now gs c.args.rooms.now.items c.args.kept.now.items c.args.count old c.try_ways-in-Ok.new.rooms.items
    c.try_ways-in-Ok.new.kept.items n (page (g.W.Write.contents c.try_ways-in-Ok.new.writer) c.try_ways-in-Ok.new.names)))
    (λ w same. if_ok r _ _ (λ n rest. more_ways part.blocks c.args.boxes.now c.args.here.now v w same _ c.args.count _ refl c.args.rooms.now.items c.try_way.new.rooms.items
    c.args.kept.now.items c.try_way.new.kept.items c.one_more-count.result old _ _ c.one_more-count.ensures c.in-Ok.ensures.ok c.try_ways-in-Ok.new.rooms.items
    c.try_ways-in-Ok.new.kept.items n rest) c.try_ways-in-Ok.ensures.ok)

pub returns-in-Ok-clause-err : goal.returns-in-Ok-clause-err
returns-in-Ok-clause-err g depth c =
    let part = c.args.blocks.now in
    let v = c.in-Some-first_way.way in
    let r = c.try_ways-in-Ok.result in
    let old = page (g.W.Write.contents c.args.writer.now) c.args.names.now in
    first_of part c.args.marks.now c.in-Some.behind.now _ c.in-Some.ensures.cases.0 v c.in-Some-first_way.ensures
    (λ gs. IfErr r (λ f. AreCut c.args.here.now part.blocks c.args.boxes.now gs c.args.rooms.now.items c.args.count old (page (g.W.Write.contents c.try_ways-in-Ok.new.writer) c.try_ways-in-Ok.new.names)))
    (λ w same. if_err r _ _ (λ f rest. cut_later part.blocks c.args.boxes.now c.args.here.now v w same _ c.args.count _ refl c.args.rooms.now.items c.try_way.new.rooms.items
    c.args.kept.now.items c.try_way.new.kept.items c.one_more-count.result old _ _ c.one_more-count.ensures c.in-Ok.ensures.ok rest) c.try_ways-in-Ok.ensures.err)

pub returns-in-Err-clause-err : goal.returns-in-Err-clause-err
returns-in-Err-clause-err g depth c =
    let part = c.args.blocks.now in
    let v = c.in-Some-first_way.way in
    let old = page (g.W.Write.contents c.args.writer.now) c.args.names.now in
    let new = page (g.W.Write.contents c.try_way.new.writer) c.try_way.new.names in
    first_of part c.args.marks.now c.in-Some.behind.now _ c.in-Some.ensures.cases.0 v c.in-Some-first_way.ensures
    (λ gs. AreCut c.args.here.now part.blocks c.args.boxes.now gs c.args.rooms.now.items c.args.count old new)
    (λ w same. cut_first part.blocks c.args.boxes.now c.args.here.now v w same _ c.args.count _ refl c.args.rooms.now.items old new c.in-Err.ensures.err)

pub returns-in-None-first_way-clause-ok : goal.returns-in-None-first_way-clause-ok
returns-in-None-first_way-clause-ok g depth c =
    let part = c.args.blocks.now in
    let old = page (g.W.Write.contents c.args.writer.now) c.args.names.now in
    subst (λ gs. IfOk c.try_ways.result (λ n. AreAdded c.args.here.now part.blocks c.args.boxes.now gs c.args.rooms.now.items c.args.kept.now.items c.args.count old c.try_ways.new.rooms.items
    c.try_ways.new.kept.items n (page (g.W.Write.contents c.try_ways.new.writer) c.try_ways.new.names)))
    (sym (none_of part c.args.marks.now c.in-Some.behind.now _ c.in-Some.ensures.cases.0 c.in-None-first_way.ensures)) c.try_ways.ensures.ok

pub returns-in-None-first_way-clause-err : goal.returns-in-None-first_way-clause-err
returns-in-None-first_way-clause-err g depth c =
    let part = c.args.blocks.now in
    let old = page (g.W.Write.contents c.args.writer.now) c.args.names.now in
    subst (λ gs. IfErr c.try_ways.result (λ f. AreCut c.args.here.now part.blocks c.args.boxes.now gs c.args.rooms.now.items c.args.count old
    (page (g.W.Write.contents c.try_ways.new.writer) c.try_ways.new.names)))
    (sym (none_of part c.args.marks.now c.in-Some.behind.now _ c.in-Some.ensures.cases.0 c.in-None-first_way.ensures)) c.try_ways.ensures.err

use Rattle.std.proofs.Common.{◌++◌, sym, ap, ◌∙◌, subst}
use Rattle.vcm_way.specs.Ways.{Kept, placed}
use Rattle.vcm_way.specs.Keeping.{shortened, StandsFor}
use Rattle.vcm_way.specs.inner.Added.{more}
use Rattle.vcm_way.proofs.Lists.{stands_more, stands_shortened}
use Rattle.vcm_way.proofs.Stepped.{on_ok_then}
use Rattle.vcm_way.proofs.way.Way.add_step.Goals as goal

pub returns-then-len-most : goal.returns-then-len-most
returns-then-len-most c =
    let old = c.args.self.now in
    let ms = placed c.args.place.step c.args.place.number c.args.place.line c.args.marks.now in
    on_ok_then c.keep_last.result _ _ (λ e whole h.
    subst (λ (k : Kept). StandsFor k (whole ++ ms)) (sym (e ∙ ap shortened c.in_ok-add.ensures)) (stands_shortened (more old ms) (whole ++ ms) (stands_more old whole h ms))) c.keep_last.ensures

pub returns-else-len-most : goal.returns-else-len-most
returns-else-len-most c whole h =
    let old = c.args.self.now in
    let ms = placed c.args.place.step c.args.place.number c.args.place.line c.args.marks.now in
    subst (λ (k : Kept). StandsFor k (whole ++ ms)) (sym c.in_ok-add.ensures) (stands_more old whole h ms)

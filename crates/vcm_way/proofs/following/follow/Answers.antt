use Rattle.std.proofs.Common.{[], refl, sym, ◌∙◌, subst}
use Rattle.vcm_way.specs.Ways.{Kept, most_pieces, whole_way}
use Rattle.vcm_way.specs.Keeping.{StandsFor}
use Rattle.vcm_way.proofs.Lists.{stands_for_none, kept_is}
use Rattle.vcm_way.proofs.following.follow.Goals as goal

pub run_kept-requires-clause-most : goal.run_kept-requires-clause-most
unfolding most_pieces
run_kept-requires-clause-most g c = refl

pub keep_last-requires : goal.keep_last-requires
unfolding most_pieces
keep_last-requires g c = refl

pub returns-in-Ok : goal.returns-in-Ok
returns-in-Ok g c =
    let h = c.in_ok-world.ensures in
    let start = subst (λ (k : Kept). StandsFor k []) (sym c.new-way.ensures) stands_for_none in
    record {
      new = h.new;
      has_run = h.has_run;
      state = h.state;
      tables = h.tables;
      kept = c.in-Ok.ensures ∙ kept_is c.run_kept.new.way (whole_way (g.P.Part.part c.args.part.now) c.args.loaded.now c.in_ok-world.ran.done) (h.keeps start);
    }

use Rattle.std.proofs.Common.{◌≡◌, refl, rules}
use Rattle.std.proofs.lemmas.Result.{err_from_is_err_and}
use Rattle.vcm_num.specs.Point.{point}
use Rattle.vcm_state.proofs.Framed.{trans_stops, trans_goes}
use Rattle.vcm_state.proofs.world.World.trans.Goals as goal

pub returns-in_err-shifted : goal.returns-in_err-shifted
returns-in_err-shifted c part =
    let is : c.new.result ≡ point c.args.x c.args.y c.args.z = search rules in
    let p = err_from_is_err_and c.from_residual.result c.from_residual.ensures.1 in
    rw (p.1, p.2, ← c.self.view_is) ((trans_stops _ _ _ _ _ _ _ (rw is at c.in_err-shifted.ensures), refl), (refl, refl))

pub returns : goal.returns
returns c part =
    let is : c.new.result ≡ point c.args.x c.args.y c.args.z = search rules in
    rw (← c.self.view_is, c.set.ensures, c.from.ensures) (trans_goes _ _ _ _ _ _ _ (rw is at c.in_ok-shifted.ensures), (refl, refl))

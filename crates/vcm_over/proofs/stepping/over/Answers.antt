use Rattle.std.proofs.Common.{rules, ◌≡◌, ◌<◌, ◌-◌, true, false, arith}
use Rattle.vcm_over.proofs.Steps.{goes_on, is_there, is_behind, further, so_far, on_way}
use Rattle.vcm_over.specs.Over.{is_done, over_from}
use Rattle.vcm_over.specs.declared.stepping.TheConstants.{MOST_STEPS}
use Rattle.vcm_over.proofs.stepping.over.Goals as goal

pub returns-then-is_done-clause-over : goal.returns-then-is_done-clause-over
returns-then-is_done-clause-over g c =
    let done : is_done c.each.wanted c.each.session ≡ true = cc (c.is_done.ensures, c.if-is_done.true) in
    is_there c.each.left c.each.wanted c.each.session (over_from MOST_STEPS c.args.lines c.args.session.now) done c.each.invariant.over

pub each-preserved : goal.each-preserved
each-preserved g c =
    let going : is_done c.each.wanted c.each.session ≡ false = cc (c.is_done.ensures, c.if-is_done.false) in
    let some : 0 < c.each.left = search rules in record {
      over = rw (c.in_ok-wanted.ensures.wanted, c.in_ok-wanted.ensures.stepped)
          (goes_on c.each.left c.each.wanted c.each.session (over_from MOST_STEPS c.args.lines c.args.session.now) some going c.each.invariant.over);
      way = rw (c.in_ok-wanted.ensures.wanted, c.in_ok-wanted.ensures.stepped)
          (further MOST_STEPS c.each.left c.args.lines c.each.wanted c.args.session.now c.each.session some c.each.invariant.within going c.each.invariant.way);
      within = search rules;
      few = search rules;
    }

pub returns-clause-over : goal.returns-clause-over
returns-clause-over g c =
    let none : c.each.left ≡ 0 = search rules in
    is_behind c.each.left c.each.wanted c.each.session (over_from MOST_STEPS c.args.lines c.args.session.now) none c.each.invariant.over

pub returns-in_err-wanted-clause-on_way : goal.returns-in_err-wanted-clause-on_way
returns-in_err-wanted-clause-on_way g c =
    let some : 0 < c.each.left = search rules in
    let fewer : MOST_STEPS - c.each.left < MOST_STEPS = omega (arith, some, c.each.invariant.within) in
    on_way c.from_residual.result c.args.lines (MOST_STEPS - c.each.left) c.args.session.now c.each.session c.advance.new.session fewer
    (so_far MOST_STEPS c.each.left c.args.lines c.each.wanted c.args.session.now c.each.session c.each.invariant.way) c.in_err-wanted.ensures.stays

use Rattle.std.proofs.Common.{◌≡◌, ◌+◌, false, refl, sym, ap, ◌∙◌}
use Rattle.vcm_code.specs.declared.code.Code.{Code}
use Rattle.vcm_turning.specs.Turning.{is_lost}
use Rattle.vcm_turning.specs.Machine.{turned_of}
use Rattle.vcm_turning.specs.Following.{told_step}
use Rattle.vcm_turning.proofs.Followed.{stands_there, is_later, told_is, was_next, carried, carried_off}
use Rattle.vcm_turning.proofs.following.step_on.Goals as goal

pub see-requires : goal.see-requires
see-requires g c =
    let old = c.args.machine.now in
    let s = c.statement-statement.result in
    let stands = stands_there old c.args.loaded.now c.next-number.result s c.requires.code c.next-number.ensures.is c.statement-statement.ensures in
    let held : is_lost old.part.bounds.home old.probes old.variable (turned_of old) s.op ≡ false = c.in_default.ensures in
    was_next old c.step.new.self c.in-Ok.turn c.in-Ok.ensures.ok s stands c.requires.running held (g.F.FollowsTurns.Fits c.args.by.now) _ c.world-2.result.now.state
    c.world-in-Ok.result.now.state c.on-on.result c.requires.fits (rw c.world.ensures.state at c.near_position-at.ensures.near) c.on-on.ensures.there
    c.world-in-Ok.ensures.hangs c.world-2.ensures.state c.world-in-Ok.ensures.state c.on-on.ensures.is c.look-before.ensures

pub returns-in-Ok-see-clause-done : goal.returns-in-Ok-see-clause-done
returns-in-Ok-see-clause-done g c =
    let old = c.args.machine.now in
    let s = c.statement-statement.result in
    let stands = stands_there old c.args.loaded.now c.next-number.result s c.requires.code c.next-number.ensures.is c.statement-statement.ensures in
    let held : is_lost old.part.bounds.home old.probes old.variable (turned_of old) s.op ≡ false = c.in_default.ensures in
    let h = c.in-Ok.ensures.ok in
    let tables = c.world-in-Ok.ensures.tables ∙ ap (λ (k : Code). k.tables) (h.code_is ∙ c.requires.code) in
    let told =
    told_is old c.step.new.self c.in-Ok.turn h s stands c.requires.running held c.args.done c.next-number.result c.world-2.result.now.state c.world-in-Ok.result.now.state
    c.next-next.result c.on-on.result c.next-number.ensures.is c.world-2.ensures.state c.world-in-Ok.ensures.state c.next-next.ensures.is c.on-on.ensures.is in
    (λ e. (
      is_later old c.step.new.self c.in-Ok.turn h s stands c.requires.running held,
      λ from ss x.
          carried (λ t. g.F.FollowsTurns.Has c.args.by.now t from c.args.to.now ss) (λ t qs. g.F.FollowsTurns.Has c.args.by.now t from c.see.new.to qs) _ _ ss _ _ tables told
          (c.in-Ok-see.ensures.ok _ from ss c.look-before.ensures) x,
    ))

pub returns-in-Err-see-clause-err : goal.returns-in-Err-see-clause-err
returns-in-Err-see-clause-err g c =
    let old = c.args.machine.now in
    let s = c.statement-statement.result in
    let stands = stands_there old c.args.loaded.now c.next-number.result s c.requires.code c.next-number.ensures.is c.statement-statement.ensures in
    let held : is_lost old.part.bounds.home old.probes old.variable (turned_of old) s.op ≡ false = c.in_default.ensures in
    let h = c.in-Ok.ensures.ok in
    let tables = c.world-in-Ok.ensures.tables ∙ ap (λ (k : Code). k.tables) (h.code_is ∙ c.requires.code) in
    let told =
    told_is old c.step.new.self c.in-Ok.turn h s stands c.requires.running held c.args.done c.next-number.result c.world-2.result.now.state c.world-in-Ok.result.now.state
    c.next-next.result c.on-on.result c.next-number.ensures.is c.world-2.ensures.state c.world-in-Ok.ensures.state c.next-next.ensures.is c.on-on.ensures.is in
    let step =
    told_step (c.args.done + 1) c.next-number.result s c.world-2.result.now.state c.world-in-Ok.result.now.state c.next-next.result c.on-on.result c.in-Ok.turn in (
      step,
      refl,
      sym told,
      λ from ss x.
          carried_off (λ t. g.F.FollowsTurns.Has c.args.by.now t from c.args.to.now ss)
          (λ t. g.F.FollowsTurns.Broke c.args.by.now t from c.see.new.to ss step c.in-Err-see.fault) _ _ tables
          (c.in-Err-see.ensures.err _ from ss c.look-before.ensures) x,
    )

use Rattle.std.proofs.Common.{◌≡◌, true, None, sym, ap, ◌∙◌, subst}
use Rattle.vcm_num.specs.Point.{coordinate}
use Rattle.vcm_spec.specs.Workpiece.{Workpiece, is_within}
use Rattle.vcm_state.proofs.Places.{within_is_near}
use Rattle.vcm_code.proofs.CodeNeverStuck.{some_first}
use Rattle.vcm_machine.proofs.Codes.{runnable}
use Rattle.vcm_turning.specs.Machine.{HangsNear}
use Rattle.vcm_turning.proofs.Hanging.{hangs_home}
use Rattle.vcm_turning.proofs.Started.{starts}
use Rattle.vcm_turning.proofs.turning.Turning.new.Goals as goal

pub opening-requires : goal.opening-requires
opening-requires g c =
    let valid = g.met.P.Part.valid c.args.part.now in
    rw c.bounds.ensures (within_is_near (g.P.Part.part c.args.part.now) valid (g.P.Part.part c.args.part.now).bounds.home valid.home)

pub invariant_of-result : goal.invariant_of-result
invariant_of-result g c =
    let known = c.known_valid.ensures in
    let valid = g.met.P.Part.valid c.args.part.now in
    let part = c.args.blocks.now in
    let home : is_within part.bounds (coordinate part.bounds.home) ≡ true =
    subst (λ (p : Workpiece). is_within p.bounds (coordinate p.bounds.home) ≡ true) c.requires.tie valid.home in
    let opened = c.in_ok-world.ensures.state part (ap (λ (b : Workpiece). b.bounds.home) (sym c.requires.tie) ∙ ap (λ b. b.home) (sym c.bounds.ensures)) in (
      c.requires.tie,
      c.requires.each,
      c.requires.ties,
      c.requires.limits,
      c.in_ok-world.ensures.tables ∙ c.in_ok-tables.ensures,
      runnable c.args.loaded.now known.fits known.valid,
      some_first c.args.loaded.now.statements (known.valid).ends,
      c.requires.variable,
      tt,
      tt,
      subst (HangsNear None) (sym (ap (λ w. w.position) opened)) (hangs_home part c.requires.limits part.bounds.home home),
    )

pub returns : goal.returns
returns g c =
    starts c.args.blocks.now c.args.set.now.probes c.args.variable c.args.loaded.now c.in_ok-world.world c.in_ok-tables.tables c.in_ok-tables.ensures
    (c.in_ok-world.ensures.state c.args.blocks.now (ap (λ (b : Workpiece). b.bounds.home) (sym c.requires.tie) ∙ ap (λ b. b.home) (sym c.bounds.ensures)))

use Rattle.std.proofs.Common.{ℕ, List, ap, sym, subst}
use Rattle.std.specs.Int.{w16}
use Rattle.vcm_spec.specs.declared.words.Quarters.{Quarters}
use Rattle.vcm_spec.specs.Setup.{setup_of}
use Rattle.vcm_state.specs.Carried.{Carried}
use Rattle.vcm_fields.specs.Readers.{variable_at, both, turn_at, quarters_at}
use Rattle.vcm_fields.proofs.Taking.{gives_it, number_there, both_are}
use Rattle.vcm_machine.proofs.Effects.{rotate_effect}
use Rattle.vcm_machine.proofs.LoopBranches.{some_part}
use Rattle.vcm_machine.proofs.Reading.{read_first, known_first}
use Rattle.vcm_machine.proofs.framing.rotate.Goals as goal

pub known_short-frame-requires : goal.known_short-frame-requires
known_short-frame-requires c = number_there w16 _ _ (both_are variable_at (both turn_at quarters_at) _ _ _ c.requires.2).1

pub returns-clause-carried : goal.returns-clause-carried
returns-clause-carried c part o rest h =
    let f = known_first variable_at (both turn_at quarters_at) _ o rest _ c.known_short-frame.ensures h in
    let a = read_first _ _ turn_at quarters_at c.known_short-frame.result.1.now o.1 rest _ c.turn.ensures c.known-axis.ensures f.1 in
    let q = ap (λ (t : Quarters × List ℕ). t.0) (gives_it _ _ _ _ _ c.quarters.ensures a.1 c.known-quarters.ensures) in
    let is = rotate_effect (setup_of part c.args.world.now.tables) c.args.world.now.state o.0 o.1.0 o.1.1 in
    subst (λ o. Carried o c.args.world.now.state c.rotate.new.self.state c.rotate.result) (sym is) (rw (f.0, a.0, q) at (c.rotate.ensures part).0)

pub returns-clause-tables : goal.returns-clause-tables
returns-clause-tables c = (c.rotate.ensures some_part).1.0

pub returns-clause-stop : goal.returns-clause-stop
returns-clause-stop c = (c.rotate.ensures some_part).1.1

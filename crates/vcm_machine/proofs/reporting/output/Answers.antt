use Rattle.std.proofs.Common.{ℕ, List, ap, sym, ◌∙◌, subst}
use Rattle.std.specs.Int.{w16}
use Rattle.vcm_spec.specs.Setup.{setup_of}
use Rattle.vcm_state.specs.Carried.{CarriedOrHalted}
use Rattle.vcm_fields.specs.Readers.{variable_at, source_at}
use Rattle.vcm_fields.proofs.Inverse.{ok_is}
use Rattle.vcm_fields.proofs.Taking.{number_there}
use Rattle.vcm_machine.proofs.Effects.{output_effect}
use Rattle.vcm_machine.proofs.LoopBranches.{some_part}
use Rattle.vcm_machine.proofs.Reading.{read_first}
use Rattle.vcm_machine.proofs.reporting.output.Goals as goal

pub known_short-feature-requires : goal.known_short-feature-requires
known_short-feature-requires c =
    number_there w16 _ _ (read_first _ _ source_at variable_at c.args.bytes.now _ _ _ c.source.ensures c.known-source.ensures c.requires.2).1

pub returns-clause-carried : goal.returns-clause-carried
returns-clause-carried c setting o rest h =
    let s = read_first _ _ source_at variable_at c.args.bytes.now o rest _ c.source.ensures c.known-source.ensures h in
    let f = ap (λ (t : ℕ × List ℕ). t.0) (ok_is _ _ (sym c.known_short-feature.ensures ∙ s.1)) in
    let is = output_effect (setup_of setting c.args.world.now.tables) c.args.world.now.state o.0 o.1 in
    subst (λ o. CarriedOrHalted o c.args.world.now.state c.output.new.self.state c.output.result) (sym is) (rw (s.0, f) at (c.output.ensures setting).0)

pub returns-clause-tables : goal.returns-clause-tables
returns-clause-tables c = (c.output.ensures some_part).1.0

pub returns-clause-stop : goal.returns-clause-stop
returns-clause-stop c = (c.output.ensures some_part).1.1

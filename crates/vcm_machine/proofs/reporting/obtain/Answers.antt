use Rattle.std.proofs.Common.{ℕ, List, ap, sym, subst}
use Rattle.std.specs.Int.{w16}
use Rattle.vcm_spec.specs.declared.words.FeatureWord.{FeatureWord}
use Rattle.vcm_spec.specs.Setup.{setup_of}
use Rattle.vcm_state.specs.Carried.{Carried}
use Rattle.vcm_fields.specs.Readers.{variable_at, both, source_at, part_at}
use Rattle.vcm_fields.proofs.Taking.{gives_it, number_there, both_are}
use Rattle.vcm_machine.proofs.Effects.{obtain_effect}
use Rattle.vcm_machine.proofs.LoopBranches.{some_part}
use Rattle.vcm_machine.proofs.Reading.{read_first, known_first}
use Rattle.vcm_machine.proofs.reporting.obtain.Goals as goal

pub known_short-variable-requires : goal.known_short-variable-requires
known_short-variable-requires c = number_there w16 _ _ (both_are variable_at (both source_at (both variable_at part_at)) _ _ _ c.requires.2).1

pub known_short-feature-requires : goal.known_short-feature-requires
known_short-feature-requires c =
    let v = known_first variable_at (both source_at (both variable_at part_at)) _ _ _ _ c.known_short-variable.ensures c.requires.2 in
    let s = read_first _ _ source_at (both variable_at part_at) c.known_short-variable.result.1.now _ _ _ c.source.ensures c.known-source.ensures v.1 in
    number_there w16 _ _ (both_are variable_at part_at _ _ _ s.1).1

pub returns-clause-carried : goal.returns-clause-carried
returns-clause-carried c setting o rest h =
    let v = known_first variable_at (both source_at (both variable_at part_at)) _ o rest _ c.known_short-variable.ensures h in
    let s = read_first _ _ source_at (both variable_at part_at) c.known_short-variable.result.1.now o.1 rest _ c.source.ensures c.known-source.ensures v.1 in
    let f = known_first variable_at part_at c.known-source.result.1.now o.1.1 rest _ c.known_short-feature.ensures s.1 in
    let w = ap (λ (t : FeatureWord × List ℕ). t.0) (gives_it _ _ _ _ _ c.part.ensures f.1 c.known-word.ensures) in
    let is = obtain_effect (setup_of setting c.args.world.now.tables) c.args.world.now.state o.0 o.1.0 o.1.1.0 o.1.1.1 in
    subst (λ o. Carried o c.args.world.now.state c.obtain.new.self.state c.obtain.result) (sym is) (rw (v.0, s.0, f.0, w) at (c.obtain.ensures setting).0)

pub returns-clause-tables : goal.returns-clause-tables
returns-clause-tables c = (c.obtain.ensures some_part).1.0

pub returns-clause-stop : goal.returns-clause-stop
returns-clause-stop c = (c.obtain.ensures some_part).1.1

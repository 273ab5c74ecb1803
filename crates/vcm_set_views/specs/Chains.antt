-- What sees the steps of a run one by one.
use Rattle.std.specs.Prelude.{◌≡◌, List, [], ◌∷◌}
use Rattle.vcm_spec.specs.Workpiece.{Workpiece}
use Rattle.vcm_marks.specs.declared.mark.Mark.{Mark}
use Rattle.vcm_probe_set.specs.Probes.{Probe}
use Rattle.vcm_turning.specs.Steps.{TurnedStep, turned_marks}

-- from the first to the second it has seen these steps, each with the marks that it adds to the way, where `one` is what it makes of one
abbrev pub Chain : {To : Type 0} → (one : To → To → TurnedStep → List Mark → Type 0) → Workpiece → List Probe → To → To → List TurnedStep → Type 0
Chain one part ps from to [] = from ≡ to
Chain {To} one part ps from to (s ∷ ss) = (mid : To) × one from mid s (turned_marks part ps s) × Chain one part ps mid to ss

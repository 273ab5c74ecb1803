-- Statements about runs with several probes. Each is a clause of a law in src/laws.rt.
use Rattle.std.specs.Prelude.{◌≡◌, ℕ, List}
use Rattle.vcm_meant.specs.declared.remark.Remark.{Remark}
use Rattle.vcm_meant.specs.Turned.{IsMeantTurned}
use Rattle.vcm_set_views.specs.declared.ends.SetEnd.{SetEnd}
use Rattle.vcm_set_views.specs.Ends.{HasEnded}
use Rattle.vcm_set_views.specs.Fit.{Fit}

-- two ends of a run for at most n steps stand behind as many steps, and at the same stop, if at one
abbrev pub RunsTakeOneCount : Type 0
RunsTakeOneCount = (f : Fit) (n : ℕ) (a b : SetEnd) → HasEnded f n a → HasEnded f n b → (a.done ≡ b.done) × (a.stop ≡ b.stop)

-- of a run for at most n steps one list is remarked
abbrev pub RemarksAreOne : Type 0
RemarksAreOne = (f : Fit) (n : ℕ) (rs qs : List Remark)
    → IsMeantTurned n f.part f.probes f.variable f.code rs → IsMeantTurned n f.part f.probes f.variable f.code qs → rs ≡ qs

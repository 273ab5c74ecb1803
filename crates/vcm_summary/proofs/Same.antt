-- A run comes to one thing.
use Rattle.std.proofs.Common.{◌≡◌, ℕ, Option, sym, ap, ◌∙◌}
use Rattle.vcm_spec.specs.declared.stop.StopPlace.{StopPlace}
use Rattle.vcm_spec.specs.Workpiece.{Workpiece}
use Rattle.vcm_code.specs.declared.code.Code.{Code}
use Rattle.vcm_summary.specs.declared.findings.Findings.{Findings}
use Rattle.vcm_summary.specs.declared.summary.Summary.{Summary}
use Rattle.vcm_summary.specs.Summary.{IsSummed}

abbrev whole : Option StopPlace → ℕ → Findings → Summary
whole stop done findings = record { stop = stop; done = done; findings = findings }

-- what has the same parts is the same
same_parts : (x y : Summary) → x.stop ≡ y.stop → x.done ≡ y.done → x.findings ≡ y.findings → x ≡ y
same_parts x y e f g =
    ap (λ s. whole s x.done x.findings) e ∙ ap (λ d. whole y.stop d x.findings) f ∙ ap (λ a. whole y.stop y.done a) g

pub same_summary : (part : Workpiece) (c : Code) (n from : ℕ) (x y : Summary) → IsSummed part c n from x → IsSummed part c n from y → x ≡ y
same_summary part c n from x y h k = same_parts x y (h.stop ∙ sym k.stop) (h.done ∙ sym k.done) (h.findings ∙ sym k.findings)

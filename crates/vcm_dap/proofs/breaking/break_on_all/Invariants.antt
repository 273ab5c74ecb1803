use Rattle.std.proofs.Common.{◌≡◌, drop}
use Rattle.vcm_dap.specs.Lines.{with_places, cleared}
use Rattle.vcm_dap.proofs.breaking.break_on_all.Given as goal

abbrev pub invariant-loop-place : goal.invariant-loop-place
invariant-loop-place g l = with_places l.session (drop l.place-index l.places) ≡ with_places (cleared l.fn.session) l.places

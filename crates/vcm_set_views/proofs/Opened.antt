-- Sessions that were served from their start.
use Rattle.std.proofs.Common.{◌≡◌, ℕ, List, Option, Some, None, subst}
use Rattle.std.specs.Prelude.{IfSome, Result}
use Rattle.vcm_console.specs.declared.reply.ServeFault.{ServeFault}
use Rattle.vcm_set_debug.specs.Session.{TurnedDebugging, opened}
use Rattle.vcm_set_debug.specs.Serving.{Served}
use Rattle.vcm_set_views.specs.Debugged.{IsSession}
use Rattle.vcm_set_views.specs.Fit.{Fit}

-- what a session at the start served
pub session_of : (f : Fit) (known after old new : Option (List ℕ)) (r s : Result (Unit {0}) ServeFault) (first last : TurnedDebugging)
    → first ≡ opened f.part f.probes f.variable f.code → r ≡ s
    → IfSome known (λ input. Served 10000 1048576 first input after old new r last) → IfSome known (λ lines. IsSession f lines after old new s)
session_of f None after old new r s first last e q h = tt
session_of f (Some input) after old new r s first last e q h =
    (last, subst (λ x. Served 10000 1048576 (opened f.part f.probes f.variable f.code) input after old new x last) q (subst (λ d. Served 10000 1048576 d input after old new r last) e h))

-- Contacts as they are found in a run with several probes that goes on behind each: each with the backtrace of its statement.
use Rattle.std.specs.Prelude.{ℕ, zero, suc, List, [], ◌++◌, replicate, Option}
use Rattle.vcm_spec.specs.Workpiece.{Workpiece}
use Rattle.vcm_code.specs.declared.code.Code.{Code}
use Rattle.vcm_probe_set.specs.Probes.{Probe}
use Rattle.vcm_backtrace.specs.Sources.{Sourced}
use Rattle.vcm_contacts.specs.Noted.{Found, rounds_on, found_on}
use Rattle.vcm_set_contacts.specs.Passing.{turned_pass, set_passed_after}

-- the rounds behind n steps
abbrev pub set_rounds : Workpiece → List Probe → (variable : ℕ) → Code → ℕ → List ℕ
set_rounds part ps v c zero = replicate 32 0
set_rounds part ps v c (suc n) =
    rounds_on c (set_rounds part ps v c n) (set_passed_after part ps v c n).turned.state (set_passed_after part ps v c (suc n)).turned.state

-- the contacts of n steps from the start
abbrev pub set_found : Option Sourced → Workpiece → List Probe → (variable : ℕ) → Code → ℕ → List Found
set_found s part ps v c zero = []
set_found s part ps v c (suc n) =
    set_found s part ps v c n
    ++ found_on s c (set_passed_after part ps v c (suc n)).turned.state (set_rounds part ps v c (suc n)) (turned_pass part ps v c (set_passed_after part ps v c n).turned).contacts

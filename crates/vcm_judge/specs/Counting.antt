-- How many programs fared how, and the exit status of them all.
use Rattle.std.specs.Prelude.{ℕ, ◌+◌, ◌-◌, ◌^◌, min, nat_eq, Bool, if◌then◌else◌, List, [], ◌∷◌}
use Rattle.std.specs.List.{list_any}
use Rattle.vcm_judge.specs.declared.outcome.Outcome.{Outcome}
use Rattle.vcm_judge.specs.declared.outcome.Outcome.TheVariants.{Ended, NotAllTried, Stopped, OutOfSteps, Refused, NoMemory, Device}
use Rattle.vcm_judge.specs.declared.counts.Counts.{Counts}

-- the exit status of a program alone
abbrev pub status : Outcome → ℕ
status Ended = 0
status NotAllTried = 7
status Stopped = 3
status OutOfSteps = 4
status Refused = 1
status NoMemory = 5
status Device = 6

-- no program
abbrev pub nothing_counted : Counts
nothing_counted = record { ended = 0; not_all_tried = 0; stopped = 0; out_of_steps = 0; refused = 0; no_memory = 0; device = 0 }

-- one more, as far as 64 bits go
abbrev pub one_more : ℕ → ℕ
one_more n = min (n + 1) (2 ^ 64 - 1)

-- the counts with one program more
abbrev pub with_outcome : Counts → Outcome → Counts
with_outcome c Ended = record (c) { ended = one_more c.ended }
with_outcome c NotAllTried = record (c) { not_all_tried = one_more c.not_all_tried }
with_outcome c Stopped = record (c) { stopped = one_more c.stopped }
with_outcome c OutOfSteps = record (c) { out_of_steps = one_more c.out_of_steps }
with_outcome c Refused = record (c) { refused = one_more c.refused }
with_outcome c NoMemory = record (c) { no_memory = one_more c.no_memory }
with_outcome c Device = record (c) { device = one_more c.device }

-- with these programs more
abbrev pub counts_of : Counts → List Outcome → Counts
counts_of c [] = c
counts_of c (o ∷ os) = counts_of (with_outcome c o) os

-- whether a program has this exit status
abbrev pub has_status : ℕ → List Outcome → Bool
has_status n os = list_any (λ o. nat_eq (status o) n) os

-- the exit status of all: the first of 6, 5, 1, 3, 4 and 7 that a program has, else 0
abbrev pub worst : List Outcome → ℕ
worst os =
    if has_status 6 os then 6
    else if has_status 5 os then 5
    else if has_status 1 os then 1
    else if has_status 3 os then 3
    else if has_status 4 os then 4
    else if has_status 7 os then 7
    else 0

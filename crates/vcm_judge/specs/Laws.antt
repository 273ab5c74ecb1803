-- What is proved of many programs.
use Rattle.std.specs.Prelude.{◌≡◌, ℕ, ◌+◌, ◌<◌, ◌^◌, true, List, length}
use Rattle.std.specs.List.{list_all}
use Rattle.std.specs.Prelude.{nat_eq}
use Rattle.vcm_judge.specs.declared.outcome.Outcome.{Outcome}
use Rattle.vcm_judge.specs.declared.counts.Counts.{Counts}
use Rattle.vcm_judge.specs.Counting.{nothing_counted, counts_of, status, worst}

-- all counts together
abbrev pub total : Counts → ℕ
total c = c.ended + (c.not_all_tried + (c.stopped + (c.out_of_steps + (c.refused + (c.no_memory + c.device)))))

-- each program is counted once
abbrev pub EachIsCounted : Type 0
EachIsCounted = (os : List Outcome) → length os < 2 ^ 64 → total (counts_of nothing_counted os) ≡ length os

-- the exit status of all is 0 only where each program has that
abbrev pub NothingIsHidden : Type 0
NothingIsHidden = (os : List Outcome) → worst os ≡ 0 → list_all (λ o. nat_eq (status o) 0) os ≡ true

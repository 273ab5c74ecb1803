-- Each program is counted once.
use Rattle.std.proofs.Common.{◌≡◌, ℕ, suc, ◌+◌, ◌<◌, ◌^◌, List, [], ◌∷◌, length, arith, ◌∙◌}
use Rattle.vcm_judge.specs.declared.outcome.Outcome.{Outcome}
use Rattle.vcm_judge.specs.declared.outcome.Outcome.TheVariants.{Ended, NotAllTried, Stopped, OutOfSteps, Refused, NoMemory, Device}
use Rattle.vcm_judge.specs.declared.counts.Counts.{Counts}
use Rattle.vcm_judge.specs.Counting.{nothing_counted, one_more, with_outcome, counts_of}
use Rattle.vcm_judge.specs.Laws.{total}

one_is : (n : ℕ) → n + 1 < 2 ^ 64 → one_more n ≡ n + 1
one_is n l = grind arith

-- one program more is one more in all
one_counted : (c : Counts) (o : Outcome) → total c + 1 < 2 ^ 64 → total (with_outcome c o) ≡ total c + 1
one_counted c Ended l = let e = one_is c.ended (omega (arith, l)) in omega (arith, e)
one_counted c NotAllTried l = let e = one_is c.not_all_tried (omega (arith, l)) in omega (arith, e)
one_counted c Stopped l = let e = one_is c.stopped (omega (arith, l)) in omega (arith, e)
one_counted c OutOfSteps l = let e = one_is c.out_of_steps (omega (arith, l)) in omega (arith, e)
one_counted c Refused l = let e = one_is c.refused (omega (arith, l)) in omega (arith, e)
one_counted c NoMemory l = let e = one_is c.no_memory (omega (arith, l)) in omega (arith, e)
one_counted c Device l = let e = one_is c.device (omega (arith, l)) in omega (arith, e)

all_counted : (c : Counts) (os : List Outcome) → total c + length os < 2 ^ 64 → total (counts_of c os) ≡ total c + length os
all_counted c [] l = omega arith
all_counted c (o ∷ os) l =
    let e = one_counted c o (omega (arith, l)) in
    let r = all_counted (with_outcome c o) os (omega (arith, l, e)) in
    omega (arith, r, e)

pub each_counted : (os : List Outcome) → length os < 2 ^ 64 → total (counts_of nothing_counted os) ≡ length os
each_counted os l = let r = all_counted nothing_counted os (omega (arith, l)) in omega (arith, r)

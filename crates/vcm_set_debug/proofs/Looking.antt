-- The last end of a run of the debugger in the steps that were looked through.
use Rattle.std.proofs.Common.{◌≡◌, ℕ, suc, ◌+◌, Bool, List, Option, Some, None, sym, ap, ◌∙◌, arith}
use Rattle.vcm_console.specs.declared.reply.Reason.{Reason}
use Rattle.vcm_debug.specs.Halting.{RunEnd, ends_after}
use Rattle.vcm_debug.specs.inner.Backwards.{first_of}
use Rattle.vcm_debug.proofs.Backwards.{again}
use Rattle.vcm_set_debug.specs.Halting.{reason_behind, last_end}
use Rattle.vcm_set_debug.specs.Reached.{Reached, behind}
use Rattle.vcm_set_debug.proofs.Stepping.{asked, asked_is}

-- a step from one place to the next
pub farther_on : (old before now : Reached) (n : ℕ) → before ≡ behind old n → now ≡ behind before (before.count + 1) → now ≡ behind old (n + 1)
farther_on old before now n e f = f ∙ ap (λ (r : Reached). behind r (r.count + 1)) e

-- one step more
pub one_on : (breakpoints watches : List Bool) (old before now : Reached) (done : ℕ) (why : Option Reason) (found : Option RunEnd)
    → before ≡ behind old done → now ≡ behind old (done + 1) → why ≡ asked breakpoints watches before now
    → found ≡ last_end (reason_behind breakpoints watches old) done
    → first_of (elim why [ Some w ↦ Some (ends_after (done + 1) w) | None ↦ None ]) found ≡ last_end (reason_behind breakpoints watches old) (done + 1)
one_on breakpoints watches old before now done why found b n e f =
    let whys = reason_behind breakpoints watches old in
    let m : done + 1 ≡ suc done = omega arith in
    again why (done + 1) found
    ∙ ap (λ (k : ℕ). elim why [ Some w ↦ Some (ends_after k w) | None ↦ found ]) m
    ∙ ap (λ (r : Option Reason). elim r [ Some w ↦ Some (ends_after (suc done) w) | None ↦ found ]) (e ∙ asked_is breakpoints watches old before now done b n)
    ∙ ap (λ (x : Option RunEnd). elim (whys done) [ Some w ↦ Some (ends_after (suc done) w) | None ↦ x ]) f
    ∙ sym (ap (last_end whys) m)

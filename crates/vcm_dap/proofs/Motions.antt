-- Motions that were carried out.
use Rattle.std.proofs.Common.{◌≡◌, ℕ, zero, suc, Bool, true, false, refl, sym, ap, subst, inl, inr}
use Rattle.std.specs.Prelude.{Option, Some, None, Result, Ok, Err}
use Rattle.vcm_console.specs.declared.command.Command.{Command}
use Rattle.vcm_console.specs.declared.reply.Reply.{Reply}
use Rattle.vcm_console.specs.declared.reply.Halted.{Halted}
use Rattle.vcm_debug.specs.Debugging.{Debugging}
use Rattle.vcm_debug.specs.Session.{Answer, Carries}
use Rattle.vcm_over.specs.Over.{is_stopped, over_from}
use Rattle.vcm_dap.specs.declared.asking.Motion.{Motion}
use Rattle.vcm_dap.specs.Adapting.{Wanted}
use Rattle.vcm_dap.specs.Moving.{command_of, Comes, Stands, GoesOver, goes_by_lines, MovesSo, IsMoved}

-- there was nothing to do
pub comes_none : (d : Debugging) (o : Option Command) → None ≡ o → Comes d o d (Ok None)
comes_none d None e = refl
comes_none d (Some what) e = cc

-- a command was answered
pub comes_ok : (d new : Debugging) (o : Option Command) (what : Command) (r : Reply) → Some what ≡ o → Carries d what new (Ok r) → Comes d o new (Ok (Some r))
comes_ok d new o what r e a = subst (λ (x : Option Command). Comes d x new (Ok (Some r))) e a

-- memory was refused in a command
pub comes_err : (d new : Debugging) (o : Option Command) (what : Command) (h : Halted) → Some what ≡ o → Carries d what new (Err h) → Comes d o new (Err h)
comes_err d new o what h e a = subst (λ (x : Option Command). Comes d x new (Err h)) e a

-- so the session stands there
pub stands : (d new : Debugging) (o : Option Command) (came : Result (Option Reply) Halted) → Comes d o new came → Stands d o new
stands d new None (Ok None) a = a
stands d new None (Ok (Some r)) a = absurd a
stands d new None (Err h) a = absurd a
stands d new (Some what) (Ok None) a = absurd a
stands d new (Some what) (Ok (Some r)) a = inl (ap (λ (x : Answer). x.session) a)
stands d new (Some what) (Err h) a = inr (h.done, a)

-- a motion that is a command was carried out
pub moved : (w : Wanted) (d new : Debugging) (m : Motion) (came : Result (Option Reply) Halted) → goes_by_lines w m ≡ false → Comes d (command_of w d m) new came
    → IsMoved w d m new
moved w d new m came e h = subst (λ (b : Bool). MovesSo b w d m new) (sym e) (stands d new (command_of w d m) came h)

-- and one that goes by lines
pub moved_over : (w : Wanted) (d new : Debugging) (m : Motion) → goes_by_lines w m ≡ true → GoesOver d new → IsMoved w d m new
moved_over w d new m e h = subst (λ (b : Bool). MovesSo b w d m new) (sym e) h

-- at a stop a step by lines stays
pub at_stop : (n : ℕ) (d : Debugging) → is_stopped d ≡ true → d ≡ over_from n 1 d
unfolding over_from
at_stop zero d e = refl
at_stop (suc n) d e = rw e refl

-- Breakpoints that are taken away, one statement after another.
use Rattle.std.proofs.Common.{◌≡◌, ℕ, zero, suc, ◌+◌, ◌<◌, Bool, true, false, List, [], ◌∷◌, length, take, refl, sym, ap, ◌∙◌, arith, add-one}
use Rattle.std.proofs.lemmas.Bool.{lt-ltb}
use Rattle.std.specs.Prelude.{◌≤◌, nat_lt, slice_set, Option, Some, None, Result, Ok, Err, if◌then◌else◌}
use Rattle.vcm_code.specs.Code.{CodeStatement}
use Rattle.vcm_console.specs.declared.command.Command.TheVariants as c
use Rattle.vcm_console.specs.declared.reply.CommandRefusal.TheVariants.{NoSuchStatement}
use Rattle.vcm_console.specs.declared.reply.Reply.{Reply}
use Rattle.vcm_console.specs.declared.reply.Reply.TheVariants.{Cleared, Refused}
use Rattle.vcm_console.specs.declared.reply.Halted.{Halted}
use Rattle.vcm_debug.specs.Debugging.{Debugging}
use Rattle.vcm_debug.specs.Session.{Answer, answers, Carries}
use Rattle.vcm_dap.specs.Lines.{unflagged, cleared, with_place}

-- one statement more
unflagged_suc : (n : ℕ) (ss : List CodeStatement) (bs : List Bool) → n < length ss → unflagged (take (suc n) ss) bs ≡ slice_set (unflagged (take n ss) bs) n false
unflagged_suc n [] bs l = absurd (omega (arith, l))
unflagged_suc zero (s ∷ ss) [] l = refl
unflagged_suc zero (s ∷ ss) (b ∷ bs) l = refl
unflagged_suc (suc n) (s ∷ ss) [] l = refl
unflagged_suc (suc n) (s ∷ ss) (b ∷ bs) l = ap (λ xs. false ∷ xs) (unflagged_suc n ss bs (omega (arith, l)))

-- the same
pub unflagged_more : (n : ℕ) (ss : List CodeStatement) (bs : List Bool) → n < length ss → unflagged (take (n + 1) ss) bs ≡ slice_set (unflagged (take n ss) bs) n false
unflagged_more n ss bs l = rw add-one (unflagged_suc n ss bs l)

-- all of them
pub unflagged_all : (n : ℕ) (ss : List CodeStatement) → length ss ≤ n → take n ss ≡ ss
unflagged_all zero [] l = refl
unflagged_all (suc n) [] l = refl
unflagged_all zero (s ∷ ss) l = absurd (omega (arith, l))
unflagged_all (suc n) (s ∷ ss) l = ap (λ ts. s ∷ ts) (unflagged_all n ss (omega (arith, l)))

-- the session whose first n statements have no breakpoint any more
abbrev pub cleared_to : Debugging → ℕ → Debugging
cleared_to d n = record d { breakpoints = unflagged (take n d.code.statements) d.breakpoints }

-- a breakpoint was taken away
pub clears : (d new : Debugging) (n : ℕ) (told : Result Reply Halted) → n < length d.code.statements → Carries d (c.Clear n) new told
    → new ≡ record d { breakpoints = slice_set d.breakpoints n false }
clears d new n (Ok r) l a = ap (λ (x : Answer). x.session) a ∙ by (nat_lt n (length d.code.statements)) (lt-ltb n (length d.code.statements) l)
  where
    done : Debugging
    done = record d { breakpoints = slice_set d.breakpoints n false }

    by : (b : Bool) → b ≡ true → (if b then answers done (Cleared n) else answers d (Refused NoSuchStatement)).session ≡ done
    by true e = refl
    by false e = cc
clears d new n (Err h) l a = absurd a

-- one statement more
pub clears_more : (d s new : Debugging) (n : ℕ) → n < length d.code.statements → s ≡ cleared_to d n
    → new ≡ record s { breakpoints = slice_set s.breakpoints n false } → new ≡ cleared_to d (n + 1)
clears_more d s new n l e i =
    i ∙ ap (λ (x : Debugging). record x { breakpoints = slice_set x.breakpoints n false }) e
    ∙ ap (λ (bs : List Bool). record d { breakpoints = bs }) (sym (unflagged_more n d.code.statements d.breakpoints l))

-- all statements
pub clears_all : (d s : Debugging) (n : ℕ) → length d.code.statements ≤ n → s ≡ cleared_to d n → s ≡ cleared d
clears_all d s n l e = e ∙ ap (λ (ss : List CodeStatement). record d { breakpoints = unflagged ss d.breakpoints }) (unflagged_all n d.code.statements l)

-- a breakpoint on a line, if there is one, leaves the count
pub place_count : (d : Debugging) (place : Option ℕ) → (with_place d place).count ≡ d.count
place_count d None = refl
place_count d (Some line) = refl

-- Commands that only look.
use Rattle.std.proofs.Common.{◌≡◌, ℕ, Bool, true, false, length, refl, ap, ◌∙◌}
use Rattle.std.specs.Prelude.{nat_lt, Option, Some, None, Result, Ok, Err, slice_index_or, pos, if◌then◌else◌}
use Rattle.vcm_console.specs.declared.command.Command.{Command}
use Rattle.vcm_console.specs.declared.command.Command.TheVariants as c
use Rattle.vcm_console.specs.declared.reply.CommandRefusal.{CommandRefusal}
use Rattle.vcm_console.specs.declared.reply.CommandRefusal.TheVariants.{NoSuchName, NoSuchStatement}
use Rattle.vcm_console.specs.declared.reply.Reply.{Reply}
use Rattle.vcm_console.specs.declared.reply.Reply.TheVariants.{Found, Value, Features, Listed, Refused}
use Rattle.vcm_console.specs.declared.reply.Halted.{Halted}
use Rattle.vcm_console.specs.Parsing.{steps_of}
use Rattle.vcm_debug.specs.Debugging.{Debugging, now}
use Rattle.vcm_debug.specs.Session.{Answer, answers, where_found, at_statement, statement_on, variable_of, feature_of, recorded, answer, Halts, Carries}
use Rattle.vcm_dap.specs.inner.Looking.{is_look}

-- what is answered at an index that was found leaves the session as it is
found_keeps : (d : Debugging) (o : Option ℕ) (why : CommandRefusal) (go : ℕ → Reply) → (where_found d o why (λ i. answers d (go i))).session ≡ d
found_keeps d None why go = refl
found_keeps d (Some i) why go = refl

-- what is answered at a statement, likewise
at_keeps : (d : Debugging) (n : ℕ) (r : Reply) → (at_statement d n (answers d r)).session ≡ d
at_keeps d n r = by (nat_lt n (length d.code.statements))
  where
    by : (b : Bool) → (if b then answers d r else answers d (Refused NoSuchStatement)).session ≡ d
    by true = refl
    by false = refl

-- what is answered to a command that only looks, likewise
answer_keeps : (d : Debugging) (what : Command) → is_look what ≡ true → (answer d what).session ≡ d
answer_keeps d (c.Break n) e = cc
answer_keeps d (c.Clear n) e = cc
answer_keeps d (c.Line line) e = found_keeps d (statement_on d line) NoSuchStatement (λ n. Found line n)
answer_keeps d (c.Step k) e = cc
answer_keeps d (c.Run k) e = cc
answer_keeps d (c.Watch v) e = cc
answer_keeps d (c.Unwatch v) e = cc
answer_keeps d c.Where e = refl
answer_keeps d (c.Show v) e = found_keeps d (variable_of d v) NoSuchName (λ i. Value i (slice_index_or (now d).world.variables i (pos 0)))
answer_keeps d (c.Feat name) e =
    found_keeps d (feature_of d name) NoSuchName (λ i. Features i (recorded (now d).world.nominal i) (recorded (now d).world.actual i))
answer_keeps d (c.List None) e = refl
answer_keeps d (c.List (Some n)) e = at_keeps d n (Listed n)
answer_keeps d (c.Out k) e = refl
answer_keeps d (c.Back k) e = cc
answer_keeps d c.Reverse e = cc
answer_keeps d c.Quit e = cc

-- it wants no memory
none_wanted : (d new : Debugging) (what : Command) (done : ℕ) → is_look what ≡ true → Halts d what new done → new ≡ d
none_wanted d new (c.Break n) done e h = absurd h
none_wanted d new (c.Clear n) done e h = absurd h
none_wanted d new (c.Line line) done e h = absurd h
none_wanted d new (c.Step k) done e h = cc
none_wanted d new (c.Run k) done e h = cc
none_wanted d new (c.Watch v) done e h = absurd h
none_wanted d new (c.Unwatch v) done e h = absurd h
none_wanted d new c.Where done e h = absurd h
none_wanted d new (c.Show v) done e h = absurd h
none_wanted d new (c.Feat name) done e h = absurd h
none_wanted d new (c.List n) done e h = absurd h
none_wanted d new (c.Out k) done e h = absurd h
none_wanted d new (c.Back k) done e h = cc
none_wanted d new c.Reverse done e h = cc
none_wanted d new c.Quit done e h = absurd h

-- a command that only looks was carried out: the session is as it was
pub look_keeps : (d new : Debugging) (what : Command) (told : Result Reply Halted) → is_look what ≡ true → Carries d what new told → new ≡ d
look_keeps d new what (Ok r) e a = ap (λ (x : Answer). x.session) a ∙ answer_keeps d what e
look_keeps d new what (Err h) e a = none_wanted d new what h.done e a

-- it takes no step
pub look_stays : (what : Command) → is_look what ≡ true → steps_of what ≡ 0
look_stays (c.Break n) e = refl
look_stays (c.Clear n) e = refl
look_stays (c.Line line) e = refl
look_stays (c.Step k) e = cc
look_stays (c.Run k) e = cc
look_stays (c.Watch v) e = refl
look_stays (c.Unwatch v) e = refl
look_stays c.Where e = refl
look_stays (c.Show v) e = refl
look_stays (c.Feat name) e = refl
look_stays (c.List n) e = refl
look_stays (c.Out k) e = refl
look_stays (c.Back k) e = refl
look_stays c.Reverse e = refl
look_stays c.Quit e = refl

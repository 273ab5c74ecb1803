-- Watches that are let go and set, one after another.
use Rattle.std.proofs.Common.{◌≡◌, ℕ, List, map, refl, ap, ◌∙◌}
use Rattle.std.specs.Prelude.{Option, Some, None, slice_set, true, false, Result, Ok, Err}
use Rattle.vcm_spec.specs.Setup.{Variable}
use Rattle.vcm_console.specs.declared.command.VariableRef.{VariableRef}
use Rattle.vcm_console.specs.declared.command.Command.TheVariants as c
use Rattle.vcm_console.specs.declared.reply.CommandRefusal.TheVariants.{NoSuchName}
use Rattle.vcm_console.specs.declared.reply.Reply.{Reply}
use Rattle.vcm_console.specs.declared.reply.Reply.TheVariants.{Watched, Unwatched}
use Rattle.vcm_console.specs.declared.reply.Halted.{Halted}
use Rattle.vcm_debug.specs.Debugging.{Debugging}
use Rattle.vcm_debug.specs.Session.{Answer, answers, where_found, variable_of, answer, Carries}
use Rattle.vcm_dap.specs.Lines.{named, letting_go, without_watches, watching, with_watches}
use Rattle.vcm_dap.proofs.Folds.{fold_count}

-- a variable was let go
pub let_go : (d new : Debugging) (v : VariableRef) (told : Result Reply Halted) → Carries d (c.Unwatch v) new told → new ≡ (answer d (c.Unwatch v)).session
let_go d new v (Ok r) a = ap (λ (x : Answer). x.session) a
let_go d new v (Err h) a = absurd a

-- a variable is watched
pub watched : (d new : Debugging) (v : VariableRef) (told : Result Reply Halted) → Carries d (c.Watch v) new told → new ≡ (answer d (c.Watch v)).session
watched d new v (Ok r) a = ap (λ (x : Answer). x.session) a
watched d new v (Err h) a = absurd a

-- with that the code and the count stay
pub let_go_same : (d : Debugging) (v : VariableRef) → ((answer d (c.Unwatch v)).session.code ≡ d.code) × ((answer d (c.Unwatch v)).session.count ≡ d.count)
let_go_same d v = by (variable_of d v)
  where
    go : ℕ → Answer
    go i = answers (record d { watches = slice_set d.watches i false }) (Unwatched i)

    by : (o : Option ℕ) → ((where_found d o NoSuchName go).session.code ≡ d.code) × ((where_found d o NoSuchName go).session.count ≡ d.count)
    by None = (refl, refl)
    by (Some i) = (refl, refl)

-- and so they do with a watch
pub watching_same : (d : Debugging) (o : Option VariableRef) → (watching d o).count ≡ d.count
watching_same d None = refl
watching_same d (Some v) = by (variable_of d v)
  where
    go : ℕ → Answer
    go i = answers (record d { watches = slice_set d.watches i true }) (Watched i)

    by : (o : Option ℕ) → (where_found d o NoSuchName go).session.count ≡ d.count
    by None = refl
    by (Some i) = refl

-- the count stays, however many are let go, and however many are watched then
pub without_count : (d : Debugging) (variables : List Variable) → (without_watches d variables).count ≡ d.count
without_count d variables = fold_count letting_go (λ s v. (let_go_same s v).1) d (map named variables)

pub watches_count : (d : Debugging) (wanted : List (Option VariableRef)) → (with_watches d wanted).count ≡ d.count
watches_count d wanted =
    fold_count watching watching_same (without_watches d d.code.tables.variables) wanted ∙ without_count d d.code.tables.variables

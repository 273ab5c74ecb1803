-- A worked session, computed.
use Rattle.std.specs.Prelude.{◌≡◌, refl, ℕ, pos, List, [], ◌∷◌, codes, None, Some}
use Rattle.vcm_num.specs.Point.{point}
use Rattle.vcm_num.specs.declared.number.Kind.TheVariants.{Int}
use Rattle.vcm_spec.specs.declared.expression.Operand.TheVariants.{Integer}
use Rattle.vcm_spec.specs.declared.expression.Item.{Item}
use Rattle.vcm_spec.specs.declared.expression.Item.TheVariants.{Push}
use Rattle.vcm_spec.specs.declared.simple.Simple.TheVariants.{Text, GoHome, Assign}
use Rattle.vcm_spec.specs.World.{with_variable}
use Rattle.vcm_spec.specs.Effect.{value_in, effect, carried_out}
use Rattle.vcm_spec.specs.Value.{items_value}
use Rattle.vcm_spec.specs.Control.{is_zero, is_past, with_next_index}
use Rattle.vcm_spec.specs.Samples.Parts.{one_block}
use Rattle.vcm_code.specs.declared.version.Version.TheVariants.{One}
use Rattle.vcm_code.specs.declared.code.Code.{Code}
use Rattle.vcm_code.specs.declared.op.Op.TheVariants as ops
use Rattle.vcm_console.specs.declared.command.VariableRef.{VariableRef}
use Rattle.vcm_console.specs.declared.command.Command.{Command}
use Rattle.vcm_console.specs.declared.command.Command.TheVariants as c
use Rattle.vcm_console.specs.declared.reply.Reason.TheVariants.{Watch, Stopped}
use Rattle.vcm_console.specs.declared.reply.Standing.{Standing}
use Rattle.vcm_console.specs.declared.reply.Reply.{Reply}
use Rattle.vcm_console.specs.declared.reply.Reply.TheVariants.{Stands, Ran, Watched}
use Rattle.vcm_probe_set.specs.Probes.{Probe}
use Rattle.vcm_set_debug.specs.Session.{TurnedDebugging, opened, at_count, answer}
use Rattle.vcm_set_debug.specs.Reached.{now, lost}

-- a whole number as an expression
abbrev whole : ℕ → List Item
whole n = Push (Integer (pos n)) ∷ []

-- a probe that hangs down
abbrev down : Probe
down = record { name = codes "DOWN"; number = 1; tip = None; pivot = point (pos 0) (pos 0) (pos 150000); pose = None; bodies = [] }

-- PROBE=ASSIGN/1 on line 4, TEXT/OPER,'A' on line 5, PROBE=ASSIGN/5 on line 6, GOHOME on line 7, ENDFIL on line 8
abbrev choosing : Code
choosing = record {
  version = One;
  tables = record { variables = record { name = codes "PROBE"; kind = Int; expansion = 0 } ∷ []; features = []; frames = [] };
  statements =
      record { line = 4; op = ops.Plain (Assign 0 (whole 1)) } ∷ record { line = 5; op = ops.Plain (Text (codes "A")) }
      ∷ record { line = 6; op = ops.Plain (Assign 0 (whole 5)) } ∷ record { line = 7; op = ops.Plain GoHome } ∷ record { line = 8; op = ops.EndFil } ∷ [];
}

-- a session at its start
abbrev start : TurnedDebugging
start = opened one_block (down ∷ []) 0 choosing

-- the replies to a list of commands, where memory is never refused
abbrev replies : TurnedDebugging → List Command → List Reply
replies d [] = []
replies d (w ∷ ws) = (answer d w).reply ∷ replies (answer d w).session ws

-- after so many steps, before this statement of this line
abbrev at : ℕ → ℕ → ℕ → Standing
at steps next line = record { steps = steps; next = next; line = line; stop = None }

-- the variable, outside macros
abbrev probe : VariableRef
probe = record { name = codes "PROBE"; expansion = 0 }

-- over the choice and back, to the motion that no probe is on for, where no step is taken
pub a_session : replies start (c.Where ∷ c.Watch probe ∷ c.Run 10 ∷ c.Step 2 ∷ c.Back 1 ∷ c.Run 10 ∷ c.Run 10 ∷ c.Step 3 ∷ c.Reverse ∷ [])
    ≡ Stands (at 0 0 4) ∷ Watched 0 ∷ Ran (Watch 0) (at 1 1 5) ∷ Stands (at 3 3 7) ∷ Stands (at 2 2 6) ∷ Ran Stopped (at 3 3 7) ∷ Ran Stopped (at 3 3 7)
    ∷ Stands (at 3 3 7) ∷ Ran (Watch 0) (at 1 1 5) ∷ []
unfolding with_variable value_in items_value is_zero is_past effect carried_out with_next_index
a_session = refl

-- there the probe is on
pub held : (now (at_count start 3).run).on ≡ Some 0
unfolding with_variable value_in items_value is_zero is_past effect carried_out with_next_index
held = refl

-- and no probe has the number 5
pub lost_there : lost (at_count start 3).run 3 ≡ Some (record { value = pos 5; number = 3; line = 7 })
unfolding with_variable value_in items_value is_zero is_past effect carried_out with_next_index
lost_there = refl

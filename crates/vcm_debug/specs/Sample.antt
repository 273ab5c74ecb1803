-- A worked session, computed.
use Rattle.std.specs.Prelude.{◌≡◌, refl, ℕ, pos, List, [], ◌∷◌, codes, None, Some}
use Rattle.vcm_num.specs.declared.number.Kind.TheVariants.{Int}
use Rattle.vcm_spec.specs.declared.expression.Operand.TheVariants.{Integer}
use Rattle.vcm_spec.specs.declared.expression.Item.{Item}
use Rattle.vcm_spec.specs.declared.expression.Item.TheVariants.{Push}
use Rattle.vcm_spec.specs.declared.stop.Stop.TheVariants.{Ended}
use Rattle.vcm_spec.specs.World.{with_variable}
use Rattle.vcm_spec.specs.Effect.{value_in, effect, carried_out}
use Rattle.vcm_spec.specs.Value.{items_value}
use Rattle.vcm_spec.specs.Control.{is_zero, is_past, with_next_index}
use Rattle.vcm_spec.specs.Samples.Parts.{one_block}
use Rattle.vcm_code.specs.declared.version.Version.TheVariants.{One}
use Rattle.vcm_code.specs.declared.code.Code.{Code}
use Rattle.vcm_spec.specs.declared.simple.Simple.TheVariants.{Text}
use Rattle.vcm_code.specs.declared.op.Op.TheVariants as ops
use Rattle.vcm_console.specs.declared.command.VariableRef.{VariableRef}
use Rattle.vcm_console.specs.declared.command.Command.{Command}
use Rattle.vcm_console.specs.declared.command.Command.TheVariants as c
use Rattle.vcm_console.specs.declared.reply.Reason.TheVariants.{Break, Watch, Stopped}
use Rattle.vcm_console.specs.declared.reply.Standing.{Standing}
use Rattle.vcm_console.specs.declared.reply.CommandRefusal.TheVariants.{NoSuchStatement, BeforeStart}
use Rattle.vcm_console.specs.declared.reply.Reply.{Reply}
use Rattle.vcm_console.specs.declared.reply.Reply.TheVariants.{Set, Cleared, Found, Stands, Ran, Watched, Value, Lines, Refused}
use Rattle.vcm_debug.specs.Debugging.{Debugging, opened}
use Rattle.vcm_debug.specs.Session.{answer}

-- a whole number as an expression
abbrev whole : ℕ → List Item
whole n = Push (Integer (pos n)) ∷ []

-- DO/I,1,3,1 on line 4, TEXT/OPER,'A' on line 5, ENDDO on line 6, ENDFIL on line 7
abbrev looping : Code
looping = record {
  version = One;
  tables = record { variables = record { name = codes "I"; kind = Int; expansion = 0 } ∷ []; features = []; frames = [] };
  statements =
      record { line = 4; op = ops.Do 0 0 (whole 1) (whole 3) (whole 1) 3 } ∷ record { line = 5; op = ops.Plain (Text (codes "A")) }
      ∷ record { line = 6; op = ops.EndDo 0 0 1 } ∷ record { line = 7; op = ops.EndFil } ∷ [];
}

-- the replies to a list of commands, where memory is never refused
abbrev replies : Debugging → List Command → List Reply
replies d [] = []
replies d (w ∷ ws) = (answer d w).reply ∷ replies (answer d w).session ws

-- the variable I, outside macros
abbrev i : VariableRef
i = record { name = codes "I"; expansion = 0 }

-- after so many steps, before this statement of this line
abbrev at : ℕ → ℕ → ℕ → Standing
at steps next line = record { steps = steps; next = next; line = line; stop = None }

-- at the end of the program, which takes eight steps
abbrev ended : Standing
ended = record { steps = 8; next = 3; line = 7; stop = Some (record { stop = Ended; number = 3; line = 7 }) }

-- the replies to a session with a breakpoint, a watch and steps back
pub a_session : replies (opened one_block looping) (
    c.Break 1 ∷ c.Run 10 ∷ c.Run 10 ∷ c.Watch i ∷ c.Run 10 ∷ c.Clear 1 ∷ c.Run 10 ∷ c.Run 10 ∷ c.Run 10 ∷ c.Out 10 ∷ c.Back 8 ∷ c.Back 1
    ∷ c.Show i ∷ c.Break 4 ∷ c.Line 6 ∷ c.Step 3 ∷ [])
    ≡ Set 1 ∷ Ran Break (at 1 1 5) ∷ Ran Break (at 3 1 5) ∷ Watched 0 ∷ Ran Break (at 5 1 5) ∷ Cleared 1 ∷ Ran (Watch 0) (at 7 3 7)
    ∷ Ran Stopped ended ∷ Ran Stopped ended ∷ Lines 3 3 ∷ Stands (at 0 0 4) ∷ Refused BeforeStart ∷ Value 0 (pos 0)
    ∷ Refused NoSuchStatement ∷ Found 6 2 ∷ Stands (at 3 1 5) ∷ []
unfolding with_variable value_in items_value is_zero is_past effect carried_out with_next_index
a_session = refl

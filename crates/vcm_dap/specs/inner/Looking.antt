-- Commands that only look.
use Rattle.std.specs.Prelude.{ℕ, Bool, true, false, Option, Some, None, Result, Ok}
use Rattle.vcm_console.specs.declared.command.Command.{Command}
use Rattle.vcm_console.specs.declared.command.Command.TheVariants as c
use Rattle.vcm_console.specs.declared.reply.Halted.{Halted}
use Rattle.vcm_console.specs.declared.reply.Reply.{Reply}
use Rattle.vcm_console.specs.declared.reply.Reply.TheVariants.{Value}

-- whether a command only looks
abbrev pub is_look : Command → Bool
is_look c.Where = true
is_look (c.Show v) = true
is_look (c.Feat name) = true
is_look (c.List n) = true
is_look (c.Out k) = true
is_look (c.Line line) = true
is_look _ = false

-- the index of the variable whose value is told
abbrev pub told_index : Result Reply Halted → Option ℕ
told_index (Ok (Value i value)) = Some i
told_index _ = None

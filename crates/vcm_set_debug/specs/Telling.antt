-- What is told behind where a session with several probes stands.
use Rattle.std.specs.Prelude.{ℕ, ◌+◌, Bool, true, false, if◌then◌else◌, List, [], ◌∷◌, ◌++◌, decimal, codes, Option, Some, None, Result, Ok, Err}
use Rattle.vcm_console.specs.declared.reply.Halted.{Halted}
use Rattle.vcm_console.specs.declared.reply.Reply.{Reply}
use Rattle.vcm_console.specs.declared.reply.Reply.TheVariants.{Stands, Ran}
use Rattle.vcm_console.specs.Replies.{reply_text, halt_text}
use Rattle.vcm_debug.specs.Session.{standing}
use Rattle.vcm_probe_set.specs.Probes.{Probe}
use Rattle.vcm_report.specs.Printed.{in_a_row}
use Rattle.vcm_turning.specs.declared.ended.NoProbe.{NoProbe}
use Rattle.vcm_turning.specs.Choosing.{probe_on}
use Rattle.std.specs.Fmt.{signed_decimal}
use Rattle.vcm_set_debug.specs.Reached.{Reached, now, lost}
use Rattle.vcm_set_debug.specs.Session.{TurnedDebugging, world}

-- which probe is on, if one is: probe T1A45B90 number 2, or probe none
abbrev pub probe_line : Option Probe → List ℕ
probe_line (Some p) = in_a_row (codes "probe " ∷ p.name ∷ codes " number " ∷ decimal p.number ∷ codes "\n" ∷ [])
probe_line None = codes "probe none\n"

-- the line of a run that ends before a step, since no probe with the number is on: no probe 5 at 12 line 30 step 9
abbrev pub no_probe_line : NoProbe → (step : ℕ) → List ℕ
no_probe_line l step =
    in_a_row (codes "no probe " ∷ signed_decimal l.value ∷ codes " at " ∷ decimal l.number ∷ codes " line " ∷ decimal l.line ∷ codes " step " ∷ decimal step ∷ codes "\n" ∷ [])

-- that line, where that is so
abbrev pub lost_line : Option NoProbe → (step : ℕ) → List ℕ
lost_line (Some l) step = no_probe_line l step
lost_line None step = []

-- behind where a session stands: which probe is on there, and that the run goes no farther for want of the chosen one
abbrev pub standing_lines : Reached → List ℕ
standing_lines r = probe_line (probe_on r.probes (now r).on) ++ lost_line (lost r r.count) (r.count + 1)

-- whether a reply tells where the session stands
abbrev pub tells_standing : Reply → Bool
tells_standing (Stands s) = true
tells_standing (Ran why s) = true
tells_standing _ = false

-- the lines behind a reply: there are some behind one that tells where the session stands
abbrev pub reply_lines : Reached → Reply → List ℕ
reply_lines r reply = if tells_standing reply then standing_lines r else []

-- the text of what a session answered, which stands so afterwards: want of memory is told with where it stands, and no lines behind that
abbrev pub answer_text : TurnedDebugging → Result Reply Halted → List ℕ
answer_text d (Ok reply) = reply_text d.run.code (world d).lines reply ++ reply_lines d.run reply
answer_text d (Err h) = halt_text d.run.code.tables (standing d.run.code d.run.count (now d.run).state)

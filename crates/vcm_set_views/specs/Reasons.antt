-- Why a run with several probes ended where it did.
use Rattle.std.specs.Prelude.{◌≡◌, ℕ, ℤ, ◌+◌, List, [], ◌∷◌, ◌++◌, codes, Option, Some, None}
use Rattle.std.specs.Fmt.{signed_decimal}
use Rattle.vcm_spec.specs.Workpiece.{Workpiece}
use Rattle.vcm_marks.specs.declared.mark.Mark.{Mark}
use Rattle.vcm_probe_set.specs.Probes.{Probe}
use Rattle.vcm_report.specs.Printed.{in_a_row}
use Rattle.vcm_state.specs.Held.{Held}
use Rattle.vcm_cause.specs.Behind.{Behind, rounds_behind, framed_behind, before_steps}
use Rattle.vcm_turning.specs.declared.ended.NoProbe.{NoProbe}
use Rattle.vcm_turning.specs.declared.ended.Ended.{Ended}
use Rattle.vcm_turning.specs.declared.ended.Ended.TheVariants.{Lost}
use Rattle.vcm_turning.specs.Choosing.{probe_on}
use Rattle.vcm_turning.specs.Steps.{TurnedStep, turned_marks}
use Rattle.vcm_backtrace.specs.Sources.{Sourced, IsSourced}
use Rattle.vcm_why.specs.Reasons.{where_lines, why_lines}
use Rattle.vcm_set_views.specs.declared.ends.SetEnd.{SetEnd}
use Rattle.vcm_set_views.specs.Ends.{no_probe_line}
use Rattle.vcm_set_views.specs.Fit.{Fit, steps_of, behind, part_behind}

-- what is known behind one step more, which adds these marks to the way
abbrev pub one_behind : Behind → TurnedStep → List Mark → Behind
one_behind b s marks = record {
  marks = marks;
  rounds = rounds_behind b.rounds s.passage.statement.op s.passage.number s.passage.next s.passage.after.stop;
  framed = framed_behind b.framed s.passage.statement.op s.passage.statement.line s.passage.after.stop;
}

-- behind these steps
abbrev pub known_behind : Workpiece → List Probe → Behind → List TurnedStep → Behind
known_behind part ps b [] = b
known_behind part ps b (s ∷ ss) = known_behind part ps (one_behind b s (turned_marks part ps s)) ss

-- behind so many steps of a run
abbrev pub known_at : Fit → ℕ → Behind
known_at f n = known_behind f.part f.probes before_steps (steps_of f n)

-- that no probe has a number
abbrev pub wanted_text : ℤ → List ℕ
wanted_text value = codes "no probe has the number " ++ signed_decimal value

-- which probe is on, if one is
abbrev pub on_text : Option Probe → List ℕ
on_text (Some p) = in_a_row (codes "; on is " ∷ p.name ∷ codes "\n" ∷ [])
on_text None = codes ", and none is on yet\n"

-- which probe is on where another one is wanted: no probe has the number 5; on is T1A0B0
abbrev pub wanting_line : NoProbe → Option Probe → List ℕ
wanting_line l on = wanted_text l.value ++ on_text on

-- the state of a run behind so many steps, with the tables of its names
abbrev pub held_at : Fit → ℕ → Held
held_at f n = record { tables = f.code.tables; state = (behind f n).state.world }

-- of a run that ended without a probe: before which step, where its statement comes from, and which probe is on; of another one what is told of its stop
abbrev pub reason_lines : List (List ℕ) → Option Sourced → Fit → SetEnd → (number : ℕ) → Ended → List ℕ
reason_lines names t f e number (Lost l) =
    no_probe_line l (e.done + 1)
    ++ (where_lines t f.code.statements (held_at f e.done) (known_at f e.done).rounds number l.line ++ wanting_line l (probe_on f.probes (behind f e.done).on))
reason_lines names t f e number end = why_lines names t (part_behind f e.done) f.code.statements (held_at f e.done) number (known_at f e.done) e.done

-- all that is told of a run that ended so, of a code from this text or from none, beside blocks with these names
pub record IsReason (names : List (List ℕ)) (text : Option (List ℕ)) (f : Fit) (e : SetEnd) (told : List ℕ) : Type 0 where
  pub traced : Option Sourced
  pub is_traced : IsSourced text traced
  pub told_is : told ≡ reason_lines names traced f e (behind f e.done).state.next e.end

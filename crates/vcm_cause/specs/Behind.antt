-- What is known behind the steps of a run: what the last one adds to the way, how many rounds each loop has begun, and which statement made the current frame.
use Rattle.std.specs.Prelude.{ℕ, ◌+◌, Bool, true, false, nat_eq, nat_lt, if◌then◌else◌, List, [], ◌∷◌, slice_get, slice_set, replicate, unwrap_or}
use Rattle.std.specs.Prelude.{Option, Some, None}
use Rattle.vcm_spec.specs.declared.stop.StopPlace.{StopPlace}
use Rattle.vcm_spec.specs.Workpiece.{Workpiece}
use Rattle.vcm_code.specs.declared.code.Code.{Code}
use Rattle.vcm_code.specs.Code.{Op}
use Rattle.vcm_code.specs.declared.op.Op.TheVariants.{Do, EndDo, Plain}
use Rattle.vcm_spec.specs.declared.simple.Simple.TheVariants.{Trans, Rotate, Recall}
use Rattle.vcm_marks.specs.declared.mark.Mark.{Mark}
use Rattle.vcm_steps.specs.Passages.{Passage, passages}
use Rattle.vcm_way.specs.Ways.{step_marks}

-- one round more; from a thousand million on they are not counted
abbrev pub one_more : ℕ → ℕ
one_more n = if nat_lt n 1000000000 then n + 1 else n

-- how many rounds the loop with this pair has begun
abbrev pub round_of : List ℕ → ℕ → ℕ
round_of rounds pair = unwrap_or (slice_get rounds pair) 0

-- the loop with this pair begins this round
abbrev pub begun : List ℕ → (pair round : ℕ) → List ℕ
begun rounds pair round = if nat_lt pair 32 then slice_set rounds pair round else rounds

-- the rounds behind a statement, by whether the next one is that behind it: a DO that is entered begins the first round, an ENDDO that goes back one more
abbrev pub rounds_by : List ℕ → Op → (straight : Bool) → List ℕ
rounds_by rounds (Do v pair a b c exit) true = begun rounds pair 1
rounds_by rounds (EndDo v pair body) false = begun rounds pair (one_more (round_of rounds pair))
rounds_by rounds op straight = rounds

-- the rounds behind a step; one that stops begins none
abbrev pub rounds_behind : List ℕ → Op → (number next : ℕ) → Option StopPlace → List ℕ
rounds_behind rounds op number next None = rounds_by rounds op (nat_eq next (number + 1))
rounds_behind rounds op number next (Some place) = rounds

-- the line of the statement that made the current frame, 0 before there is one: TRANS and ROTATE make theirs the current one, RECALL the one that it names
abbrev pub framed_by : ℕ → Op → (line : ℕ) → ℕ
framed_by old (Plain (Trans i x y z)) line = line
framed_by old (Plain (Rotate i axis quarters)) line = line
framed_by old (Plain (Recall i)) line = line
framed_by old op line = old

-- the same behind a step; one that stops makes none
abbrev pub framed_behind : ℕ → Op → (line : ℕ) → Option StopPlace → ℕ
framed_behind old op line None = framed_by old op line
framed_behind old op line (Some place) = old

-- what is known behind steps: the marks of the last one, the rounds of the loops, and the line of the current frame
pub record Behind : Type 0 where
  pub marks : List Mark
  pub rounds : List ℕ
  pub framed : ℕ

-- what is known behind one step more
abbrev pub one_behind : Workpiece → Behind → Passage → Behind
one_behind part b p = record {
  marks = step_marks part p;
  rounds = rounds_behind b.rounds p.statement.op p.number p.next p.after.stop;
  framed = framed_behind b.framed p.statement.op p.statement.line p.after.stop;
}

-- behind these steps
abbrev pub behind : Workpiece → Behind → List Passage → Behind
behind part b [] = b
behind part b (p ∷ ps) = behind part (one_behind part b p) ps

-- at the start
abbrev pub before_steps : Behind
before_steps = record { marks = []; rounds = replicate 32 0; framed = 0 }

-- behind a run for at most n steps
abbrev pub behind_run : Workpiece → Code → ℕ → Behind
behind_run part c n = behind part before_steps (passages part c n)

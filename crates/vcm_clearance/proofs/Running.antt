-- The ways of a run, step by step, and the clearance at its end.
use Rattle.std.proofs.Common.{◌≡◌, ℕ, suc, ◌+◌, ◌-◌, ◌≤◌, ◌∙◌, true, false, List, [], ◌∷◌, ◌++◌, length, Option, Some, refl, sym, ap, subst, arith, append_assoc}
use Rattle.std.specs.Prelude.{flat_map, replicate}
use Rattle.std.specs.List.{list_any, AllByRecursion}
use Rattle.std.proofs.lemmas.Grind.{flat_map-append}
use Rattle.std.proofs.lemmas.List.{flat_map_more}
use Rattle.vcm_naming.specs.Naming.{Line, plain, last_line}
use Rattle.vcm_naming.specs.Pages.{Page, Adds, AddsFront}
use Rattle.vcm_naming.proofs.Pages.{adds_more, adds_front_first, adds_front_then}
use Rattle.vcm_spec.specs.declared.workpiece.Block3.{Block3}
use Rattle.vcm_spec.specs.Workpiece.{Workpiece, IsValid}
use Rattle.vcm_spec.specs.declared.stop.StopPlace.{StopPlace}
use Rattle.vcm_spec.specs.Setup.{setup_of}
use Rattle.vcm_code.specs.declared.code.Code.{Code}
use Rattle.vcm_code.specs.CodeTable.{code_steps}
use Rattle.vcm_machine.specs.declared.ran.End.{End}
use Rattle.vcm_machine.specs.declared.ran.End.TheVariants as ends
use Rattle.vcm_machine.specs.declared.ran.Ran.{Ran}
use Rattle.vcm_machine.specs.Running.{Running, started, later, RunEnded, HasRun}
use Rattle.vcm_steps.specs.Passages.{Passage, passages, state_after, steps_taken, IsBroken}
use Rattle.vcm_steps.proofs.PassageLemmas.{rest_of, taken_most, state_stopped, passages_stopped}
use Rattle.vcm_boxes.specs.declared.boxes.ProbeBox.{ProbeBox}
use Rattle.vcm_boxes.specs.Boxes.{AreBoxes}
use Rattle.vcm_way.specs.Gone.{PlacedWay, ways_in, placed_at, placed_ways, ways_of}
use Rattle.vcm_way.specs.Ways.{step_marks}
use Rattle.vcm_clearance.specs.declared.clearing.Cleared.{Cleared}
use Rattle.vcm_steps.specs.declared.fault.Unfinished.{Unfinished}
use Rattle.vcm_steps.specs.declared.fault.Unfinished.TheVariants as faults
use Rattle.vcm_marks.specs.declared.mark.Moment.{Moment}
use Rattle.vcm_clearance.specs.declared.room.Room.{Room}
use Rattle.vcm_clearance.specs.Rooms.{AreRooms, counted, is_met_room}
use Rattle.vcm_spec.specs.Setup.{Tables}
use Rattle.vcm_code.specs.Code.{CodeStatement}
use Rattle.vcm_backtrace.specs.Sources.{Sourced}
use Rattle.vcm_backtrace.specs.Standing.{Past}
use Rattle.vcm_backtrace.specs.Backtrace.{backtrace_lines, backtrace_at, round_on, rounds_along}
use Rattle.vcm_backtrace.proofs.Along.{along_more, told_front, told_last, told_along}
use Rattle.vcm_backtrace.proofs.Many.{as_many_along}
use Rattle.vcm_clearance.specs.declared.here.Here.{Here}
use Rattle.vcm_clearance.specs.Printed.{Backtraces, way_lines, run_lines, ways_text, boxes_lines}
use Rattle.vcm_clearance.specs.inner.Here.{here_text, past_text, AreKept, kept_lines}
use Rattle.vcm_clearance.specs.Clearance.{contact_lines, summary, clearance_lines, IsClearance, IsHalted, IsCutOff, IsNotCleared}
use Rattle.vcm_clearance.specs.inner.Following.{IsDone, AreAdded, AreCut, AreToldBy, is_empty, ways_along, HasTried, HasBroken, opening, opening_kept}
use Rattle.vcm_clearance.proofs.Existing.{rooms_exist}
use Rattle.vcm_clearance.proofs.Keeping.{lines_kept, opened_kept}
use Rattle.vcm_clearance.proofs.Sizes.{box_at}

-- ---- lines of more ways

module _ (from : Backtraces) (blocks : List Block3) (boxes : List ProbeBox) where
  later_lines : (ws ps : List PlacedWay) → run_lines from blocks boxes false ws ++ run_lines from blocks boxes false ps ≡ run_lines from blocks boxes false (ws ++ ps)
  later_lines [] ps = refl
  later_lines (w ∷ ws) ps =
      append_assoc (way_lines (from w.step w.number) blocks boxes false w) (run_lines from blocks boxes false ws) (run_lines from blocks boxes false ps)
      ∙ ap (λ l. way_lines (from w.step w.number) blocks boxes false w ++ l) (later_lines ws ps)

  pub more_lines : (ws ps : List PlacedWay) → run_lines from blocks boxes true ws ++ run_lines from blocks boxes (is_empty ws) ps ≡ run_lines from blocks boxes true (ws ++ ps)
  more_lines [] ps = refl
  more_lines (w ∷ ws) ps =
      append_assoc (way_lines (from w.step w.number) blocks boxes true w) (run_lines from blocks boxes false ws) (run_lines from blocks boxes false ps)
      ∙ ap (λ l. way_lines (from w.step w.number) blocks boxes true w ++ l) (later_lines ws ps)

-- ---- a step

-- where a step stands that is tried, by what is known behind it
pub record IsHere (s : Option Sourced) (ss : List CodeStatement) (tables : Tables) (p : Passage) (rounds : List ℕ) (h : Here) : Type 0 where
  pub place : h.place ≡ record { step = p.count; number = p.number; line = p.statement.line }
  pub source : h.source.now ≡ s
  pub code : h.loaded.now.statements ≡ ss
  pub tables_are : h.standing.tables.now ≡ tables
  pub variables : h.standing.variables.now ≡ p.after.variables
  pub rounds_are : h.standing.rounds.now ≡ rounds

-- at the last of these steps, and at those before it
last_fit : (n : ℕ) (ps : List Passage) (p : Passage) → AllByRecursion (λ (q : Passage). length q.after.variables ≡ n) (ps ++ p ∷ []) → length p.after.variables ≡ n
last_fit n [] p h = h.0
last_fit n (q ∷ ps) p h = last_fit n ps p h.1

front_fit : (n : ℕ) (ps qs : List Passage) → AllByRecursion (λ (q : Passage). length q.after.variables ≡ n) (ps ++ qs) → AllByRecursion (λ (q : Passage). length q.after.variables ≡ n) ps
front_fit n [] qs h = tt
front_fit n (q ∷ ps) qs h = (h.0, front_fit n ps qs h.1)

front_told : (from : Backtraces) (s : Option Sourced) (ss : List CodeStatement) (tables : Tables) (rounds : List ℕ) (n : ℕ) (ps qs : List Passage)
    → AreToldBy from s ss tables rounds n (ps ++ qs) → AreToldBy from s ss tables rounds n ps
front_told from s ss tables rounds n ps qs h = record { told = told_front from s ss tables rounds ps qs h.told; fit = front_fit n ps qs h.fit }

module _ (s : Option Sourced) (ss : List CodeStatement) (tables : Tables) (part : Workpiece) (boxes : List ProbeBox) (rounds : List ℕ) (rooms : List Room) (kept : List Past) (count : ℕ)
    (old mid : Page) (behind : List ℕ) (between : List Room) (held : List Past) (sum : ℕ) (ps : List Passage)
    (tried : HasTried s ss tables part boxes rounds rooms kept count old behind between held sum mid ps) (p : Passage) (h : Here) (is : IsHere s ss tables p (round_on behind p) h) where
  more_in : ways_along part ps ++ placed_ways part p ≡ ways_along part (ps ++ p ∷ [])
  more_in = flat_map_more (placed_ways part) [] ps p

  lines_in : (from : Backtraces) → run_lines from part.blocks boxes true (ways_along part ps) ++ run_lines from part.blocks boxes (is_empty (ways_along part ps)) (placed_ways part p)
      ≡ run_lines from part.blocks boxes true (ways_along part (ps ++ p ∷ []))
  lines_in from = more_lines from part.blocks boxes (ways_along part ps) (placed_ways part p) ∙ ap (run_lines from part.blocks boxes true) more_in

  ways_are : placed_at h.place (ways_in part (step_marks part p)) ≡ placed_ways part p
  ways_are = ap (λ m. placed_at m (ways_in part (step_marks part p))) is.place

  rounds_on : rounds_along rounds (ps ++ p ∷ []) ≡ round_on behind p
  rounds_on = along_more rounds ps (p ∷ []) ∙ ap (λ r. round_on r p) (sym tried.0)

  -- the backtrace of its statement is told
  here_is : here_text h ≡ backtrace_lines s ss tables p.after.variables (round_on behind p) p.number
  here_is =
      ap (λ x. backtrace_lines x h.loaded.now.statements h.standing.tables.now h.standing.variables.now h.standing.rounds.now h.place.number) is.source
      ∙ ap (λ x. backtrace_lines s x h.standing.tables.now h.standing.variables.now h.standing.rounds.now h.place.number) is.code
      ∙ ap (λ x. backtrace_lines s ss x h.standing.variables.now h.standing.rounds.now h.place.number) is.tables_are
      ∙ ap (λ x. backtrace_lines s ss tables x h.standing.rounds.now h.place.number) is.variables
      ∙ ap (λ x. backtrace_lines s ss tables p.after.variables x h.place.number) is.rounds_are
      ∙ ap (λ (m : Moment). backtrace_lines s ss tables p.after.variables (round_on behind p) m.number) is.place

  by_is : past_text h.source.now h.loaded.now.statements h.standing.tables.now ≡ past_text s ss tables
  by_is =
      ap (λ x. past_text x h.loaded.now.statements h.standing.tables.now) is.source
      ∙ ap (λ x. past_text s x h.standing.tables.now) is.code
      ∙ ap (past_text s ss) is.tables_are

  module _ (from : Backtraces) (n : ℕ) (told : AreToldBy from s ss tables rounds n (ps ++ p ∷ [])) where
    tells : from h.place.step h.place.number ≡ here_text h
    tells =
        ap (λ (m : Moment). from m.step m.number) is.place
        ∙ told_last from s ss tables rounds ps p told.told
        ∙ ap (λ r. backtrace_lines s ss tables p.after.variables r p.number) rounds_on
        ∙ sym here_is

    many : length h.standing.variables.now ≡ n
    many = ap length is.variables ∙ last_fit n ps p told.fit

    to_here : (rs : List Room) (ks : List Past) → AreKept from (past_text s ss tables) n rs ks
        → AreKept from (past_text h.source.now h.loaded.now.statements h.standing.tables.now) (length h.standing.variables.now) rs ks
    to_here rs ks a = subst (λ f. AreKept from f (length h.standing.variables.now) rs ks) (sym by_is) (subst (λ k. AreKept from (past_text s ss tables) k rs ks) (sym many) a)

    of_here : (rs : List Room) (ks : List Past) → AreKept from (past_text h.source.now h.loaded.now.statements h.standing.tables.now) (length h.standing.variables.now) rs ks
        → AreKept from (past_text s ss tables) n rs ks
    of_here rs ks a = subst (λ k. AreKept from (past_text s ss tables) k rs ks) many (subst (λ f. AreKept from f (length h.standing.variables.now) rs ks) by_is a)

  pub step_tried : (after : List Room) (left : List Past) (total : ℕ) (new : Page) → AreAdded h part.blocks boxes (ways_in part (step_marks part p)) between held sum mid after left total new
      → (later : List ℕ) → later ≡ round_on behind p → HasTried s ss tables part boxes rounds rooms kept count old later after left total new (ps ++ p ∷ [])
  step_tried after left total new added later e = (
    e ∙ sym rounds_on,
    λ from n told start at. (let so_far = tried.1 from n (front_told from s ss tables rounds n ps (p ∷ []) told) start at in
        let now = added (ways_along part ps) so_far.0 in (
          subst (λ l. IsDone part.blocks boxes l after total) (ap (λ l. ways_along part ps ++ l) ways_are ∙ more_in) now.0,
          adds_more old mid new _ _ _ (lines_in from) so_far.1
              (subst (λ l. Adds mid new (run_lines from part.blocks boxes (is_empty (ways_along part ps)) l)) ways_are (now.1 from (tells from n told))),
          of_here from n told after left (now.2 from (tells from n told) (to_here from n told between held so_far.2)),
        )),
  )

  pub step_broken : (new : Page) → AreCut h part.blocks boxes (ways_in part (step_marks part p)) between sum mid new → (n : ℕ) → n ≡ p.count
      → HasBroken s ss tables part boxes rounds rooms kept count old new ps p (faults.Write n)
  step_broken new cut n e = (
    e,
    λ from n told start at. (let so_far = tried.1 from n (front_told from s ss tables rounds n ps (p ∷ []) told) start at in
        adds_front_then old mid new _ _ _ (lines_in from) so_far.1
        (subst (λ l. AddsFront mid new (run_lines from part.blocks boxes (is_empty (ways_along part ps)) l)) ways_are (cut (ways_along part ps) so_far.0 from (tells from n told)))),
  )

-- ---- the end of a run

module _ (part : Workpiece) (valid : IsValid part) (boxes : List ProbeBox) (are : AreBoxes boxes) (c : Code) (n : ℕ) where
  -- the ways of a run begin with those of its first steps
  ways_front : (k : ℕ) → k ≤ n → (rest : List PlacedWay) × (ways_along part (passages part c k) ++ rest ≡ ways_of part c n)
  ways_front k l =
      let r = rest_of part c k (n - k) in
      let all : k + (n - k) ≡ n = omega (arith, l) in
      (flat_map (placed_ways part) r.0, sym (flat_map-append (placed_ways part) (passages part c k) r.0) ∙ ap (ways_along part) r.1 ∙ ap (λ i. ways_along part (passages part c i)) all)

  -- the backtraces of the statements of its steps are told
  told_by : (s : Option Sourced) (k : ℕ) → AreToldBy (backtrace_at s part c) s c.statements c.tables (replicate 32 0) (length c.tables.variables) (passages part c k)
  told_by s k = record { told = told_along s part c k; fit = as_many_along part c k }

  -- what is kept before the first way
  pub opened_at : (s : Option Sourced) (rooms : List Room) (kept : List Past) → rooms ≡ opening boxes → kept ≡ opening_kept (length c.tables.variables) boxes
      → AreKept (backtrace_at s part c) (past_text s c.statements c.tables) (length c.tables.variables) rooms kept
  opened_at s rooms kept e f =
      subst (λ r. AreKept (backtrace_at s part c) (past_text s c.statements c.tables) (length c.tables.variables) r kept) (sym e)
      (subst (AreKept (backtrace_at s part c) (past_text s c.statements c.tables) (length c.tables.variables) (opening boxes)) (sym f)
      (opened_kept (backtrace_at s part c) (past_text s c.statements c.tables) (length c.tables.variables) boxes))

  -- a line of a contact could not be written
  broken_there : (untried : List ℕ) (s : Option Sourced) (rooms : List Room) (kept : List Past) (count : ℕ) (old new : Page) → IsDone part.blocks boxes [] rooms count
      → AreKept (backtrace_at s part c) (past_text s c.statements c.tables) (length c.tables.variables) rooms kept → (f : Unfinished)
      → IsBroken n part c (λ ps p. HasBroken s c.statements c.tables part boxes (replicate 32 0) rooms kept count old new ps p f)
      → IsNotCleared old.names untried s part boxes c n f old.contents new.contents
  broken_there untried s rooms kept count old new start at faults.NoMemory i = absurd i.broken
  broken_there untried s rooms kept count old new start at (faults.Memory done) i = absurd i.broken
  broken_there untried s rooms kept count old new start at (faults.Write done) i =
      let from = backtrace_at s part c in
      let k = suc i.done in
      let r = ways_front k (let t = taken_most part c n in let u = i.taken in omega (arith, t, u)) in
      let told = subst (AreToldBy from s c.statements c.tables (replicate 32 0) (length c.tables.variables)) i.passages_are (told_by s k) in
      let front : AddsFront old new (run_lines from part.blocks boxes true (ways_along part (passages part c k))) =
      subst (λ ps. AddsFront old new (run_lines from part.blocks boxes true (ways_along part ps))) (sym i.passages_are) (i.broken.1 from (length c.tables.variables) told start at) in
      let more = run_lines from part.blocks boxes (is_empty (ways_along part (passages part c k))) r.0 in
      let lines : run_lines from part.blocks boxes true (ways_along part (passages part c k)) ++ more ≡ contact_lines s part boxes c n =
      more_lines from part.blocks boxes (ways_along part (passages part c k)) r.0 ∙ ap (run_lines from part.blocks boxes true) r.1 in
      let all = rooms_exist part.blocks valid.each (ways_of part c n) boxes (box_at boxes are) in
      record {
        rooms = all.0;
        are_rooms = all.1;
        front = (adds_front_first old new (contact_lines s part boxes c n) (summary from untried boxes c (ways_of part c n) all.0 (state_after part c n).world.stop (steps_taken part c n))
            (clearance_lines untried s part boxes c n all.0) refl (adds_front_first old new _ more _ lines front)).front;
      }

  pub broken_off : (untried : List ℕ) (s : Option Sourced) (rooms : List Room) (kept : List Past) (count : ℕ) (old new : Page) → IsDone part.blocks boxes [] rooms count
      → AreKept (backtrace_at s part c) (past_text s c.statements c.tables) (length c.tables.variables) rooms kept → (f : Unfinished) (l : Code) → l ≡ c → (beside : Workpiece) → beside ≡ part
      → IsBroken n beside c (λ ps p. HasBroken s l.statements c.tables part boxes (replicate 32 0) rooms kept count old new ps p f)
      → IsNotCleared old.names untried s part boxes c n f old.contents new.contents
  broken_off untried s rooms kept count old new start at f l same beside e i =
      broken_there untried s rooms kept count old new start at f
      (subst (λ (x : Code). IsBroken n part c (λ ps p. HasBroken s x.statements c.tables part boxes (replicate 32 0) rooms kept count old new ps p f)) same
      (subst (λ (w : Workpiece). IsBroken n w c (λ ps p. HasBroken s l.statements c.tables part boxes (replicate 32 0) rooms kept count old new ps p f)) e i))

  module _ (first m : Running) (ran : Ran) (is : first ≡ started part c) (run : HasRun n first m ran) where
    ended : RunEnded n (started part c) m ran.done ran.end
    ended = subst (λ o. RunEnded n o m ran.done ran.end) is run.ended

    state : m.state ≡ state_after part c ran.done
    state = ap (λ r. r.state) run.new_is ∙ ap (λ o. code_steps (setup_of o.part o.code.tables) o.code.statements ran.done o.state) is

    -- the tables are those of the code
    pub tables_are : m.code.tables ≡ c.tables
    tables_are = ap (λ r. r.code.tables) run.new_is ∙ ap (λ o. o.code.tables) is

    -- a run that memory did not cut short
    record IsWhole (stop : Option StopPlace) : Type 0 where
      ways : ways_along part (passages part c ran.done) ≡ ways_of part c n
      steps : ran.done ≡ steps_taken part c n
      stop_is : stop ≡ (state_after part c n).world.stop

    whole_by : (end : End) → RunEnded n (started part c) m ran.done end → (end ≡ ends.NoMemory → ⊥) → (stop : Option StopPlace) → stop ≡ m.state.world.stop → IsWhole stop
    whole_by ends.NoMemory r ample stop s = absurd (ample refl)
    whole_by ends.Stopped r ample stop s =
        let here : (state_after part c ran.done).world.stop ≡ Some r.1.0 = ap (λ x. x.world.stop) (sym state) ∙ r.1.1 in
        record {
          ways = ap (ways_along part) (sym (passages_stopped part c n ran.done r.1.0 r.0 here));
          steps = r.0;
          stop_is = s ∙ ap (λ x. x.world.stop) state ∙ ap (λ x. x.world.stop) (sym (state_stopped part c n ran.done r.0));
        }
    whole_by ends.Count r ample stop s = record {
      ways = ap (λ i. ways_along part (passages part c i)) r.0;
      steps = r.0 ∙ r.1;
      stop_is = s ∙ ap (λ x. x.world.stop) state ∙ ap (λ i. (state_after part c i).world.stop) r.0;
    }

    module _ (s : Option Sourced) (rooms after : List Room) (kept left : List Past) (sum : ℕ) (old mid : Page) (behind : List ℕ) (start : IsDone part.blocks boxes [] rooms 0)
        (at : AreKept (backtrace_at s part c) (past_text s c.statements c.tables) (length c.tables.variables) rooms kept)
        (l : Code) (same_code : l ≡ c) (beside : Workpiece) (beside_is : beside ≡ part)
        (there : HasTried s l.statements c.tables part boxes (replicate 32 0) rooms kept 0 old behind after left sum mid (passages beside c ran.done)) where
      abbrev from : Backtraces
      from = backtrace_at s part c

      tried : HasTried s c.statements c.tables part boxes (replicate 32 0) rooms kept 0 old behind after left sum mid (passages part c ran.done)
      tried =
          subst (λ (x : Code). HasTried s x.statements c.tables part boxes (replicate 32 0) rooms kept 0 old behind after left sum mid (passages part c ran.done)) same_code
          (subst (λ (w : Workpiece). HasTried s l.statements c.tables part boxes (replicate 32 0) rooms kept 0 old behind after left sum mid (passages w c ran.done)) beside_is there)

      done_is : IsDone part.blocks boxes (ways_along part (passages part c ran.done)) after sum × Adds old mid (run_lines from part.blocks boxes true (ways_along part (passages part c ran.done)))
          × AreKept from (past_text s c.statements c.tables) (length c.tables.variables) after left
      done_is = tried.1 from (length c.tables.variables) (told_by s ran.done) start at

      -- memory was refused to a step
      pub halted : ran.end ≡ ends.NoMemory → IsHalted old.names s part boxes c n ran.done old.contents mid.contents
      halted e = record {
        halted = subst (λ o. RunEnded n (started part c) (later ran.done o) ran.done ends.NoMemory) is
            (subst (λ r. RunEnded n (started part c) r ran.done ends.NoMemory) run.new_is (subst (λ x. RunEnded n (started part c) m ran.done x) e ended));
        written = done_is.1.written;
      }

      module _ (untried : List ℕ) (ample : ran.end ≡ ends.NoMemory → ⊥) (stop : Option StopPlace) (stop_is : stop ≡ m.state.world.stop) where
        whole : IsWhole stop
        whole = whole_by ran.end ended ample stop stop_is

        are_rooms : AreRooms part.blocks boxes (ways_of part c n) after
        are_rooms = subst (λ l. AreRooms part.blocks boxes l after) whole.ways done_is.0.are_rooms

        lines : Adds old mid (contact_lines s part boxes c n)
        lines = subst (λ l. Adds old mid (run_lines from part.blocks boxes true l)) whole.ways done_is.1

        summary_is : summary from untried boxes c (ways_of part c n) after stop ran.done ≡ summary from untried boxes c (ways_of part c n) after (state_after part c n).world.stop (steps_taken part c n)
        summary_is =
            ap (λ o. summary from untried boxes c (ways_of part c n) after o ran.done) whole.stop_is
            ∙ ap (summary from untried boxes c (ways_of part c n) after (state_after part c n).world.stop) whole.steps

        count_is : sum ≡ counted (length (ways_of part c n))
        count_is = done_is.0.counted_is ∙ ap (λ l. counted (length l)) whole.ways

        abbrev end_lines : List Line
        end_lines = plain (ways_text untried sum) ∷ kept_lines (past_text s c.statements c.tables) boxes after left ++ last_line c.tables stop ran.done ∷ []

        end_is : end_lines ≡ summary from untried boxes c (ways_of part c n) after (state_after part c n).world.stop (steps_taken part c n)
        end_is =
            ap (λ l. plain (ways_text untried sum) ∷ l ++ last_line c.tables stop ran.done ∷ []) (lines_kept from (past_text s c.statements c.tables) (length c.tables.variables) boxes after left done_is.2)
            ∙ ap (λ k. plain (ways_text untried k) ∷ boxes_lines from boxes after ++ last_line c.tables stop ran.done ∷ []) count_is ∙ summary_is

        -- what was written by what is the same
        abbrev lines_by : List ProbeBox → List Room → List Past → Tables → Tables → List Line
        lines_by bs known ks t u = plain (ways_text untried sum) ∷ kept_lines (past_text s l.statements t) bs known ks ++ last_line u stop ran.done ∷ []

        module _ (bs : List ProbeBox) (known : List Room) (ks : List Past) (t u : Tables) (bs_are : bs ≡ boxes) (known_are : known ≡ after) (ks_are : ks ≡ left) (t_is : t ≡ c.tables)
            (u_is : u ≡ c.tables) where
          end_same : lines_by bs known ks t u ≡ end_lines
          end_same =
              ap (λ x. lines_by x known ks t u) bs_are ∙ ap (λ x. lines_by boxes x ks t u) known_are ∙ ap (λ x. lines_by boxes after x t u) ks_are
              ∙ ap (λ x. lines_by boxes after left x u) t_is ∙ ap (λ x. lines_by boxes after left c.tables x) u_is
              ∙ ap (λ (x : Code). plain (ways_text untried sum) ∷ kept_lines (past_text s x.statements c.tables) boxes after left ++ last_line c.tables stop ran.done ∷ []) same_code

          -- all was written
          pub cleared : (told : Cleared) (new : Page) → told.is_met ≡ list_any is_met_room known → told.stop ≡ stop → Adds mid new (lines_by bs known ks t u)
              → IsClearance old.names untried s part boxes c n told old.contents new.contents
          cleared told new met same w = record {
            rooms = after;
            are_rooms = are_rooms;
            is_met = met ∙ ap (list_any is_met_room) known_are;
            stop = same ∙ whole.stop_is;
            written = (adds_more old mid new _ _ _ (ap (λ x. contact_lines s part boxes c n ++ x) (end_same ∙ end_is)) lines w).written;
          }

          -- what comes behind the contacts could not be written
          pub cut_off : (new : Page) → AddsFront mid new (lines_by bs known ks t u) → IsCutOff old.names untried s part boxes c n old.contents new.contents
          cut_off new w = record {
            rooms = after;
            are_rooms = are_rooms;
            front = (adds_front_then old mid new _ _ _ (ap (λ x. contact_lines s part boxes c n ++ x) (end_same ∙ end_is)) lines w).front;
          }

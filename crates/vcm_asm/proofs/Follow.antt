-- The flat code follows the statement table, step by step.
use Rattle.std.proofs.Common.{◌≡◌, ℕ, zero, suc, ◌+◌, List, [], ◌∷◌, length, Option, Some, None, refl, sym, ap, ◌∙◌, subst}
use Rattle.std.specs.Prelude.{ℤ, IsTrue, slice_get}
use Rattle.vcm_spec.specs.declared.stop.Stop.TheVariants.{ZeroStep}
use Rattle.vcm_spec.specs.declared.stop.StopPlace.{StopPlace}
use Rattle.vcm_spec.specs.Expression.{Tree, spelling}
use Rattle.vcm_spec.specs.Simple.{Simple, with_form}
use Rattle.vcm_spec.specs.declared.simple.Simple.TheVariants.{GoHome}
use Rattle.vcm_spec.specs.Setup.{Setup}
use Rattle.vcm_spec.specs.World.{World, stopped}
use Rattle.vcm_spec.specs.Control.{with_next_index, is_past}
use Rattle.vcm_spec.specs.Program.{Label as Name, Node, Block, simple, label, jump, choice, choice_else, do_loop, meas, select, ending, done, then, sizes, node_at, number_at}
use Rattle.vcm_spec.specs.Table.{Entry, Rest, Closes, Loop, State, state, front, next_number, if_true, at_node, act, unless_stopped, step, steps, opening}
use Rattle.vcm_spec.specs.Printing.{prints, takes_memory, next_node}
use Rattle.vcm_spec.specs.Whole.{is_closed}
use Rattle.vcm_code.specs.declared.pair.Pair.{Pair}
use Rattle.vcm_code.specs.declared.op.Op.TheVariants.{EndDo}
use Rattle.vcm_code.specs.Code.{CodeStatement}
use Rattle.vcm_code.specs.CodeTable.{CodeState, code_state, or_halt, turn, fetched, code_step, code_steps, start, next_prints}
use Rattle.vcm_asm.specs.Simulation.{SameAfter}
use Rattle.vcm_asm.specs.Assembled.{marks, node_code, place_in, flat_code}
use Rattle.vcm_asm.proofs.Structured.{IsStructured}
use Rattle.vcm_asm.proofs.Place.{HasAt, has_all, number_zero, has_node, once_marked}
use Rattle.vcm_asm.proofs.Remainder.{Bottom, bottom_push, bottom_pop, Live, Placed as PlacedIn, Sits as SitsIn, in_front, number_is, Matched as MatchedIn}
use Rattle.vcm_asm.proofs.NodeSteps.{At, fork, choose, with_op, node_follows}

module _ (setup : Setup) (code : List CodeStatement) (to : Name → ℕ) where
  -- those of this code
  abbrev Sits : List Pair → List Entry → ℕ → ℕ → Type 0
  Sits = SitsIn setup code to

  abbrev Matched : State → CodeState → Type 0
  Matched = MatchedIn setup code to

  -- an ENDDO
  loop_follows : (ps : List Pair) (at v : ℕ) (b : Block) (c : ℕ) (lim inc : ℤ) (es : List Entry) (d : ℕ) (old : List Entry) (w : World)
      → Sits ps (Loop at v b c lim inc ∷ es) (suc d) (at + 1 + sizes b) → Bottom (Loop at v b c lim inc ∷ es) → length ps ≡ 32
      → Sits ps old (suc d) (at + 1 + sizes b) → Bottom old
      → Matched (act setup (Loop at v b c lim inc ∷ es) w old) (fetched setup (slice_get code (at + 1 + sizes b)) w (at + 1 + sizes b) ps)
  loop_follows ps at v b c lim inc es d old w h bot room old_sits old_bottom =
      with_op setup code to s (EndDo v d (at + 1)) c w num ps (h.0).op
      (subst (λ o. Matched s (turn o w num c v (at + 1) ps)) (sym (h.0).saved)
      (subst (λ t. Matched s (if_true t (code_state (stopped w ZeroStep num c) num ps) (or_halt (with_next_index w v inc) w num c ps g))) (sym (h.0).moves)
      (fork setup code to (with_next_index w v inc) (with_next_index w v inc) refl w num c old ps f g
      (λ k. record { world = refl; depth = suc d; sits = old_sits; bottom = old_bottom; room = room })
      (λ w'. choose setup code to (is_past w' v lim inc) _ _ _ _
      (λ e. record { world = refl; depth = d; sits = h.2; bottom = bottom_pop (Loop at v b c lim inc) es (λ x. x) bot; room = room })
      (λ e. record { world = refl; depth = suc d; sits = (sym (number_zero b (at + 1)), h.1, h); bottom = bottom_push (Rest b (at + 1) 0) (Loop at v b c lim inc ∷ es) bot; room = room })))))
    where
      num : ℕ
      num = at + 1 + sizes b

      s : State
      s = act setup (Loop at v b c lim inc ∷ es) w old

      f : World → State
      f = λ w'. if_true (is_past w' v lim inc) (state w' es) (state w' (Rest b (at + 1) 0 ∷ Loop at v b c lim inc ∷ es))

      g : World → CodeState
      g = λ w'. if_true (is_past w' v lim inc) (code_state w' (num + 1) ps) (code_state w' (at + 1) ps)

  -- one step at the front
  act_follows : (ps : List Pair) (fs : List Entry) (d pc : ℕ) (old : List Entry) (w : World) → Sits ps fs d pc → Bottom fs → Live fs → length ps ≡ 32
      → Sits ps old d pc → Bottom old → Matched (act setup fs w old) (fetched setup (slice_get code pc) w pc ps)
  act_follows ps [] d pc old w h bot live room old_sits old_bottom = absurd live
  act_follows ps (Rest b base i ∷ es) d pc old w h bot live room old_sits old_bottom =
      let num = number_at b base i in
      let a : At setup code to ps b base i es d old live.0 =
      record {
        node = live.1;
        placed = h.1;
        rest = h.2;
        bottom = bot;
        room = room;
        old_sits = subst (λ k. Sits ps old d k) h.0 old_sits;
        old_bottom =
            old_bottom;
      } in
      subst (λ k. Matched (act setup (Rest b base i ∷ es) w old) (fetched setup (slice_get code k) w k ps)) (sym h.0)
      (subst (λ o. Matched (at_node setup o num w old (Rest b base i ∷ es) (Rest b base (suc i) ∷ es)) (fetched setup (slice_get code num) w num ps)) (sym live.1)
      (node_follows setup code to ps b base i es d old w live.0 a))
  act_follows ps (Closes n ∷ es) d pc old w h bot live room old_sits old_bottom =
      subst (λ m. Matched (state w es) m) (sym ((h.2).goes w ps))
      (record { world = refl; depth = d; sits = h.3; bottom = bottom_pop (Closes n) es (λ x. x) bot; room = room })
  act_follows ps (Loop at v b c lim inc ∷ es) zero pc old w h bot live room old_sits old_bottom = absurd h
  act_follows ps (Loop at v b c lim inc ∷ es) (suc d) pc old w h bot live room old_sits old_bottom =
      let e = (h.0).number in
      subst (λ k. Matched (act setup (Loop at v b c lim inc ∷ es) w old) (fetched setup (slice_get code k) w k ps)) (sym e)
      (loop_follows ps at v b c lim inc es d old w (subst (λ k. Sits ps (Loop at v b c lim inc ∷ es) (suc d) k) e h) bot room (subst (λ k. Sits ps old (suc d) k) e old_sits) old_bottom)

  unless : (o : Option StopPlace) (a b : State) (c d : CodeState) → Matched a c → Matched b d → Matched (unless_stopped o a b) (unless_stopped o c d)
  unless (Some s) a b c d h k = h
  unless None a b c d h k = k

  -- one step
  step_follows : (s : State) (m : CodeState) → Matched s m → Matched (step setup s) (code_step setup code m)
  step_follows s m h =
      let in_one : Matched s (code_state s.world m.next m.pairs) = record { world = refl; depth = h.depth; sits = h.sits; bottom = h.bottom; room = h.room } in
      let fr = in_front setup code to m.pairs s.entries h.depth m.next h.sits h.bottom in
      subst (λ x. Matched (step setup s) (code_step setup code (code_state x m.next m.pairs))) (sym h.world)
      (unless s.world.stop s (act setup (front s.entries) s.world s.entries) (code_state s.world m.next m.pairs) (fetched setup (slice_get code m.next) s.world m.next m.pairs) in_one
      (act_follows m.pairs (front s.entries) h.depth m.next s.entries s.world fr.0 fr.1 fr.2 h.room h.sits h.bottom))

  steps_follow : (n : ℕ) (s : State) (m : CodeState) → Matched s m → Matched (steps setup n s) (code_steps setup code n m)
  steps_follow zero s m h = h
  steps_follow (suc n) s m h = steps_follow n (step setup s) (code_step setup code m) (step_follows s m h)

  same_after : (s : State) (m : CodeState) → Matched s m → m.next ≡ next_number s.entries
  same_after s m h =
      let fr = in_front setup code to m.pairs s.entries h.depth m.next h.sits h.bottom in
      number_is setup code to m.pairs (front s.entries) h.depth m.next fr.0 fr.2

  -- the code prints where the program does
  simple_prints : (what : Simple Tree) → prints (with_form spelling what) ≡ prints what
  simple_prints GoHome = refl
  simple_prints _ = refl

  node_prints : (n : Node) (d at : ℕ) → HasAt code at (node_code to n d at) → next_prints (slice_get code at) ≡ takes_memory (Some n)
  node_prints (simple line what) d at h = ap next_prints h.0 ∙ simple_prints what
  node_prints (label line l) d at h = ap next_prints h.0
  node_prints (jump line l) d at h = ap next_prints h.0
  node_prints (choice line test first close) d at h = ap next_prints h.0
  node_prints (choice_else line test first mid second close) d at h = ap next_prints h.0
  node_prints (do_loop line v initial limit increment body close) d at h = ap next_prints h.0
  node_prints (meas line feature body close) d at h = ap next_prints h.0
  node_prints (select line value cases close) d at h = ap next_prints h.0
  node_prints (ending line) d at h = ap next_prints h.0

  front_prints : (ps : List Pair) (fs : List Entry) (d pc : ℕ) → Sits ps fs d pc → Live fs → next_prints (slice_get code pc) ≡ takes_memory (next_node fs)
  front_prints ps [] d pc h live = absurd live
  front_prints ps (Rest b base i ∷ es) d pc h live =
      ap (λ k. next_prints (slice_get code k)) h.0
      ∙ node_prints live.0 d (number_at b base i) (has_node code to b d base i live.0 live.1 (h.1).has)
      ∙ sym (ap takes_memory live.1)
  front_prints ps (Closes n ∷ es) d pc h live = (h.2).silent
  front_prints ps (Loop at v b c lim inc ∷ es) zero pc h live = absurd h
  front_prints ps (Loop at v b c lim inc ∷ es) (suc d) pc h live = ap next_prints (h.0).op

  prints_after : (s : State) (m : CodeState) → Matched s m → next_prints (slice_get code m.next) ≡ takes_memory (next_node (front s.entries))
  prints_after s m h =
      let fr = in_front setup code to m.pairs s.entries h.depth m.next h.sits h.bottom in
      front_prints m.pairs (front s.entries) h.depth m.next fr.0 fr.2

first_node : (b : Block) → IsTrue (is_closed b) → (n : Node) × (node_at b 0 ≡ Some n)
first_node done h = absurd cc
first_node (then n b) h = (n, refl)

-- the program and its code, from the start on
matched : (setup : Setup) (program : Block) → IsTrue (is_closed program) → IsStructured program → (n : ℕ)
    → MatchedIn setup (flat_code program) (place_in (marks program 0)) (steps setup n (opening setup program)) (code_steps setup (flat_code program) n (start setup))
matched setup program closed a n =
    steps_follow setup (flat_code program) (place_in (marks program 0)) n (opening setup program) (start setup) begins
  where
    placed : PlacedIn setup (flat_code program) (place_in (marks program 0)) 0 0 program []
    placed = record { has = has_all (flat_code program) []; jumps = a.jumps; marked = once_marked (marks program 0) a.once; deep = a.deep }

    begins : MatchedIn setup (flat_code program) (place_in (marks program 0)) (opening setup program) (start setup)
    begins = record { world = refl; depth = 0; sits = (sym (number_zero program 0), placed, tt); bottom = (first_node program closed, closed); room = refl }

-- so they are in the same state after each number of steps
pub same : (setup : Setup) (program : Block) → IsTrue (is_closed program) → IsStructured program → (n : ℕ) → SameAfter setup program (flat_code program) n
same setup program closed a n =
    let h = matched setup program closed a n in
    let s = steps setup n (opening setup program) in
    let m = code_steps setup (flat_code program) n (start setup) in
    record {
      world = h.world;
      next = same_after setup (flat_code program) (place_in (marks program 0)) s m h;
      prints = prints_after setup (flat_code program) (place_in (marks program 0)) s m h;
    }

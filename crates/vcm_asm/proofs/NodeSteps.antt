-- One step at a node: the flat code goes where the statement table goes.
use Rattle.std.proofs.Common.{◌≡◌, ℕ, suc, ◌+◌, ◌<◌, List, [], ◌∷◌, ◌++◌, length, Option, Some, None, Bool, true, false, refl, sym, ◌∙◌, subst, arith}
use Rattle.std.specs.Prelude.{ℤ, slice_get, slice_set}
use Rattle.std.proofs.Math.ListN.{length-set}
use Rattle.vcm_spec.specs.declared.stop.Stop.{Stop}
use Rattle.vcm_spec.specs.declared.stop.Stop.TheVariants.{Ended, ZeroStep}
use Rattle.vcm_spec.specs.Expression.{Tree, spelling}
use Rattle.vcm_spec.specs.Value.{value_of, items_value}
use Rattle.vcm_spec.specs.Simple.{Simple, with_form}
use Rattle.vcm_spec.specs.Setup.{Setup}
use Rattle.vcm_spec.specs.World.{World, stopped, with_variable}
use Rattle.vcm_spec.specs.Outcome.{Outcome, Gives, Stops}
use Rattle.vcm_spec.specs.Effect.{effect, value_in}
use Rattle.vcm_spec.specs.Control.{test_in, is_zero, is_past}
use Rattle.vcm_spec.specs.Program.{Label as Name, Node, Block, Cases, simple, label, jump, choice, choice_else, do_loop, meas, select, ending, size, sizes, case_sizes, node_at, number_at, chosen}
use Rattle.vcm_spec.specs.Table.{Entry, Rest, Closes, Loop, State, state, or_stop, if_true, selected, at_node, step}
use Rattle.vcm_spec.proofs.Postfix.{value_in-spelling, test_in-spelling, effect-spelling}
use Rattle.vcm_spec.specs.Whole.{is_end, NodeJumps}
use Rattle.vcm_code.specs.declared.pair.Pair.{Pair}
use Rattle.vcm_code.specs.declared.op.Op.TheVariants.{Plain, If, Else, EndIf, Do, Label, JumpTo, Meas, EndMes, Select, EndCas, EndSel, EndFil}
use Rattle.vcm_code.specs.Code.{Op, CodeStatement, statement}
use Rattle.vcm_code.specs.CodeTable.{pair, CodeState, code_state, or_halt, target_for, do_op, fetched}
use Rattle.vcm_asm.specs.inner.Depth.{NodeDeep}
use Rattle.vcm_asm.specs.Assembled.{node_marks, marks, node_code, block_code, case_code, branches_of, last_target}
use Rattle.vcm_asm.proofs.Place.{HasAt, has_front, has_back, block_length, cases_length, number_zero, number_next, has_node, jumps_at, deep_at, Marked, marked_front, marked_back, marked_at}
use Rattle.vcm_spec.proofs.NeverStuck.{closed_next}
use Rattle.vcm_asm.proofs.Chosen.{CasesPlaced, IsSelected, selected_is}
use Rattle.vcm_asm.proofs.Remainder.{scopes, get_set_same, Bottom, bottom_push, bottom_move, Placed as PlacedIn, Goes, Turns, Sits as SitsIn, sits_set, goes_by, landed, Matched as MatchedIn}

module _ (setup : Setup) (code : List CodeStatement) (to : Name → ℕ) where
  -- those of this code
  abbrev pub Placed : ℕ → ℕ → Block → List Block → Type 0
  Placed = PlacedIn setup code to

  abbrev pub Sits : List Pair → List Entry → ℕ → ℕ → Type 0
  Sits = SitsIn setup code to

  abbrev pub Matched : State → CodeState → Type 0
  Matched = MatchedIn setup code to

  -- what may stop
  pub fork : {A : Type 0} (o o' : Outcome A) → o' ≡ o → (w : World) (number line : ℕ) (old : List Entry) (ps : List Pair) (f : A → State) (g : A → CodeState)
      → ((k : Stop) → Matched (state (stopped w k number line) old) (code_state (stopped w k number line) number ps)) → ((x : A) → Matched (f x) (g x))
      → Matched (or_stop o w number line old f) (or_halt o' w number line ps g)
  fork {A = A} o o' e w number line old ps f g s h =
      subst (λ x. Matched (or_stop o w number line old f) (or_halt x w number line ps g)) (sym e) (same o)
    where
      same : (o : Outcome A) → Matched (or_stop o w number line old f) (or_halt o w number line ps g)
      same (Gives x) = h x
      same (Stops k) = s k

  pub choose : (t : Bool) (a b : State) (c d : CodeState) → (t ≡ true → Matched a c) → (t ≡ false → Matched b d) → Matched (if_true t a b) (if_true t c d)
  choose true a b c d so not = so refl
  choose false a b c d so not = not refl

  pub with_op : (s : State) (op : Op) (line : ℕ) (w : World) (pc : ℕ) (ps : List Pair) → slice_get code pc ≡ Some (statement line op)
      → Matched s (do_op setup op line w pc ps) → Matched s (fetched setup (slice_get code pc) w pc ps)
  with_op s op line w pc ps e h = subst (λ o. Matched s (fetched setup o w pc ps)) (sym e) h

  -- the front, which is the i-th node of a block
  pub record At (ps : List Pair) (b : Block) (base i : ℕ) (es : List Entry) (d : ℕ) (old : List Entry) (n : Node) : Type 0 where
    pub node : node_at b i ≡ Some n
    pub placed : Placed d base b (scopes es)
    pub rest : Sits ps es d (base + sizes b)
    pub bottom : Bottom (Rest b base i ∷ es)
    pub room : length ps ≡ 32
    pub old_sits : Sits ps old d (number_at b base i)
    pub old_bottom : Bottom old

  module _ (ps : List Pair) (b : Block) (base i : ℕ) (es : List Entry) (d : ℕ) (old : List Entry) (w : World) where
    -- the number of the front
    abbrev pub num : ℕ
    num = number_at b base i

    abbrev pub on : List Entry
    on = Rest b base (suc i) ∷ es

    has : (n : Node) → At ps b base i es d old n → HasAt code num (node_code to n d num)
    has n a = has_node code to b d base i n a.node (a.placed).has

    stays : (n : Node) (line : ℕ) → At ps b base i es d old n → (k : Stop) → Matched (state (stopped w k num line) old) (code_state (stopped w k num line) num ps)
    stays n line a k = record { world = refl; depth = d; sits = a.old_sits; bottom = a.old_bottom; room = a.room }

    on_sits : (n : Node) (qs : List Pair) (pc : ℕ) → At ps b base i es d old n → Sits qs es d (base + sizes b) → num + size n ≡ pc → Sits qs on d pc
    on_sits n qs pc a rest e = (sym e ∙ sym (number_next b base i n a.node), a.placed, rest)

    on_bottom : (n : Node) → At ps b base i es d old n → is_end n ≡ false → Bottom on
    on_bottom n a not = bottom_move b base i (suc i) es (λ c. closed_next b i n c a.node not) a.bottom

    goes_on : (n : Node) (w' : World) (pc : ℕ) → At ps b base i es d old n → is_end n ≡ false → num + size n ≡ pc → Matched (state w' on) (code_state w' pc ps)
    goes_on n w' pc a not e = record { world = refl; depth = d; sits = on_sits n ps pc a a.rest e; bottom = on_bottom n a not; room = a.room }

    simple_follows : (line : ℕ) (what : Simple Tree) → At ps b base i es d old (simple line what)
        → Matched (at_node setup (Some (simple line what)) num w old (Rest b base i ∷ es) on) (fetched setup (slice_get code num) w num ps)
    simple_follows line what a =
        with_op _ (Plain (with_form spelling what)) line w num ps (has (simple line what) a).0
        (fork (effect value_of setup w what) (effect items_value setup w (with_form spelling what)) (effect-spelling setup w what) w num line old ps
        (λ w'. state w' on) (λ w'. code_state w' (num + 1) ps) (stays (simple line what) line a)
        (λ w'. goes_on (simple line what) w' (num + 1) a refl refl))

    label_follows : (line : ℕ) (l : Name) → At ps b base i es d old (label line l)
        → Matched (at_node setup (Some (label line l)) num w old (Rest b base i ∷ es) on) (fetched setup (slice_get code num) w num ps)
    label_follows line l a =
        with_op _ Label line w num ps (has (label line l) a).0 (goes_on (label line l) w (num + 1) a refl refl)

    ending_follows : (line : ℕ) → At ps b base i es d old (ending line) → Matched (at_node setup (Some (ending line)) num w old (Rest b base i ∷ es) on) (fetched setup (slice_get code num) w num ps)
    ending_follows line a =
        with_op _ EndFil line w num ps (has (ending line) a).0 (stays (ending line) line a Ended)

    jump_follows : (line : ℕ) (l : Name) → At ps b base i es d old (jump line l)
        → Matched (at_node setup (Some (jump line l)) num w old (Rest b base i ∷ es) on) (fetched setup (slice_get code num) w num ps)
    jump_follows line l a =
        let r = jumps_at b (b ∷ scopes es) i (jump line l) a.node (a.placed).jumps in
        let there = landed setup code to l ps (Rest b base i ∷ es) d num (refl, a.placed, a.rest) r a.bottom in
        with_op _ (JumpTo (to l)) line w num ps (has (jump line l) a).0 (record { world = refl; depth = there.0; sits = there.1; bottom = there.2; room = a.room })

    tail_at : (body : Block) (e pc : ℕ) (rest : List CodeStatement) → HasAt code pc (block_code to body e pc ++ rest) → HasAt code (pc + sizes body) rest
    tail_at body e pc rest h =
        subst (λ k. HasAt code (pc + k) rest) (block_length to body e pc) (has_back code pc (block_code to body e pc) rest h)

    -- what is known of the front node
    jumps_of : (n : Node) → At ps b base i es d old n → NodeJumps n (b ∷ scopes es)
    jumps_of n a = jumps_at b (b ∷ scopes es) i n a.node (a.placed).jumps

    marked_of : (n : Node) → At ps b base i es d old n → Marked to (node_marks n num)
    marked_of n a = marked_at to b base i n a.node (a.placed).marked

    deep_of : (n : Node) → At ps b base i es d old n → NodeDeep n d
    deep_of n a = deep_at b d i n a.node (a.placed).deep

    choice_follows : (line : ℕ) (test : Tree) (first : Block) (close : ℕ) → At ps b base i es d old (choice line test first close)
        → Matched (at_node setup (Some (choice line test first close)) num w old (Rest b base i ∷ es) on) (fetched setup (slice_get code num) w num ps)
    choice_follows line test first close a =
        with_op _ (If (spelling test) end) line w num ps h.0 (fork (test_in value_of w test) (test_in items_value w (spelling test)) (test_in-spelling w test) w num line old ps
        (λ t. if_true t (state w (Rest first (num + 1) 0 ∷ Closes end ∷ on)) (state w (Closes end ∷ on)))
        (λ t. if_true t (code_state w (num + 1) ps) (code_state w end ps))
        (stays n line a)
        (λ t. choose t _ _ _ _
        (λ e. record {
          world = refl;
          depth = d;
          sits = (sym (number_zero first (num + 1)), placed, closing);
          bottom =
              bottom_push (Rest first (num + 1) 0) (Closes end ∷ on) (bottom_push (Closes end) on (on_bottom n a refl));
          room = a.room;
        })
        (λ e. record { world = refl; depth = d; sits = closing; bottom = bottom_push (Closes end) on (on_bottom n a refl); room = a.room })))
      where
        n : Node
        n = choice line test first close

        end : ℕ
        end = num + 1 + sizes first

        h : HasAt code num (node_code to (choice line test first close) d num)
        h = has (choice line test first close) a

        placed : Placed d (num + 1) first (b ∷ scopes es)
        placed = record { has = has_front code (num + 1) (block_code to first d (num + 1)) _ h.1; jumps = jumps_of n a; marked = marked_of n a; deep = deep_of n a }

        closing : Sits ps (Closes (num + 1 + sizes first) ∷ on) d (num + 1 + sizes first)
        closing =
            let last = tail_at first d (num + 1) _ h.1 in
            let after : num + size n ≡ num + 1 + sizes first + 1 = omega arith in
            (refl, num + 1 + sizes first + 1, goes_by setup code to _ _ close EndIf last.0 refl (λ w ps. refl), on_sits n ps _ a a.rest after)

    choice_else_follows : (line : ℕ) (test : Tree) (first : Block) (mid : ℕ) (second : Block) (close : ℕ)
        → At ps b base i es d old (choice_else line test first mid second close)
        → Matched (at_node setup (Some (choice_else line test first mid second close)) num w old (Rest b base i ∷ es) on)
        (fetched setup (slice_get code num) w num ps)
    choice_else_follows line test first mid second close a =
        with_op _ (If (spelling test) (end + 1)) line w num ps h.0 (fork (test_in value_of w test) (test_in items_value w (spelling test)) (test_in-spelling w test) w num line old ps
        (λ t. if_true t (state w (Rest first (num + 1) 0 ∷ Closes end ∷ on)) (state w (Rest second (end + 1) 0 ∷ Closes (end + 1 + sizes second) ∷ on)))
        (λ t. if_true t (code_state w (num + 1) ps) (code_state w (end + 1) ps))
        (stays n line a)
        (λ t. choose t _ _ _ _
        (λ e. record {
          world = refl;
          depth = d;
          sits = (sym (number_zero first (num + 1)), placed, middle);
          bottom =
              bottom_push (Rest first (num + 1) 0) (Closes end ∷ on) (bottom_push (Closes end) on (on_bottom n a refl));
          room = a.room;
        })
        (λ e. record {
          world = refl;
          depth = d;
          sits = (sym (number_zero second (end + 1)), placed2, closing);
          bottom =
              bottom_push (Rest second (end + 1) 0) (Closes (end + 1 + sizes second) ∷ on)
              (bottom_push (Closes (end + 1 + sizes second)) on (on_bottom n a refl));
          room = a.room;
        })))
      where
        n : Node
        n = choice_else line test first mid second close

        end : ℕ
        end = num + 1 + sizes first

        h : HasAt code num (node_code to (choice_else line test first mid second close) d num)
        h = has (choice_else line test first mid second close) a

        h2 : HasAt code (num + 1 + sizes first) (statement mid (Else (num + 1 + sizes first + 1 + sizes second + 1)) ∷
            (block_code to second d (num + 1 + sizes first + 1) ++ statement close EndIf ∷ []))
        h2 = tail_at first d (num + 1) _ h.1

        placed : Placed d (num + 1) first (b ∷ scopes es)
        placed = record {
          has = has_front code (num + 1) (block_code to first d (num + 1)) _ h.1;
          jumps = (jumps_of n a).0;
          marked =
              marked_front to (marks first (num + 1)) _ (marked_of n a);
          deep = (deep_of n a).0;
        }

        placed2 : Placed d (num + 1 + sizes first + 1) second (b ∷ scopes es)
        placed2 = record {
          has = has_front code _ (block_code to second d (num + 1 + sizes first + 1)) _ h2.1;
          jumps = (jumps_of n a).1;
          marked =
              marked_back to (marks first (num + 1)) _ (marked_of n a);
          deep = (deep_of n a).1;
        }

        middle : Sits ps (Closes (num + 1 + sizes first) ∷ on) d (num + 1 + sizes first)
        middle =
            let after : num + size n ≡ num + 1 + sizes first + 1 + sizes second + 1 = omega arith in (
              refl,
              num + 1 + sizes first + 1 + sizes second + 1,
              goes_by setup code to _ _ mid (Else (num + 1 + sizes first + 1 + sizes second + 1)) h2.0 refl
                  (λ w ps. refl),
              on_sits n ps _ a a.rest after,
            )

        closing : Sits ps (Closes (num + 1 + sizes first + 1 + sizes second) ∷ on) d (num + 1 + sizes first + 1 + sizes second)
        closing =
            let last = tail_at second d (num + 1 + sizes first + 1) _ h2.1 in
            let after : num + size n ≡ num + 1 + sizes first + 1 + sizes second + 1 = omega arith in
            (refl, num + 1 + sizes first + 1 + sizes second + 1, goes_by setup code to _ _ close EndIf last.0 refl (λ w ps. refl), on_sits n ps _ a a.rest after)

    meas_follows : (line feature : ℕ) (body : Block) (close : ℕ) → At ps b base i es d old (meas line feature body close)
        → Matched (at_node setup (Some (meas line feature body close)) num w old (Rest b base i ∷ es) on) (fetched setup (slice_get code num) w num ps)
    meas_follows line feature body close a =
        with_op _ (Meas feature) line w num ps h.0
        (record {
          world = refl;
          depth = d;
          sits = (sym (number_zero body (num + 1)), placed, closing);
          bottom =
              bottom_push (Rest body (num + 1) 0) (Closes (num + 1 + sizes body) ∷ on) (bottom_push (Closes (num + 1 + sizes body)) on (on_bottom n a refl));
          room
              = a.room;
        })
      where
        n : Node
        n = meas line feature body close

        h : HasAt code num (node_code to (meas line feature body close) d num)
        h = has (meas line feature body close) a

        placed : Placed d (num + 1) body (b ∷ scopes es)
        placed = record { has = has_front code (num + 1) (block_code to body d (num + 1)) _ h.1; jumps = jumps_of n a; marked = marked_of n a; deep = deep_of n a }

        closing : Sits ps (Closes (num + 1 + sizes body) ∷ on) d (num + 1 + sizes body)
        closing =
            let last = tail_at body d (num + 1) _ h.1 in
            let after : num + size n ≡ num + 1 + sizes body + 1 = omega arith in
            (refl, num + 1 + sizes body + 1, goes_by setup code to _ _ close EndMes last.0 refl (λ w ps. refl), on_sits n ps _ a a.rest after)

    -- the entries behind a SELECT whose choice is known
    select_lands : (line : ℕ) (value : Tree) (cases : Cases) (close : ℕ) → At ps b base i es d old (select line value cases close)
        → slice_get code (num + 1 + case_sizes cases) ≡ Some (statement close EndSel) → (o : Option (Block × ℕ)) (target : ℕ)
        → IsSelected setup code to d (num + 1) (num + 1 + case_sizes cases + 1) (b ∷ scopes es) (case_sizes cases) o target
        → Matched (state w (selected o (num + 1 + case_sizes cases) on)) (code_state w target ps)
    select_lands line value cases close a last None target h =
        record { world = refl; depth = d; sits = (h, num + 1 + case_sizes cases + 1, goes, after); bottom = bottom_push (Closes (num + 1 + case_sizes cases)) on (on_bottom n a refl); room = a.room }
      where
        n : Node
        n = select line value cases close

        goes : Goes setup code to target (num + 1 + case_sizes cases + 1)
        goes = subst (λ k. Goes setup code to k (num + 1 + case_sizes cases + 1)) (sym h) (goes_by setup code to _ _ close EndSel last refl (λ w ps. refl))

        after : Sits ps on d (num + 1 + case_sizes cases + 1)
        after = (let e : num + size n ≡ num + 1 + case_sizes cases + 1 = omega arith in on_sits n ps _ a a.rest e)
    select_lands line value cases close a last (Some p) target h =
        record {
          world = refl;
          depth = d;
          sits = (
            h.target ∙ sym (number_zero p.0 p.1),
            h.placed,
            (
              refl,
              num + 1 + case_sizes cases + 1,
              goes_by setup code to _ _ h.line (EndCas (num + 1 + case_sizes cases + 1)) h.closing refl (λ w ps. refl),
              after,
            ),
          );
          bottom = bottom_push (Rest p.0 p.1 0) (Closes (p.1 + sizes p.0) ∷ on) (bottom_push (Closes (p.1 + sizes p.0)) on (on_bottom n a refl));
          room = a.room;
        }
      where
        n : Node
        n = select line value cases close

        after : Sits ps on d (num + 1 + case_sizes cases + 1)
        after = (let e : num + size n ≡ num + 1 + case_sizes cases + 1 = omega arith in on_sits n ps _ a a.rest e)

    select_follows : (line : ℕ) (value : Tree) (cases : Cases) (close : ℕ) → At ps b base i es d old (select line value cases close)
        → Matched (at_node setup (Some (select line value cases close)) num w old (Rest b base i ∷ es) on) (fetched setup (slice_get code num) w num ps)
    select_follows line value cases close a =
        with_op _ (Select (spelling value) (branches_of cases (num + 1)) (last_target cases (num + 1))) line w num ps h.0
        (fork (value_in value_of w value) (value_in items_value w (spelling value)) (value_in-spelling w value) w num line old ps
        (λ z. state w (selected (chosen z cases (num + 1)) (num + 1 + case_sizes cases) on))
        (λ z. code_state w (target_for z (branches_of cases (num + 1)) (last_target cases (num + 1))) ps)
        (stays n line a)
        (λ z. select_lands line value cases close a last.0 (chosen z cases (num + 1)) (target_for z (branches_of cases (num + 1)) (last_target cases (num + 1)))
        (selected_is setup code to d behind (b ∷ scopes es) z cases (num + 1) placed)))
      where
        n : Node
        n = select line value cases close

        behind : ℕ
        behind = num + 1 + case_sizes cases + 1

        h : HasAt code num (node_code to (select line value cases close) d num)
        h = has (select line value cases close) a

        placed : CasesPlaced setup code to d (num + 1) (num + 1 + case_sizes cases + 1) (b ∷ scopes es) cases
        placed = record { has = has_front code (num + 1) (case_code to cases d (num + 1) (num + 1 + case_sizes cases + 1)) _ h.1; jumps = jumps_of n a; marked = marked_of n a; deep = deep_of n a }

        last : HasAt code (num + 1 + case_sizes cases) (statement close EndSel ∷ [])
        last =
            subst (λ k. HasAt code (num + 1 + k) (statement close EndSel ∷ [])) (cases_length to cases d (num + 1) (num + 1 + case_sizes cases + 1))
            (has_back code (num + 1) (case_code to cases d (num + 1) (num + 1 + case_sizes cases + 1)) _ h.1)

    do_follows : (line v : ℕ) (init limit step : Tree) (body : Block) (close : ℕ) → At ps b base i es d old (do_loop line v init limit step body close)
        → Matched (at_node setup (Some (do_loop line v init limit step body close)) num w old (Rest b base i ∷ es) on)
        (fetched setup (slice_get code num) w num ps)
    do_follows line v init limit step body close a =
        with_op _ (Do v d (spelling init) (spelling limit) (spelling step) exit) line w num ps h.0
        (fork (value_in value_of w init) (value_in items_value w (spelling init)) (value_in-spelling w init) w num line old ps _ _ (stays n line a) (λ x.
        fork (value_in value_of w limit) (value_in items_value w (spelling limit)) (value_in-spelling w limit) w num line old ps _ _ (stays n line a) (λ lim.
        fork (value_in value_of w step) (value_in items_value w (spelling step)) (value_in-spelling w step) w num line old ps _ _ (stays n line a) (λ inc.
        choose (is_zero inc) _ _ _ _ (λ e. stays n line a ZeroStep) (λ moves.
        choose (is_past (with_variable w v x) v lim inc) _ _ _ _ (passes (with_variable w v x) lim inc) (λ e. enters (with_variable w v x) lim inc moves))))))
      where
        n : Node
        n = do_loop line v init limit step body close

        exit : ℕ
        exit = num + 1 + sizes body + 1

        h : HasAt code num (node_code to (do_loop line v init limit step body close) d num)
        h = has (do_loop line v init limit step body close) a

        after : num + size (do_loop line v init limit step body close) ≡ num + 1 + sizes body + 1
        after = omega arith

        saved_room : (lim inc : ℤ) → length (slice_set ps d (pair lim inc)) ≡ 32
        saved_room lim inc = length-set ps d (pair lim inc) ∙ a.room

        passes : (w' : World) (lim inc : ℤ) → is_past w' v lim inc ≡ true → Matched (state w' on) (code_state w' (num + 1 + sizes body + 1) (slice_set ps d (pair lim inc)))
        passes w' lim inc e =
            record {
              world = refl;
              depth = d;
              sits =
                  on_sits n (slice_set ps d (pair lim inc)) _ a (sits_set setup code to ps d (pair lim inc) es d _ (omega arith) a.rest) after;
              bottom =
                  on_bottom n a refl;
              room = saved_room lim inc;
            }

        placed : Placed (suc d) (num + 1) body (b ∷ scopes es)
        placed = record { has = has_front code (num + 1) (block_code to body (suc d) (num + 1)) _ h.1; jumps = jumps_of n a; marked = marked_of n a; deep = (deep_of n a).1 }

        enters : (w' : World) (lim inc : ℤ) → is_zero inc ≡ false
            → Matched (state w' (Rest body (num + 1) 0 ∷ Loop num v body close lim inc ∷ on)) (code_state w' (num + 1) (slice_set ps d (pair lim inc)))
        enters w' lim inc moves =
            let qs = slice_set ps d (pair lim inc) in
            let last = tail_at body (suc d) (num + 1) _ h.1 in
            let room = a.room in
            let below = (deep_of n a).0 in
            let within : d < length ps = omega arith in
            let turns : Turns setup code to qs d (num + 1 + sizes body) num v body close lim inc =
            record { number = refl; op = last.0; saved = get_set_same ps d (pair lim inc) within; moves = moves } in
            record {
              world = refl;
              depth = suc d;
              sits = (
                sym (number_zero body (num + 1)),
                placed,
                (turns, placed, on_sits n qs _ a (sits_set setup code to ps d (pair lim inc) es d _ (omega arith) a.rest) after),
              );
              bottom =
                  bottom_push (Rest body (num + 1) 0) (Loop num v body close lim inc ∷ on) (bottom_push (Loop num v body close lim inc) on (on_bottom n a refl));
              room = saved_room lim inc;
            }

    pub node_follows : (n : Node) → At ps b base i es d old n → Matched (at_node setup (Some n) num w old (Rest b base i ∷ es) on) (fetched setup (slice_get code num) w num ps)
    node_follows (simple line what) a = simple_follows line what a
    node_follows (label line l) a = label_follows line l a
    node_follows (jump line l) a = jump_follows line l a
    node_follows (choice line test first close) a = choice_follows line test first close a
    node_follows (choice_else line test first mid second close) a = choice_else_follows line test first mid second close a
    node_follows (do_loop line v init limit step body close) a = do_follows line v init limit step body close a
    node_follows (meas line feature body close) a = meas_follows line feature body close a
    node_follows (select line value cases close) a = select_follows line value cases close a
    node_follows (ending line) a = ending_follows line a

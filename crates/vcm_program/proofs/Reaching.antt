-- Jumps that break no rule reach their labels in the blocks around them.
use Rattle.std.proofs.Common.{◌≡◌, ℕ, suc, ◌<◌, Bool, true, false, List, [], ◌∷◌, ◌++◌, length, take, Option, Some, None, refl, sym, ap, inl, inr, arith}
use Rattle.std.specs.Prelude.{not, ◌&&◌, ◌||◌, ◌⊎◌, slice_get}
use Rattle.vcm_lines.specs.declared.fault.FaultCode.{FaultCode}
use Rattle.vcm_lines.specs.declared.fault.FaultCode.TheVariants.{UnknownName, JumpInward}
use Rattle.vcm_spec.specs.Phase.{IsClean}
use Rattle.vcm_spec.specs.Program.{Label, Node, Block, Cases, simple, label, jump, choice, choice_else, do_loop, meas, select, ending, done, then, no_more, one_case, default, node_at, is_same_label}
use Rattle.vcm_spec.specs.Whole.{IsAround, NodeJumps, Jumps, CasesJump, AlwaysSteps}
use Rattle.vcm_nodes.specs.Jumps.{Jump, own_labels, node_jumps, jumps_in, jumps_among, jumps_of, labels_of, is_among, BreaksJumps}
use Rattle.vcm_nodes.specs.inner.Judging.{AllReach}
use Rattle.vcm_program.specs.Program.{IsWhole}
use Rattle.vcm_spec.specs.Setup.{Tables}
use Rattle.vcm_nodes.specs.inner.SameLabels.{same_label}

-- ---- a label among those of a block stands directly in it

-- the label is the node at some place of the block
abbrev Stands : Block → Label → Type 0
Stands b l = (k : ℕ) × (line : ℕ) × (node_at b k ≡ Some (label line l))

or_cases : (b c : Bool) → (b || c) ≡ true → (b ≡ true) ⊎ (c ≡ true)
or_cases true c e = inl refl
or_cases false c e = inr e

stands_here : (line : ℕ) (k l : Label) (b : Block) → (is_same_label l k ≡ true) ⊎ Stands b l → Stands (then (label line k) b) l
stands_here line k l b (inl e) = (0, line, ap (λ m. Some (label line m)) (sym (same_label l k e)))
stands_here line k l b (inr h) = (suc h.0, h.1, h.2)

passed : (n : Node) (b : Block) (l : Label) → Stands b l → Stands (then n b) l
passed n b l h = (suc h.0, h.1, h.2)

own_stands : (b : Block) (l : Label) → is_among (own_labels b) l ≡ true → Stands b l
own_stands done l e = absurd cc
own_stands (then (simple line what) b) l e = passed (simple line what) b l (own_stands b l e)
own_stands (then (label line k) b) l e = stands_here line k l b (either (or_cases (is_same_label l k) (is_among (own_labels b) l) e) (own_stands b l))
  where
    either : (is_same_label l k ≡ true) ⊎ (is_among (own_labels b) l ≡ true) → (is_among (own_labels b) l ≡ true → Stands b l) → (is_same_label l k ≡ true) ⊎ Stands b l
    either (inl f) g = inl f
    either (inr f) g = inr (g f)
own_stands (then (jump line k) b) l e = passed (jump line k) b l (own_stands b l e)
own_stands (then (choice line test first close) b) l e = passed (choice line test first close) b l (own_stands b l e)
own_stands (then (choice_else line test first mid second close) b) l e = passed (choice_else line test first mid second close) b l (own_stands b l e)
own_stands (then (do_loop line v x y z body close) b) l e = passed (do_loop line v x y z body close) b l (own_stands b l e)
own_stands (then (meas line f body close) b) l e = passed (meas line f body close) b l (own_stands b l e)
own_stands (then (select line v cases close) b) l e = passed (select line v cases close) b l (own_stands b l e)
own_stands (then (ending line) b) l e = passed (ending line) b l (own_stands b l e)

-- ---- labels within reach stand in blocks around

among_append : (ls ms : List Label) (l : Label) → is_among (ls ++ ms) l ≡ true → (is_among ls l ≡ true) ⊎ (is_among ms l ≡ true)
among_append [] ms l e = inr e
among_append (k ∷ ls) ms l e = by (is_same_label l k) (among_append ls ms l) e
  where
    by : (b : Bool) → (is_among (ls ++ ms) l ≡ true → (is_among ls l ≡ true) ⊎ (is_among ms l ≡ true)) → (b || is_among (ls ++ ms) l) ≡ true
        → ((b || is_among ls l) ≡ true) ⊎ (is_among ms l ≡ true)
    by true g f = inl refl
    by false g f = g f

-- these are labels of these blocks
record Covers (reach : List Label) (around : List Block) : Type 0 where
  covers : (l : Label) → is_among reach l ≡ true → IsAround l around

inner : (reach : List Label) (around : List Block) (b : Block) → Covers reach around → Covers (reach ++ own_labels b) (b ∷ around)
inner reach around b c = record { covers = λ l e. by l (among_append reach (own_labels b) l e) }
  where
    by : (l : Label) → (is_among reach l ≡ true) ⊎ (is_among (own_labels b) l ≡ true) → IsAround l (b ∷ around)
    by l (inl f) = inr (c.covers l f)
    by l (inr f) = inl (own_stands b l f)

split : (all : List Label) (js ks : List Jump) → AllReach all (js ++ ks) → AllReach all js × AllReach all ks
split all [] ks h = (tt, h)
split all (j ∷ js) ks h = (let r = split all js ks h.2 in ((h.0, h.1, r.0), r.1))

mutual
  node_reaches : (all : List Label) (n : Node) (reach : List Label) (around : List Block) → Covers reach around → AllReach all (node_jumps n reach) → NodeJumps n around
  node_reaches all (simple line what) reach around c h = tt
  node_reaches all (label line l) reach around c h = tt
  node_reaches all (jump line l) reach around c h = c.covers l h.1
  node_reaches all (choice line test first close) reach around c h = block_reaches all first (reach ++ own_labels first) (first ∷ around) (inner reach around first c) h
  node_reaches all (choice_else line test first mid second close) reach around c h =
      let r = split all (jumps_in first (reach ++ own_labels first)) (jumps_in second (reach ++ own_labels second)) h in (
        block_reaches all first (reach ++ own_labels first) (first ∷ around) (inner reach around first c) r.0,
        block_reaches all second (reach ++ own_labels second) (second ∷ around) (inner reach around second c) r.1,
      )
  node_reaches all (do_loop line v x y z body close) reach around c h = block_reaches all body (reach ++ own_labels body) (body ∷ around) (inner reach around body c) h
  node_reaches all (meas line f body close) reach around c h = block_reaches all body (reach ++ own_labels body) (body ∷ around) (inner reach around body c) h
  node_reaches all (select line v cases close) reach around c h = cases_reach all cases reach around c h
  node_reaches all (ending line) reach around c h = tt

  block_reaches : (all : List Label) (b : Block) (reach : List Label) (around : List Block) → Covers reach around → AllReach all (jumps_in b reach) → Jumps b around
  block_reaches all done reach around c h = tt
  block_reaches all (then n b) reach around c h =
      let r = split all (node_jumps n reach) (jumps_in b reach) h in
      (node_reaches all n reach around c r.0, block_reaches all b reach around c r.1)

  cases_reach : (all : List Label) (cs : Cases) (reach : List Label) (around : List Block) → Covers reach around → AllReach all (jumps_among cs reach) → CasesJump cs around
  cases_reach all no_more reach around c h = tt
  cases_reach all (one_case line v b close rest) reach around c h =
      let r = split all (jumps_in b (reach ++ own_labels b)) (jumps_among rest reach) h in
      (block_reaches all b (reach ++ own_labels b) (b ∷ around) (inner reach around b c) r.0, cases_reach all rest reach around c r.1)
  cases_reach all (default line b close) reach around c h = block_reaches all b (reach ++ own_labels b) (b ∷ around) (inner reach around b c) h

-- ---- what breaks no rule reaches

not_not : (b : Bool) → (not b ≡ true → ⊥) → b ≡ true
not_not true f = refl
not_not false f = absurd (f refl)

and_not : (b c : Bool) → b ≡ true → ((b && not c) ≡ true → ⊥) → c ≡ true
and_not true true e f = refl
and_not true false e f = absurd (f refl)
and_not false c e f = absurd cc

-- no jump breaks a rule, wherever it stands
abbrev NoneBreaks : List Label → List Jump → Type 0
NoneBreaks all js = (k : ℕ) (before : List Jump) (code : FaultCode) → k < length js → BreaksJumps all before (slice_get js k) code → ⊥

any_before : (all : List Label) (before other : List Jump) (o : Option Jump) (code : FaultCode) → BreaksJumps all before o code → BreaksJumps all other o code
any_before all before other (Some j) UnknownName b = b
any_before all before other (Some j) JumpInward b = b
any_before all before other None code b = b
any_before all before other (Some j) _ b = b

all_reach : (all : List Label) (js : List Jump) → NoneBreaks all js → AllReach all js
all_reach all [] n = tt
all_reach all (j ∷ js) n =
    let a = not_not (is_among all j.to) (λ b. n 0 [] UnknownName (omega arith) b) in
    let r = and_not (is_among all j.to) (is_among j.reach j.to) a (λ b. n 0 [] JumpInward (omega arith) b) in
    (a, r, all_reach all js (λ k before code l b. n (suc k) before code (omega (arith, l)) b))

jumps_reach : (program : Block) → IsClean (BreaksJumps (labels_of program)) (jumps_of program) → Jumps program (program ∷ [])
jumps_reach program clean =
    block_reaches (labels_of program) program (own_labels program) (program ∷ []) (record { covers = λ l e. inl (own_stands program l e) })
    (all_reach (labels_of program) (jumps_of program) (λ k before code l b. clean.unbroken k code (omega (arith, l))
    (any_before (labels_of program) before (take k (jumps_of program)) (slice_get (jumps_of program) k) code b)))

-- a whole program always has a next step until it stops
pub whole_steps : (program : Block) (ts : Tables) → IsWhole program ts → AlwaysSteps program
whole_steps program ts w = record { closed = w.closed; jumps = jumps_reach program w.jumps }

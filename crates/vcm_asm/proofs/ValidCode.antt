-- The flat code of a whole program is valid.
use Rattle.std.proofs.Common.{◌≡◌, ℕ, suc, ◌+◌, ◌<◌, ◌≤◌, List, [], ◌∷◌, ◌++◌, Bool, true, false, sym, subst, arith}
use Rattle.std.specs.Prelude.{IsTrue, length, slice_get, Some}
use Rattle.std.proofs.lemmas.Option.{slice_get_within}
use Rattle.vcm_num.specs.declared.number.Kind.TheVariants.{Int, Bool as Truths}
use Rattle.vcm_spec.specs.declared.expression.Item.{Item}
use Rattle.vcm_spec.specs.Expression.{spelling}
use Rattle.vcm_spec.specs.Simple.{with_form}
use Rattle.vcm_spec.specs.Setup.{Tables}
use Rattle.vcm_spec.specs.Fitting.{kinds, NodeFits, BlockFits, CasesFit}
use Rattle.vcm_spec.specs.Program.{Label as Name, Node, Block, Cases, simple, label, jump, choice, choice_else, do_loop, meas, select, ending, done, then}
use Rattle.vcm_spec.specs.Program.{no_more, one_case, default, size, sizes, case_sizes, is_same_label}
use Rattle.vcm_spec.specs.Table.{if_true}
use Rattle.vcm_spec.specs.Whole.{is_end, is_closed}
use Rattle.vcm_program.specs.Program.{IsWhole}
use Rattle.vcm_code.specs.declared.op.Op.TheVariants.{If, EndDo}
use Rattle.vcm_code.specs.Code.{CodeStatement}
use Rattle.vcm_code.specs.Checks.{HasItems, AllHold, targets, OpFits}
use Rattle.vcm_code.specs.Valid.{Ends, IsValid}
use Rattle.vcm_code.specs.Ranges.{version_for}
use Rattle.vcm_code.proofs.Checked.{AllFit, all_hold, wants_hold, simple_holds, do_holds, select_holds}
use Rattle.vcm_asm.specs.inner.Spelled.{NodeKeeps, BlockKeeps, CasesKeep}
use Rattle.vcm_asm.specs.Assembled.{Mark, node_marks, marks, case_marks, node_code, block_code, case_code, branches_of, last_target, place_in, flat_code}
use Rattle.vcm_asm.proofs.Place.{block_length}
use Rattle.vcm_asm.proofs.SimpleCode.{keeps, simple_fits}

size_positive : (n : Node) → 0 < size n
size_positive (ending line) = omega arith
size_positive _ = omega arith

-- the labels' numbers are numbers of statements
abbrev MarksBelow : List Mark → ℕ → Type 0
MarksBelow [] s = Unit {0}
MarksBelow (m ∷ ms) s = (m.1 < s) × MarksBelow ms s

marks_join : (a b : List Mark) (s : ℕ) → MarksBelow a s → MarksBelow b s → MarksBelow (a ++ b) s
marks_join [] b s h k = k
marks_join (m ∷ a) b s h k = (h.0, marks_join a b s h.1 k)

mutual
  node_marks_below : (n : Node) (base s : ℕ) → base + size n ≤ s → MarksBelow (node_marks n base) s
  node_marks_below (simple line what) base s le = tt
  node_marks_below (label line l) base s le = (omega arith, tt)
  node_marks_below (jump line l) base s le = tt
  node_marks_below (choice line test first close) base s le = marks_below first (base + 1) s (omega arith)
  node_marks_below (choice_else line test first mid second close) base s le =
      marks_join (marks first (base + 1)) _ s (marks_below first (base + 1) s (omega arith)) (marks_below second (base + 1 + sizes first + 1) s (omega arith))
  node_marks_below (do_loop line v a b c body close) base s le = marks_below body (base + 1) s (omega arith)
  node_marks_below (meas line feature body close) base s le = marks_below body (base + 1) s (omega arith)
  node_marks_below (select line value cases close) base s le = case_marks_below cases (base + 1) s (omega arith)
  node_marks_below (ending line) base s le = tt

  marks_below : (b : Block) (base s : ℕ) → base + sizes b ≤ s → MarksBelow (marks b base) s
  marks_below done base s le = tt
  marks_below (then n b) base s le =
      marks_join (node_marks n base) _ s (node_marks_below n base s (omega arith)) (marks_below b (base + size n) s (omega arith))

  case_marks_below : (cs : Cases) (base s : ℕ) → base + case_sizes cs ≤ s → MarksBelow (case_marks cs base) s
  case_marks_below no_more base s le = tt
  case_marks_below (one_case line v b close rest) base s le =
      marks_join (marks b (base + 1)) _ s (marks_below b (base + 1) s (omega arith)) (case_marks_below rest (base + 1 + sizes b + 1) s (omega arith))
  case_marks_below (default line b close) base s le = marks_below b (base + 1) s (omega arith)

place_below : (ms : List Mark) (s : ℕ) (l : Name) → 0 < s → MarksBelow ms s → place_in ms l < s
place_below [] s l pos h = pos
place_below (m ∷ ms) s l pos h = here (is_same_label m.0 l) (place_below ms s l pos h.1)
  where
    here : (t : Bool) → place_in ms l < s → if_true t m.1 (place_in ms l) < s
    here true r = h.0
    here false r = r

-- where a SELECT goes, there are statements
branches_below : (cs : Cases) (base s : ℕ) → base + case_sizes cs < s → AllHold (targets (branches_of cs base) s)
branches_below no_more base s lt = tt
branches_below (one_case line v b close rest) base s lt = (omega arith, branches_below rest (base + 1 + sizes b + 1) s (omega arith))
branches_below (default line b close) base s lt = tt

last_below : (cs : Cases) (base s : ℕ) → base + case_sizes cs < s → last_target cs base < s
last_below no_more base s lt = omega arith
last_below (one_case line v b close rest) base s lt = last_below rest (base + 1 + sizes b + 1) s (omega arith)
last_below (default line b close) base s lt = omega arith

module _ (tables : Tables) where
  -- an IF, whose test is BOOL
  if_holds : (s : ℕ) (e : List Item) (to : ℕ) → HasItems tables e Truths → to < s → OpFits tables s (If e to)
  if_holds s e to h below = (let k = wants_hold (kinds tables) e Truths h in (k.0, (h, (below, tt))))

  -- an ENDDO, whose variable is INT
  end_holds : (s v p to : ℕ) → slice_get (kinds tables) v ≡ Some Int → to < s → OpFits tables s (EndDo v p to)
  end_holds s v p to e below = (slice_get_within (kinds tables) v Int e, (e, (below, tt)))

  fits_join : (s : ℕ) (a b : List CodeStatement) → AllFit tables s a → AllFit tables s b → AllFit tables s (a ++ b)
  fits_join s [] b h k = k
  fits_join s (x ∷ a) b h k = (h.0, fits_join s a b h.1 k)

  module _ (to : Name → ℕ) (s : ℕ) (places : (l : Name) → to l < s) where
    mutual
      node_fits : (n : Node) (d base : ℕ) → base + size n < s → NodeFits tables n → NodeKeeps n → AllFit tables s (node_code to n d base)
      node_fits (simple line what) d base lt h m = (simple_holds tables s (with_form spelling what) (simple_fits tables what h m), tt)
      node_fits (label line l) d base lt h m = (tt, tt)
      node_fits (jump line l) d base lt h m = ((places l, tt), tt)
      node_fits (choice line test first close) d base lt h m =
          (if_holds s (spelling test) _ (keeps tables test _ h.0 m.0) (omega arith), fits_join s (block_code to first d (base + 1)) _ (block_fits first d (base + 1) (omega arith) h.1 m.1) (tt, tt))
      node_fits (choice_else line test first mid second close) d base lt h m = (
        if_holds s (spelling test) _ (keeps tables test _ h.0 m.0) (omega arith),
        fits_join s (block_code to first d (base + 1)) _ (block_fits first d (base + 1) (omega arith) h.1 m.1)
            ((omega arith, tt), fits_join s (block_code to second d (base + 1 + sizes first + 1)) _ (block_fits second d (base + 1 + sizes first + 1) (omega arith) h.2 m.2) (tt, tt)),
      )
      node_fits (do_loop line v a b c body close) d base lt h m = (
        do_holds tables s v d (spelling a) (spelling b) (spelling c) _ h.0 (keeps tables a _ h.1 m.0) (keeps tables b _ h.2 m.1) (keeps tables c _ h.3 m.2) (omega arith, tt),
        fits_join s (block_code to body (suc d) (base + 1)) _ (block_fits body (suc d) (base + 1) (omega arith) h.4 m.3) (end_holds s v d (base + 1) h.0 (omega arith), tt),
      )
      node_fits (meas line feature body close) d base lt h m =
          ((h.0, tt), fits_join s (block_code to body d (base + 1)) _ (block_fits body d (base + 1) (omega arith) h.1 m) (tt, tt))
      node_fits (select line value cases close) d base lt h m = (
        select_holds tables s (spelling value) (branches_of cases (base + 1)) _ (keeps tables value _ h.0 m.0) (branches_below cases (base + 1) s (omega arith))
            (last_below cases (base + 1) s (omega arith), tt),
        fits_join s (case_code to cases d (base + 1) (base + 1 + case_sizes cases + 1)) _ (cases_fit cases d (base + 1) (base + 1 + case_sizes cases + 1) (omega arith) (omega arith) h.1 m.1) (tt, tt),
      )
      node_fits (ending line) d base lt h m = (tt, tt)

      block_fits : (b : Block) (d base : ℕ) → base + sizes b < s → BlockFits tables b → BlockKeeps b → AllFit tables s (block_code to b d base)
      block_fits done d base lt h m = tt
      block_fits (then n b) d base lt h m =
          fits_join s (node_code to n d base) _ (node_fits n d base (omega arith) h.0 m.0) (block_fits b d (base + size n) (omega arith) h.1 m.1)

      cases_fit : (cs : Cases) (d base behind : ℕ) → behind < s → base + case_sizes cs < s → CasesFit tables cs → CasesKeep cs → AllFit tables s (case_code to cs d base behind)
      cases_fit no_more d base behind past lt h m = tt
      cases_fit (one_case line v b close rest) d base behind past lt h m = (
        tt,
        fits_join s (block_code to b d (base + 1)) _ (block_fits b d (base + 1) (omega arith) h.0 m.0)
            ((past, tt), cases_fit rest d (base + 1 + sizes b + 1) behind past (omega arith) h.1 m.1),
      )
      cases_fit (default line b close) d base behind past lt h m =
          (tt, fits_join s (block_code to b d (base + 1)) _ (block_fits b d (base + 1) (omega arith) h m) ((past, tt), tt))

    -- the program, whose last node is ENDFIL
    whole_fits : (b : Block) (base : ℕ) → IsTrue (is_closed b) → base + sizes b ≤ s → BlockFits tables b → BlockKeeps b → AllFit tables s (block_code to b 0 base)
    whole_fits done base c le h m = tt
    whole_fits (then n done) base c le h m = last n c
      where
        last : (n : Node) → IsTrue (is_end n) → AllFit tables s (node_code to n 0 base ++ [])
        last (ending line) c = (tt, tt)
        last _ c = absurd cc
    whole_fits (then n (then n' b)) base c le h m =
        let pos = size_positive n' in
        fits_join s (node_code to n 0 base) _ (node_fits n 0 base (omega arith) h.0 m.0) (whole_fits (then n' b) (base + size n) c (omega arith) h.1 m.1)

last_join : (a : List CodeStatement) (y : CodeStatement) (b : List CodeStatement) → Ends (y ∷ b) → Ends (a ++ y ∷ b)
last_join [] y b h = h
last_join (x ∷ []) y b h = h
last_join (x ∷ (x' ∷ a)) y b h = last_join (x' ∷ a) y b h

last_after : (a b : List CodeStatement) → Ends b → Ends (a ++ b)
last_after a [] h = absurd h
last_after a (y ∷ b) h = last_join a y b h

last_ends : (to : Name → ℕ) (b : Block) (base : ℕ) → IsTrue (is_closed b) → Ends (block_code to b 0 base)
last_ends to done base c = absurd cc
last_ends to (then n done) base c = last n c
  where
    last : (n : Node) → IsTrue (is_end n) → Ends (node_code to n 0 base ++ [])
    last (ending line) c = tt
    last _ c = absurd cc
last_ends to (then n (then n' b)) base c =
    last_after (node_code to n 0 base) _ (last_ends to (then n' b) (base + size n) c)

closed_positive : (b : Block) → IsTrue (is_closed b) → 0 < sizes b
closed_positive done c = absurd cc
closed_positive (then n b) c = let pos = size_positive n in omega arith

pub valid : (program : Block) (tables : Tables) → IsWhole program tables → BlockKeeps program
    → IsValid (record { version = version_for (flat_code program); tables = tables; statements = flat_code program })
valid program tables a small =
    let to = place_in (marks program 0) in
    let len = block_length to program 0 0 in
    let places = λ (l : Name). place_below (marks program 0) (sizes program) l (closed_positive program a.closed) (marks_below program 0 (sizes program) (omega arith)) in
    record {
      fit = all_hold tables (length (flat_code program)) (flat_code program)
          (subst (λ n. AllFit tables n (flat_code program)) (sym len) (whole_fits tables to (sizes program) places program 0 a.closed (omega arith) a.fits small));
      ends = last_ends to program 0 a.closed;
    }

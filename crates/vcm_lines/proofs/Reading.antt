-- Reading a text line by line.
use Rattle.std.proofs.Common.{◌≡◌, ◌⊎◌, ℕ, ◌+◌, ◌<◌, ◌≤◌, Bool, true, false, cond, List, [], ◌∷◌, ◌++◌, length, take, drop, Option, Some, None, refl, sym, ap}
use Rattle.std.proofs.Common.{subst, inl, inr, ◌∙◌, append_assoc, arith}
use Rattle.std.specs.Prelude.{◌&&◌, not}
use Rattle.std.specs.Option.{option_map_or}
use Rattle.std.specs.Str.Lines.{lines}
use Rattle.std.proofs.lemmas.List.{append-nil, length-take}
use Rattle.vcm_lines.specs.Fault.{NoMemoryOr}
use Rattle.vcm_spec.specs.Phase.{FirstFault}
use Rattle.vcm_lines.specs.Segments.{continues}
use Rattle.vcm_lines.specs.Statements.{KeptLine, kept_line, is_empty, kept_lines_from, kept_lines, grouped, unfinished, last_line, IsLogical, AreLogical, Breaks, told_line}
use Rattle.vcm_lines.specs.Leftmost.{too_long, too_many, bytes_fault, line_fault, dangling, fault_or, fault_behind, first_fault}
use Rattle.vcm_lines.specs.inner.Holding.{span_of, Holds}
use Rattle.vcm_lines.specs.declared.lines.Unfinished.{Unfinished}
use Rattle.vcm_lines.specs.declared.logical.Logical.{Logical}
use Rattle.vcm_lines.specs.declared.fault.SourceFault.{SourceFault}
use Rattle.vcm_lines.specs.declared.fault.FaultCode.TheVariants.{LineTooLong, TooManyLines, DanglingContinuation}
use Rattle.vcm_spec.proofs.PhaseLemmas.{place_at}
use Rattle.std.proofs.lemmas.Bool.{le-leb, lt-leb, lt-ltb, le-ltb}
use Rattle.vcm_lines.proofs.FaultLaw.{first_is_told}
use Rattle.vcm_lines.proofs.Joining.{rows_of_more, unfinished_push, unfinished_goes, joined_first}

-- the rows of the statement that the first n lines begin
abbrev pub begun : List (List ℕ) → ℕ → List KeptLine
begun ls n = unfinished (kept_lines (take n ls))

-- What is known once the first n lines are read.
pub record IsRead (ls : List (List ℕ)) (n : ℕ) (rest : List ℕ) (u : Unfinished) (items : List Logical) : Type 0 where
  pub ahead : drop n ls ≡ lines rest
  pub within : n ≤ length ls
  pub few : n ≤ 20000
  pub left : first_fault ls ≡ fault_behind (take n ls) (drop n ls)
  pub holds : Holds u (begun ls n)
  pub done : (more : List Logical) → AreLogical (grouped (begun ls n ++ kept_lines_from (n + 1) (drop n ls))) more → AreLogical (grouped (kept_lines ls)) (items ++ more)

-- ---- a line that breaks no rule

-- the rows with one more line
begun_more : (ls : List (List ℕ)) (n : ℕ) (l : List ℕ) (after : List (List ℕ)) → drop n ls ≡ l ∷ after → kept_lines (take (n + 1) ls) ≡ kept_lines (take n ls) ++ kept_lines_from (n + 1) (l ∷ [])
begun_more ls n l after e =
    let q = place_at ls n l after e in
    let len : length (take n ls) ≡ n = omega (arith, length-take n ls, q.0) in
    ap kept_lines q.2 ∙ rows_of_more (take n ls) l ∙ ap (λ (k : ℕ). kept_lines (take n ls) ++ kept_lines_from (k + 1) (l ∷ [])) len

begun_empty : (ls : List (List ℕ)) (n : ℕ) (l : List ℕ) (after : List (List ℕ)) → drop n ls ≡ l ∷ after → is_empty l ≡ true → begun ls (n + 1) ≡ begun ls n
begun_empty ls n l after e empty =
    let none : kept_lines_from (n + 1) (l ∷ []) ≡ [] = rw empty refl in
    ap unfinished (begun_more ls n l after e ∙ ap (λ (r : List KeptLine). kept_lines (take n ls) ++ r) none ∙ append-nil (kept_lines (take n ls)))

begun_row : (ls : List (List ℕ)) (n : ℕ) (l : List ℕ) (after : List (List ℕ)) → drop n ls ≡ l ∷ after → is_empty l ≡ false
    → begun ls (n + 1) ≡ cond (continues l) (begun ls n ++ kept_line (n + 1) l ∷ []) []
begun_row ls n l after e some =
    let one : kept_lines_from (n + 1) (l ∷ []) ≡ kept_line (n + 1) l ∷ [] = rw some refl in
    ap unfinished (begun_more ls n l after e ∙ ap (λ (r : List KeptLine). kept_lines (take n ls) ++ r) one) ∙ unfinished_push (kept_lines (take n ls)) (kept_line (n + 1) l)

-- What a line is known to be once it is added.
pub record IsAdded (n : ℕ) (l : List ℕ) (u : Unfinished) : Type 0 where
  pub few : n < 20000
  pub short : length l ≤ 1024
  pub fine : bytes_fault u.bytes.items l ≡ None

-- no line too many, and none that is too long
few_none : (before : List (List ℕ)) → length before < 20000 → too_many before ≡ None
few_none before few = rw (lt-leb 20000 (length before) few) refl

short_none : (most : ℕ) (bytes : List ℕ) → length bytes ≤ most → too_long most bytes ≡ None
short_none most bytes short = rw (le-ltb most (length bytes) short) refl

-- the line at n has no fault
unbroken : (ls : List (List ℕ)) (n : ℕ) (l : List ℕ) (u : Unfinished) → IsAdded n l u → Holds u (begun ls n) → line_fault (take n ls) l ≡ None
unbroken ls n l u a h = rw (few_none (take n ls) (omega (arith, a.few, length-take n ls)), short_none 1024 l a.short, ← h.bytes, a.fine) refl

-- so the first fault is the first one behind it
left_more : (ls : List (List ℕ)) (n : ℕ) (l : List ℕ) (after : List (List ℕ)) → drop n ls ≡ l ∷ after → line_fault (take n ls) l ≡ None
    → first_fault ls ≡ fault_behind (take n ls) (drop n ls) → first_fault ls ≡ fault_behind (take (n + 1) ls) (drop (n + 1) ls)
left_more ls n l after e fine left =
    let q = place_at ls n l after e in
    rw (q.2, q.3) (rw (e, fine) at left)

abbrev rows_at : List (List ℕ) → ℕ → List KeptLine
rows_at ls n = begun ls n ++ kept_lines_from (n + 1) (drop n ls)

same_empty : (ls : List (List ℕ)) (n : ℕ) (l : List ℕ) (after : List (List ℕ)) → drop n ls ≡ l ∷ after → is_empty l ≡ true → rows_at ls (n + 1) ≡ rows_at ls n
same_empty ls n l after e empty =
    let q = place_at ls n l after e in
    rw (begun_empty ls n l after e empty, q.3, e, empty) refl

same_goes : (ls : List (List ℕ)) (n : ℕ) (l : List ℕ) (after : List (List ℕ)) → drop n ls ≡ l ∷ after → is_empty l ≡ false → continues l ≡ true → rows_at ls (n + 1) ≡ rows_at ls n
same_goes ls n l after e some goes =
    let q = place_at ls n l after e in
    let b : begun ls (n + 1) ≡ begun ls n ++ kept_line (n + 1) l ∷ [] = begun_row ls n l after e some ∙ ap (λ (g : Bool). cond g (begun ls n ++ kept_line (n + 1) l ∷ []) []) goes in
    rw (b, q.3, e, some) (append_assoc (begun ls n) (kept_line (n + 1) l ∷ []) (kept_lines_from (n + 1 + 1) after))

joined_ends : (ls : List (List ℕ)) (n : ℕ) (l : List ℕ) (after : List (List ℕ)) → drop n ls ≡ l ∷ after → is_empty l ≡ false → continues l ≡ false
    → grouped (rows_at ls n) ≡ (begun ls n ++ kept_line (n + 1) l ∷ []) ∷ grouped (rows_at ls (n + 1))
joined_ends ls n l after e some ends =
    let q = place_at ls n l after e in
    let b : begun ls (n + 1) ≡ [] = begun_row ls n l after e some ∙ ap (λ (g : Bool). cond g (begun ls n ++ kept_line (n + 1) l ∷ []) []) ends in
    rw (b, q.3, e, some) (joined_first (begun ls n) (kept_line (n + 1) l) (kept_lines_from (n + 1 + 1) after) (unfinished_goes (kept_lines (take n ls))) ends)

pub step_empty : (ls : List (List ℕ)) (n : ℕ) (rest after l : List ℕ) (u v : Unfinished) (items : List Logical) → lines rest ≡ l ∷ lines after → IsAdded n l u
    → is_empty l ≡ true → Holds v (begun ls n) → IsRead ls n rest u items → IsRead ls (n + 1) after v items
step_empty ls n rest after l u v items cut a empty h s =
    let e : drop n ls ≡ l ∷ lines after = s.ahead ∙ cut in
    let q = place_at ls n l (lines after) e in
    record {
      ahead = q.3;
      within = omega (arith, q.0);
      few = omega (arith, a.few);
      left = left_more ls n l (lines after) e (unbroken ls n l u a s.holds) s.left;
      holds = rw (begun_empty ls n l (lines after) e empty) h;
      done = λ more m. s.done more (rw (same_empty ls n l (lines after) e empty) at m);
    }

pub step_goes : (ls : List (List ℕ)) (n : ℕ) (rest after l : List ℕ) (u v : Unfinished) (items : List Logical) → lines rest ≡ l ∷ lines after → IsAdded n l u
    → is_empty l ≡ false → continues l ≡ true → Holds v (begun ls n ++ kept_line (n + 1) l ∷ []) → IsRead ls n rest u items → IsRead ls (n + 1) after v items
step_goes ls n rest after l u v items cut a some goes h s =
    let e : drop n ls ≡ l ∷ lines after = s.ahead ∙ cut in
    let q = place_at ls n l (lines after) e in
    let b : begun ls (n + 1) ≡ begun ls n ++ kept_line (n + 1) l ∷ [] = begun_row ls n l (lines after) e some ∙ ap (λ (g : Bool). cond g (begun ls n ++ kept_line (n + 1) l ∷ []) []) goes in
    record {
      ahead = q.3;
      within = omega (arith, q.0);
      few = omega (arith, a.few);
      left = left_more ls n l (lines after) e (unbroken ls n l u a s.holds) s.left;
      holds = rw b h;
      done = λ more m. s.done more (rw (same_goes ls n l (lines after) e some goes) at m);
    }

pub step_ends : (ls : List (List ℕ)) (n : ℕ) (rest after l : List ℕ) (u w : Unfinished) (items : List Logical) (made : Logical) → lines rest ≡ l ∷ lines after
    → IsAdded n l u → is_empty l ≡ false → continues l ≡ false → IsLogical (begun ls n ++ kept_line (n + 1) l ∷ []) made → Holds w [] → IsRead ls n rest u items
    → IsRead ls (n + 1) after w (items ++ made ∷ [])
step_ends ls n rest after l u w items made cut a some ends logical h s =
    let e : drop n ls ≡ l ∷ lines after = s.ahead ∙ cut in
    let q = place_at ls n l (lines after) e in
    let b : begun ls (n + 1) ≡ [] = begun_row ls n l (lines after) e some ∙ ap (λ (g : Bool). cond g (begun ls n ++ kept_line (n + 1) l ∷ []) []) ends in
    record {
      ahead = q.3;
      within = omega (arith, q.0);
      few = omega (arith, a.few);
      left = left_more ls n l (lines after) e (unbroken ls n l u a s.holds) s.left;
      holds = rw b h;
      done = λ more m. rw append_assoc (s.done (made ∷ more) (rw (joined_ends ls n l (lines after) e some ends) (logical, m)));
    }

-- ---- faults

-- a fault of the line at n
fault_here : (ls : List (List ℕ)) (n : ℕ) (rest after l : List ℕ) (u : Unfinished) (items : List Logical) (f : SourceFault) → lines rest ≡ l ∷ lines after
    → f.line ≡ n + 1 → line_fault (take n ls) l ≡ Some f.code → IsRead ls n rest u items → first_fault ls ≡ Some f
fault_here ls n rest after l u items f cut told broken s =
    let e : drop n ls ≡ l ∷ lines after = s.ahead ∙ cut in
    let q = place_at ls n l (lines after) e in
    let len : length (take n ls) + 1 ≡ f.line = omega (arith, told, length-take n ls, q.0) in
    rw (e, broken, len) at s.left

pub fault_many : (ls : List (List ℕ)) (n : ℕ) (rest after l : List ℕ) (u : Unfinished) (items : List Logical) → lines rest ≡ l ∷ lines after → 20000 ≤ n
    → IsRead ls n rest u items → first_fault ls ≡ Some (record { code = TooManyLines; line = n + 1 })
fault_many ls n rest after l u items cut many s =
    let le : 20000 ≤ length (take n ls) = omega (arith, many, length-take n ls, s.within) in
    fault_here ls n rest after l u items (record { code = TooManyLines; line = n + 1 }) cut refl (rw (le-leb 20000 (length (take n ls)) le) refl) s

pub fault_long : (ls : List (List ℕ)) (n : ℕ) (rest after l : List ℕ) (u : Unfinished) (items : List Logical) → lines rest ≡ l ∷ lines after → n < 20000
    → 1024 < length l → IsRead ls n rest u items → first_fault ls ≡ Some (record { code = LineTooLong; line = n + 1 })
fault_long ls n rest after l u items cut few long s =
    fault_here ls n rest after l u items (record { code = LineTooLong; line = n + 1 }) cut refl (rw (few_none (take n ls) (omega (arith, few, length-take n ls)), lt-ltb 1024 (length l) long) refl) s

-- what `add` refuses
abbrev pub RefusesLine : ℕ → List ℕ → Unfinished → SourceFault → Type 0
RefusesLine n l u f = (f.line ≡ n + 1) × (bytes_fault u.bytes.items l ≡ Some f.code)

pub fault_added : (ls : List (List ℕ)) (n : ℕ) (rest after l : List ℕ) (u : Unfinished) (items : List Logical) (f : SourceFault) → lines rest ≡ l ∷ lines after
    → n < 20000 → length l ≤ 1024 → NoMemoryOr (RefusesLine n l u) f → IsRead ls n rest u items → NoMemoryOr (λ f. first_fault ls ≡ Some f) f
fault_added ls n rest after l u items f cut few short (inl e) s = inl e
fault_added ls n rest after l u items f cut few short (inr p) s =
    inr (fault_here ls n rest after l u items f cut p.0 (rw (few_none (take n ls) (omega (arith, few, length-take n ls)), short_none 1024 l short, ← s.holds.bytes) p.1) s)

-- ---- the end

lines_nil : (rest : List ℕ) → length rest ≡ 0 → lines rest ≡ []
lines_nil [] e = refl
lines_nil (b ∷ bs) e = absurd (omega arith)

span_none : (rows : List KeptLine) → span_of rows ≡ None → rows ≡ []
span_none [] e = refl
span_none (r ∷ rs) e = absurd cc

-- the first fault is that of the end
left_all : (ls : List (List ℕ)) (n : ℕ) (rest : List ℕ) (u : Unfinished) (items : List Logical) → length rest ≡ 0 → IsRead ls n rest u items
    → first_fault ls ≡ fault_or (dangling (begun ls n)) (last_line (begun ls n)) None
left_all ls n rest u items none s = rw (s.ahead, lines_nil rest none) at s.left

pub end_clean : (ls : List (List ℕ)) (n : ℕ) (rest : List ℕ) (u : Unfinished) (items : List Logical) → length rest ≡ 0 → u.span ≡ None → IsRead ls n rest u items → first_fault ls ≡ None
end_clean ls n rest u items none e s = rw (span_none (begun ls n) (sym s.holds.span ∙ e)) at (left_all ls n rest u items none s)

pub end_done : (ls : List (List ℕ)) (n : ℕ) (rest : List ℕ) (u : Unfinished) (items : List Logical) → length rest ≡ 0 → u.span ≡ None → IsRead ls n rest u items
    → AreLogical (grouped (kept_lines ls)) items
end_done ls n rest u items none e s =
    let nothing : rows_at ls n ≡ [] = rw (span_none (begun ls n) (sym s.holds.span ∙ e), s.ahead, lines_nil rest none) refl in
    let start : AreLogical (grouped (rows_at ls n)) [] = rw nothing refl in
    subst (AreLogical (grouped (kept_lines ls))) (append-nil items) (s.done [] start)

dangles : (rows : List KeptLine) (first last : ℕ) → span_of rows ≡ Some (first, last) → fault_or (dangling rows) (last_line rows) None ≡ Some (record { code = DanglingContinuation; line = last })
dangles [] first last e = absurd cc
dangles (r ∷ rs) first last e =
    let told : last_line (r ∷ rs) ≡ last = ap (λ (o : Option (ℕ × ℕ)). option_map_or (λ s. s.1) o 0) e in
    ap (λ (n : ℕ). Some (record { code = DanglingContinuation; line = n })) told

pub end_dangling : (ls : List (List ℕ)) (n : ℕ) (rest : List ℕ) (u : Unfinished) (items : List Logical) (first last : ℕ) → length rest ≡ 0
    → u.span ≡ Some (first, last) → IsRead ls n rest u items → first_fault ls ≡ Some (record { code = DanglingContinuation; line = last })
end_dangling ls n rest u items first last none e s = left_all ls n rest u items none s ∙ dangles (begun ls n) first last (sym s.holds.span ∙ e)

-- a fault that is told is one by the rules
pub told_by_rules : (ls : List (List ℕ)) (f : SourceFault) → NoMemoryOr (λ f. first_fault ls ≡ Some f) f → NoMemoryOr (λ f. FirstFault Breaks told_line ls f.code f.line) f
told_by_rules ls f (inl e) = inl e
told_by_rules ls f (inr e) = inr (first_is_told ls f e)

-- ---- what the answer of `add` says

pub ends_facts : (c e : Bool) → (not c && not e) ≡ true → (c ≡ false) × (e ≡ false)
ends_facts false false h = (refl, refl)
ends_facts false true h = absurd cc
ends_facts true e h = absurd cc

pub stays_facts : (c e : Bool) → (not c && not e) ≡ false → (e ≡ true) ⊎ ((e ≡ false) × (c ≡ true))
stays_facts c true h = inl refl
stays_facts true false h = inr (refl, refl)
stays_facts false false h = absurd cc

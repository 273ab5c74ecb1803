-- Where the statements of a block stand in the code.
use Rattle.std.proofs.Common.{◌≡◌, ℕ, zero, suc, ◌+◌, ◌<◌, List, [], ◌∷◌, ◌++◌, length, Some, None, Bool, true, false, refl, sym, ap, ◌∙◌, subst, arith, append_assoc, length-append}
use Rattle.std.specs.Prelude.{slice_get}
use Rattle.std.proofs.Math.Seq.{get_or-append_seam}
use Rattle.std.proofs.lemmas.Option.{slice_get-get_or}
use Rattle.vcm_spec.specs.Program.{Label as Name, Node, Block, Cases, simple, label, jump, choice, choice_else, do_loop, meas, select, ending, done, then}
use Rattle.vcm_spec.specs.Program.{no_more, one_case, default, size, sizes, case_sizes, node_at, number_at, label_index, is_same_label}
use Rattle.vcm_spec.specs.Table.{if_true}
use Rattle.vcm_asm.specs.inner.Once.{Absent, Once}
use Rattle.vcm_asm.specs.inner.Depth.{NodeDeep, Deep}
use Rattle.vcm_spec.specs.Whole.{NodeJumps, Jumps}
use Rattle.vcm_spec.proofs.Labels.{same_label, label_itself, found_stands}
use Rattle.vcm_code.specs.declared.op.Op.TheVariants.{Else, EndIf, EndDo, EndMes, EndCas, EndSel}
use Rattle.vcm_code.specs.Code.{CodeStatement, statement}
use Rattle.vcm_asm.specs.Assembled.{Mark, node_marks, marks, node_code, block_code, case_code, place_in}
use Rattle.vcm_spec.proofs.NeverStuck.{same_node}

-- the statements stand in the code at this place
abbrev pub HasAt : List CodeStatement → ℕ → List CodeStatement → Type 0
HasAt code pc [] = Unit {0}
HasAt code pc (s ∷ ss) = (slice_get code pc ≡ Some s) × HasAt code (pc + 1) ss

pub has_front : (code : List CodeStatement) (pc : ℕ) (a b : List CodeStatement) → HasAt code pc (a ++ b) → HasAt code pc a
has_front code pc [] b h = tt
has_front code pc (i ∷ a) b h = (h.0, has_front code (pc + 1) a b h.1)

pub has_back : (code : List CodeStatement) (pc : ℕ) (a b : List CodeStatement) → HasAt code pc (a ++ b) → HasAt code (pc + length a) b
has_back code pc [] b h = let e : pc ≡ pc + 0 = omega arith in subst (λ n. HasAt code n b) e h
has_back code pc (i ∷ a) b h =
    let e : pc + 1 + length a ≡ pc + length (i ∷ a) = omega arith in
    subst (λ n. HasAt code n b) e (has_back code (pc + 1) a b h.1)

pub has_all : (is pre : List CodeStatement) → HasAt (pre ++ is) (length pre) is
has_all [] pre = tt
has_all (i ∷ is) pre =
    let within : length pre < length (pre ++ i ∷ is) = omega (arith, length-append pre (i ∷ is)) in
    let here = slice_get-get_or (pre ++ i ∷ is) (length pre) i within ∙ ap Some (get_or-append_seam pre i is i) in
    let n : length (pre ++ i ∷ []) ≡ length pre + 1 = omega (arith, length-append pre (i ∷ [])) in
    let rest = has_all is (pre ++ i ∷ []) in
    let rest' = subst (λ l. HasAt l (length (pre ++ i ∷ [])) is) (append_assoc pre (i ∷ []) is) rest in
    (here, subst (λ m. HasAt (pre ++ i ∷ is) m is) n rest')

-- the code of a node is as long as the node
mutual
  pub node_length : (place : Name → ℕ) (n : Node) (d base : ℕ) → length (node_code place n d base) ≡ size n
  node_length place (simple line what) d base = omega arith
  node_length place (label line l) d base = omega arith
  node_length place (jump line l) d base = omega arith
  node_length place (choice line test first close) d base =
      omega (arith, block_length place first d (base + 1), length-append (block_code place first d (base + 1)) (statement close EndIf ∷ []))
  node_length place (choice_else line test first mid second close) d base =
      let s = block_code place second d (base + 1 + sizes first + 1) in
      omega (
        arith,
        block_length place first d (base + 1),
        block_length place second d (base + 1 + sizes first + 1),
        length-append s
            (statement close EndIf ∷ []),
        length-append (block_code place first d (base + 1))
            (statement mid (Else (base + 1 + sizes first + 1 + sizes second + 1)) ∷ (s ++ statement close EndIf ∷ [])),
      )
  node_length place (do_loop line var init limit step body close) d base =
      omega (arith, block_length place body (suc d) (base + 1), length-append (block_code place body (suc d) (base + 1)) (statement close (EndDo var d (base + 1)) ∷ []))
  node_length place (meas line feature body close) d base =
      omega (arith, block_length place body d (base + 1), length-append (block_code place body d (base + 1)) (statement close EndMes ∷ []))
  node_length place (select line value cases close) d base =
      omega (
        arith,
        cases_length place cases d (base + 1) (base + 1 + case_sizes cases + 1),
        length-append
            (case_code place cases d (base + 1) (base + 1 + case_sizes cases + 1)) (statement close EndSel ∷ []),
      )
  node_length place (ending line) d base = omega arith

  pub block_length : (place : Name → ℕ) (b : Block) (d base : ℕ) → length (block_code place b d base) ≡ sizes b
  block_length place done d base = refl
  block_length place (then n b) d base =
      omega (arith, node_length place n d base, block_length place b d (base + size n), length-append (node_code place n d base) (block_code place b d (base + size n)))

  pub cases_length : (place : Name → ℕ) (cs : Cases) (d base behind : ℕ) → length (case_code place cs d base behind) ≡ case_sizes cs
  cases_length place no_more d base behind = refl
  cases_length place (one_case line v b close rest) d base behind =
      let tail = case_code place rest d (base + 1 + sizes b + 1) behind in
      omega (
        arith,
        block_length place b d (base + 1),
        cases_length place rest d (base + 1 + sizes b + 1) behind,
        length-append
            (block_code place b d (base + 1)) (statement close (EndCas behind) ∷ tail),
      )
  cases_length place (default line b close) d base behind =
      omega (arith, block_length place b d (base + 1), length-append (block_code place b d (base + 1)) (statement close (EndCas behind) ∷ []))

pub number_zero : (b : Block) (base : ℕ) → number_at b base 0 ≡ base
number_zero done base = refl
number_zero (then n b) base = refl

pub past_end : (b : Block) (base i : ℕ) → node_at b i ≡ None → number_at b base i ≡ base + sizes b
past_end done base i e = omega arith
past_end (then n b) base zero e = cc
past_end (then n b) base (suc i) e = omega (arith, past_end b (base + size n) i e)

pub number_next : (b : Block) (base i : ℕ) (n : Node) → node_at b i ≡ Some n → number_at b base (suc i) ≡ number_at b base i + size n
number_next done base i n e = cc
number_next (then m b) base zero n e = number_zero b (base + size m) ∙ ap (λ x. base + size x) (same_node m n e)
number_next (then m b) base (suc i) n e = number_next b (base + size m) i n e

pub has_node : (code : List CodeStatement) (place : Name → ℕ) (b : Block) (d base i : ℕ) (n : Node) → node_at b i ≡ Some n
    → HasAt code base (block_code place b d base) → HasAt code (number_at b base i) (node_code place n d (number_at b base i))
has_node code place done d base i n e h = cc
has_node code place (then m b) d base zero n e h =
    subst (λ x. HasAt code base (node_code place x d base)) (same_node m n e) (has_front code base (node_code place m d base) _ h)
has_node code place (then m b) d base (suc i) n e h =
    has_node code place b d (base + size m) i n e
    (subst (λ k. HasAt code (base + k) (block_code place b d (base + size m))) (node_length place m d base)
    (has_back code base (node_code place m d base) _ h))

pub jumps_at : (b : Block) (around : List Block) (i : ℕ) (n : Node) → node_at b i ≡ Some n → Jumps b around → NodeJumps n around
jumps_at done around i n e h = cc
jumps_at (then m b) around zero n e h = subst (λ x. NodeJumps x around) (same_node m n e) h.0
jumps_at (then m b) around (suc i) n e h = jumps_at b around i n e h.1

pub deep_at : (b : Block) (d i : ℕ) (n : Node) → node_at b i ≡ Some n → Deep b d → NodeDeep n d
deep_at done d i n e h = cc
deep_at (then m b) d zero n e h = subst (λ x. NodeDeep x d) (same_node m n e) h.0
deep_at (then m b) d (suc i) n e h = deep_at b d i n e h.1

-- each of these labels has that place
abbrev pub Marked : (Name → ℕ) → List Mark → Type 0
Marked place [] = Unit {0}
Marked place (m ∷ ms) = (place m.0 ≡ m.1) × Marked place ms

pub marked_front : (place : Name → ℕ) (a b : List Mark) → Marked place (a ++ b) → Marked place a
marked_front place [] b h = tt
marked_front place (m ∷ a) b h = (h.0, marked_front place a b h.1)

pub marked_back : (place : Name → ℕ) (a b : List Mark) → Marked place (a ++ b) → Marked place b
marked_back place [] b h = h
marked_back place (m ∷ a) b h = marked_back place a b h.1

pub marked_at : (place : Name → ℕ) (b : Block) (base i : ℕ) (n : Node) → node_at b i ≡ Some n → Marked place (marks b base) → Marked place (node_marks n (number_at b base i))
marked_at place done base i n e h = cc
marked_at place (then m b) base zero n e h =
    subst (λ x. Marked place (node_marks x base)) (same_node m n e) (marked_front place (node_marks m base) _ h)
marked_at place (then m b) base (suc i) n e h =
    marked_at place b (base + size m) i n e (marked_back place (node_marks m base) _ h)

-- a label's place in its block
pub label_at : (b : Block) (l : Name) (k : ℕ) → label_index b l ≡ Some k → (line : ℕ) × (node_at b k ≡ Some (label line l))
label_at b l k e = let p = found_stands b l k e in (p.line, p.stands)

-- labels that stand once have the places that a search gives
found_else : (m : Mark) (ms : List Mark) (l : Name) (t : Bool) → is_same_label m.0 l ≡ t → (m.0 ≡ l → ⊥) → if_true t m.1 (place_in ms l) ≡ place_in ms l
found_else m ms l true e other = absurd (other (same_label m.0 l e))
found_else m ms l false e other = refl

still_marked : (m : Mark) (ms rest : List Mark) → Absent m.0 rest → Marked (place_in ms) rest → Marked (place_in (m ∷ ms)) rest
still_marked m ms [] a h = tt
still_marked m ms (r ∷ rest) a h =
    (found_else m ms r.0 (is_same_label m.0 r.0) refl (λ e. a.0 (sym e)) ∙ h.0, still_marked m ms rest a.1 h.1)

found_first : (m : Mark) (ms : List Mark) (t : Bool) → is_same_label m.0 m.0 ≡ t → if_true t m.1 (place_in ms m.0) ≡ m.1
found_first m ms true e = refl
found_first m ms false e = absurd (differ (sym e ∙ label_itself m.0))
  where
    differ : false ≡ true → ⊥
    differ e = cc

pub once_marked : (ms : List Mark) → Once ms → Marked (place_in ms) ms
once_marked [] h = tt
once_marked (m ∷ ms) h =
    (found_first m ms (is_same_label m.0 m.0) refl, still_marked m ms ms h.0 (once_marked ms h.1))

-- What the assembler's writes come to.
use Rattle.std.proofs.Common.{◌≡◌, ℕ, ◌+◌, ◌≤◌, Option, Some, None, Result, Ok, Err, List, [], ◌∷◌, ◌++◌, length, sym, ap, ◌∙◌, arith, append_assoc, length-append, add-one}
use Rattle.std.specs.Prelude.{ℤ, OnOk}
use Rattle.vcm_spec.specs.declared.expression.Item.{Item}
use Rattle.vcm_spec.specs.Expression.{Tree, spelling}
use Rattle.vcm_spec.specs.Program.{Label as Name, Node, Block, Cases, then, size, sizes, choice, choice_else, do_loop, meas, one_case}
use Rattle.vcm_nodes.specs.Nodes.{choice_by}
use Rattle.vcm_code.specs.declared.op.Op.TheVariants.{If, Else, EndIf, Do, EndDo, Meas, EndMes, Case, EndCas}
use Rattle.vcm_code.specs.Code.{Op, CodeStatement, statement}
use Rattle.vcm_asm.specs.inner.Targets.{Retargets}
use Rattle.vcm_asm.specs.Assembled.{node_code, block_code, case_code}
use Rattle.vcm_asm.proofs.Place.{node_length, block_length}

pub block_grows : (to : Name → ℕ) (n : Node) (b : Block) (d : ℕ) (items new : List CodeStatement) → new ≡ items ++ node_code to n d (length items)
    → new ++ block_code to b d (length new) ≡ items ++ block_code to (then n b) d (length items)
block_grows to n b d items new e =
    let own = node_code to n d (length items) in
    let len : length new ≡ length items + size n = omega (arith, ap length e, length-append items own, node_length to n d (length items)) in
    ap (λ k. new ++ block_code to b d k) len
    ∙ ap (λ l. l ++ block_code to b d (length items + size n)) e
    ∙ append_assoc items own (block_code to b d (length items + size n))

-- a statement and a block behind it
pub opened : (to : Name → ℕ) (b : Block) (d : ℕ) (old c1 c2 : List CodeStatement) (s : CodeStatement) → c1 ≡ old ++ s ∷ []
    → c2 ≡ c1 ++ block_code to b d (length c1) → c2 ≡ old ++ s ∷ block_code to b d (length old + 1)
opened to b d old c1 c2 s e1 e2 =
    let l1 : length c1 ≡ length old + 1 = omega (arith, ap length e1, length-append old (s ∷ [])) in
    e2 ∙ ap (λ k. c1 ++ block_code to b d k) l1
    ∙ ap (λ l. l ++ block_code to b d (length old + 1)) e1
    ∙ append_assoc old (s ∷ []) (block_code to b d (length old + 1))

pub opened_length : (to : Name → ℕ) (b : Block) (d : ℕ) (old c2 : List CodeStatement) (s : CodeStatement) → c2 ≡ old ++ s ∷ block_code to b d (length old + 1) → length c2 ≡ length old + 1 + sizes b
opened_length to b d old c2 s e =
    omega (arith, ap length e, length-append old (s ∷ block_code to b d (length old + 1)), block_length to b d (length old + 1))

-- a MEAS block
pub wrote_meas : (to : Name → ℕ) (body : Block) (d line feature close : ℕ) (old c1 c2 c3 : List CodeStatement) → c1 ≡ old ++ statement line (Meas feature) ∷ []
    → c2 ≡ c1 ++ block_code to body d (length c1) → c3 ≡ c2 ++ statement close EndMes ∷ [] → c3 ≡ old ++ node_code to (meas line feature body close) d (length old)
wrote_meas to body d line feature close old c1 c2 c3 e1 e2 e3 =
    let s = statement line (Meas feature) in
    let last = statement close EndMes in
    e3 ∙ ap (λ l. l ++ last ∷ []) (opened to body d old c1 c2 s e1 e2)
    ∙ append_assoc old (s ∷ block_code to body d (length old + 1)) (last ∷ [])

-- an opening statement's placeholder, in the form in which the program's meaning writes it
pub wrote_if : (to : Name → ℕ) (first : Block) (d line : ℕ) (test : Tree) (close : ℕ) (items : List Item) (old c1 c2 c3 c4 : List CodeStatement) (start end : ℕ)
    → items ≡ spelling test → start ≡ length old → c1 ≡ old ++ statement line (If items 0) ∷ [] → c2 ≡ c1 ++ block_code to first d (length c1) → end ≡ length c2
    → Retargets c2 start end c3 → c4 ≡ c3 ++ statement close EndIf ∷ [] → c4 ≡ old ++ node_code to (choice line test first close) d (length old)
wrote_if to first d line test close items old c1 c2 c3 c4 start end it m1 e1 e2 m2 st e4 =
    let base = length old in
    let s0 = statement line (If items 0) in
    let body = block_code to first d (base + 1) in
    let last = statement close EndIf in
    let o = opened to first d old c1 c2 s0 e1 e2 in
    let at : end ≡ base + 1 + sizes first = m2 ∙ opened_length to first d old c2 s0 o in
    e4
    ∙ ap (λ l. l ++ last ∷ []) (st old body s0 o m1)
    ∙ append_assoc old (statement line (If items end) ∷ body) (last ∷ [])
    ∙ ap (λ k. old ++ (statement line (If items k) ∷ (body ++ last ∷ []))) at
    ∙ ap (λ e. old ++ (statement line (If e (base + 1 + sizes first)) ∷ (body ++ last ∷ []))) it

pub wrote_if_else : (to : Name → ℕ) (first second : Block) (d line : ℕ) (test : Tree) (mid close : ℕ) (items : List Item)
    (old c1 c2 c3 c4 c5 c6 c7 : List CodeStatement) (start middle after end : ℕ) → items ≡ spelling test → start ≡ length old
    → c1 ≡ old ++ statement line (If items 0) ∷ [] → c2 ≡ c1 ++ block_code to first d (length c1) → middle ≡ length c2 → c3 ≡ c2 ++ statement mid (Else 0) ∷ []
    → after ≡ length c3 → Retargets c3 start after c4 → c5 ≡ c4 ++ block_code to second d (length c4) → end ≡ length c5 → Retargets c5 middle (end + 1) c6
    → c7 ≡ c6 ++ statement close EndIf ∷ [] → c7 ≡ old ++ node_code to (choice_else line test first mid second close) d (length old)
wrote_if_else to first second d line test mid close items old c1 c2 c3 c4 c5 c6 c7 start middle after end it m1 e1 e2 m2 e3 m3 st1 e5 m5 st2 e7 =
    let base = length old in
    let s0 = statement line (If items 0) in
    let s1 = statement line (If items after) in
    let t0 = statement mid (Else 0) in
    let t1 = statement mid (Else (end + 1)) in
    let last = statement close EndIf in
    let one = block_code to first d (base + 1) in
    let front = old ++ s1 ∷ one in
    let two = block_code to second d (length front + 1) in
    let o = opened to first d old c1 c2 s0 e1 e2 in
    let l2 = opened_length to first d old c2 s0 o in
    let o3 : c3 ≡ old ++ s0 ∷ (one ++ t0 ∷ []) = e3 ∙ ap (λ l. l ++ t0 ∷ []) o ∙ append_assoc old (s0 ∷ one) (t0 ∷ []) in
    let o4 : c4 ≡ front ++ t0 ∷ [] = st1 old (one ++ t0 ∷ []) s0 o3 m1 ∙ sym (append_assoc old (s1 ∷ one) (t0 ∷ [])) in
    let lf : length front ≡ base + 1 + sizes first = omega (arith, length-append old (s1 ∷ one), block_length to first d (base + 1)) in
    let o5 : c5 ≡ front ++ t0 ∷ two = opened to second d front c4 c5 t0 o4 e5 in
    let l5 = opened_length to second d front c5 t0 o5 in
    let at2 : middle ≡ length front = omega (arith, m2, l2, lf) in
    let at3 : after ≡ base + 1 + sizes first + 1 = omega (arith, m3, ap length e3, length-append c2 (t0 ∷ []), l2) in
    let at5 : end + 1 ≡ base + 1 + sizes first + 1 + sizes second + 1 = omega (arith, m5, l5, lf) in
    let from : length front + 1 ≡ base + 1 + sizes first + 1 = omega (arith, lf) in
    e7
    ∙ ap (λ l. l ++ last ∷ []) (st2 front two t0 o5 at2)
    ∙ append_assoc front (t1 ∷ two) (last ∷ [])
    ∙ append_assoc old (s1 ∷ one) (t1 ∷ (two ++ last ∷ []))
    ∙ ap (λ k. old ++ (statement line (If items k) ∷ (one ++ (t1 ∷ (two ++ last ∷ []))))) at3
    ∙ ap (λ e. old ++ (statement line (If e (base + 1 + sizes first + 1)) ∷ (one ++ (t1 ∷ (two ++ last ∷ []))))) it
    ∙ ap (λ k. old ++ (statement line (If (spelling test) (base + 1 + sizes first + 1)) ∷ (one ++ (statement mid (Else k) ∷ (two ++ last ∷ []))))) at5
    ∙ ap (λ k. old ++ (statement line (If (spelling test) (base + 1 + sizes first + 1)) ∷
    (one ++ (statement mid (Else (base + 1 + sizes first + 1 + sizes second + 1)) ∷ (block_code to second d k ++ last ∷ []))))) from

pub wrote_do : (to : Name → ℕ) (body : Block) (d line v : ℕ) (init limit step : Tree) (close : ℕ) (old c1 c2 c3 c4 : List CodeStatement) (start end : ℕ)
    (op : Op) → op ≡ Do v d (spelling init) (spelling limit) (spelling step) 0 → start ≡ length old → c1 ≡ old ++ statement line op ∷ []
    → c2 ≡ c1 ++ block_code to body (d + 1) (length c1) → end ≡ length c2 → Retargets c2 start (end + 1) c3
    → c4 ≡ c3 ++ statement close (EndDo v d (start + 1)) ∷ [] → c4 ≡ old ++ node_code to (do_loop line v init limit step body close) d (length old)
wrote_do to body d line v init limit step close old c1 c2 c3 c4 start end op is m1 e1 e2 m2 st e4 =
    let base = length old in
    let s0 = statement line (Do v d (spelling init) (spelling limit) (spelling step) 0) in
    let own = block_code to body (d + 1) (base + 1) in
    let f1 : c1 ≡ old ++ s0 ∷ [] = e1 ∙ ap (λ o. old ++ statement line o ∷ []) is in
    let o = opened to body (d + 1) old c1 c2 s0 f1 e2 in
    let l2 = opened_length to body (d + 1) old c2 s0 o in
    let last = statement close (EndDo v d (start + 1)) in
    let exit = base + 1 + sizes body + 1 in
    let at3 : end + 1 ≡ base + 1 + sizes body + 1 = omega (arith, m2, l2) in
    let at1 : start + 1 ≡ base + 1 = omega (arith, m1) in
    e4
    ∙ ap (λ l. l ++ last ∷ []) (st old own s0 o m1)
    ∙ append_assoc old (statement line (Do v d (spelling init) (spelling limit) (spelling step) (end + 1)) ∷ own) (last ∷ [])
    ∙ ap (λ k. old ++ (statement line (Do v d (spelling init) (spelling limit) (spelling step) k) ∷ (own ++ last ∷ []))) at3
    ∙ ap (λ k. old ++ (statement line (Do v d (spelling init) (spelling limit) (spelling step) exit) ∷ (own ++ statement close (EndDo v d k) ∷ []))) at1
    ∙ ap (λ k. old ++ (statement line (Do v d (spelling init) (spelling limit) (spelling step) exit) ∷ (block_code to body k (base + 1) ++ statement close (EndDo v d (base + 1)) ∷ []))) (add-one d)

-- a CASE block, with the other blocks behind it
pub cases_grow : (to : Name → ℕ) (b : Block) (d line : ℕ) (v : ℤ) (close : ℕ) (rest : Cases) (behind : ℕ) (old c1 c2 c3 : List CodeStatement) → c1 ≡ old ++ statement line Case ∷ []
    → c2 ≡ c1 ++ block_code to b d (length c1) → c3 ≡ c2 ++ statement close (EndCas behind) ∷ []
    → c3 ++ case_code to rest d (length c3) behind ≡ old ++ case_code to (one_case line v b close rest) d (length old) behind
cases_grow to b d line v close rest behind old c1 c2 c3 e1 e2 e3 =
    let s = statement line Case in
    let t = statement close (EndCas behind) in
    let own = block_code to b d (length old + 1) in
    let tail = case_code to rest d (length old + 1 + sizes b + 1) behind in
    let o = opened to b d old c1 c2 s e1 e2 in
    let l2 = opened_length to b d old c2 s o in
    let l3 : length c3 ≡ length old + 1 + sizes b + 1 = omega (arith, ap length e3, length-append c2 (t ∷ []), l2) in
    ap (λ k. c3 ++ case_code to rest d k behind) l3
    ∙ ap (λ l. l ++ tail) (e3 ∙ ap (λ l. l ++ t ∷ []) o ∙ append_assoc old (s ∷ own) (t ∷ []))
    ∙ append_assoc old (s ∷ (own ++ t ∷ [])) tail
    ∙ ap (λ l. old ++ (s ∷ l)) (append_assoc own (t ∷ []) tail)

pub put_length : (c c' : List CodeStatement) (s : CodeStatement) → c' ≡ c ++ s ∷ [] → length c' ≡ length c + 1
put_length c c' s e = omega (arith, ap length e, length-append c (s ∷ []))

pub block_written : (to : Name → ℕ) (b : Block) (d : ℕ) (c c' : List CodeStatement) → c' ≡ c ++ block_code to b d (length c) → length c' ≡ length c + sizes b
block_written to b d c c' e =
    omega (arith, ap length e, length-append c (block_code to b d (length c)), block_length to b d (length c))

-- a choice has at least its IF, its first block and its ENDIF
pub choice_size : (line : ℕ) (test : Tree) (first : Block) (other : Option (ℕ × Block)) (close : ℕ) → sizes first + 2 ≤ size (choice_by line test first other close)
choice_size line test first None close = omega arith
choice_size line test first (Some p) close = omega arith

-- what is known where a result is Ok
pub on_ok : {A E P Q : Type 0} (r : Result A E) → OnOk r P → (P → Q) → OnOk r Q
on_ok (Ok x) p f = f p
on_ok (Err e) p f = tt

pub ok_too : {A E Q : Type 0} (r : Result A E) → Q → OnOk r Q
ok_too (Ok x) q = q
ok_too (Err e) q = tt

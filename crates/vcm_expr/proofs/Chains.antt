-- Steps of a chain of operands, of a relation, and of what stands in parentheses.
use Rattle.std.proofs.Common.{◌≡◌, ℕ, zero, suc, ◌-◌, ◌<◌, ◌≤◌, Bool, true, false, List, [], ◌∷◌, length, Option, Result, Ok, Err, refl, sym, ap, ◌∙◌, inl, inr, arith}
use Rattle.std.specs.Prelude.{IfOk, IfErr}
use Rattle.vcm_lines.specs.Fault.{NoMemoryOr}
use Rattle.vcm_lines.specs.declared.fault.FaultCode.{FaultCode}
use Rattle.vcm_lines.specs.declared.fault.FaultCode.TheVariants.{BadSyntax, TooDeep}
use Rattle.vcm_lines.specs.declared.fault.SourceFault.{SourceFault}
use Rattle.vcm_spec.specs.declared.expression.BinaryOp.{BinaryOp}
use Rattle.vcm_expr.specs.declared.expression.Prefix.{Prefix}
use Rattle.vcm_expr.specs.declared.symbol.Symbol.{Symbol}
use Rattle.vcm_expr.specs.declared.symbol.Symbol.TheVariants.{Closing}
use Rattle.vcm_expr.specs.declared.levels.Chain.{Chain}
use Rattle.vcm_expr.specs.declared.levels.Chain.TheVariants.{Disjunction, Conjunction, Sum, Product}
use Rattle.vcm_expr.specs.declared.levels.Front.{Front}
use Rattle.vcm_expr.specs.declared.levels.Front.TheVariants.{Negation, Sign}
use Rattle.vcm_expr.specs.declared.expression.Size.{Size}
use Rattle.vcm_expr.specs.Source.{Source, Prefixed, Pair, is_small, IsSize}
use Rattle.vcm_expr.specs.Parser.{Taken, Parser, and_parse, phrase, made, made_if, closed, found_if, fronted_by, with_fronts, more, chain_by, once, once_by, disjunction_by, expression}
use Rattle.vcm_expr.specs.inner.Levels.{group_in, chain_in, chain_op, link_in, front_in, front_of, fronted_in, signed_in, NextOf, NoNext, NotClosing, Told, Reads}
use Rattle.vcm_expr.proofs.Fronts.{with_fronts-Err, fronted-none, fronted-next}

module _ (small : Source → Bool) where
  -- ---- a chain

  -- one more pair, and then the rest of the chain
  abbrev pub join : Parser → (Symbol → Option BinaryOp) → ℕ → Source → BinaryOp → Source → List Symbol → Result Taken FaultCode
  join P op_of n t op u s = and_parse (made small (Pair op t u) s) (more small P op_of n)

  -- no operator: the chain ends
  pub more_stops : (P : Parser) (op_of : Symbol → Option BinaryOp) (n : ℕ) (t : Source) (ts : List Symbol) → NoNext op_of ts → more small P op_of n t ts ≡ phrase t ts
  more_stops P op_of n t [] h = refl
  more_stops P op_of zero t (k ∷ r) h = refl
  more_stops P op_of (suc n) t (k ∷ r) h =
      ap (λ (o : Option BinaryOp). found_if o (λ op. and_parse (P r) (join P op_of n t op)) (phrase t (k ∷ r))) h

  -- an operator: what the next operand does
  pub more_next : (P : Parser) (op_of : Symbol → Option BinaryOp) (n : ℕ) (t : Source) (ts : List Symbol) (op : BinaryOp) (after : List Symbol) → NextOf op_of ts op after → length ts ≤ n
      → (m : ℕ) × (length after ≤ m) × (more small P op_of n t ts ≡ and_parse (P after) (join P op_of m t op))
  more_next P op_of n t [] op after h le = absurd h
  more_next P op_of zero t (k ∷ r) op after h le = absurd (omega arith)
  more_next P op_of (suc n) t (k ∷ r) op after h le =
      let size = ap length h.1 in (
        n,
        omega arith,
        ap (λ (o : Option BinaryOp). found_if o (λ op. and_parse (P r) (join P op_of n t op)) (phrase t (k ∷ r))) h.0
            ∙ ap (λ (l : List Symbol). and_parse (P l) (join P op_of n t op)) h.1,
      )

  -- it is read, and the pair is within the limits
  pub more_on : (P : Parser) (op_of : Symbol → Option BinaryOp) (n : ℕ) (t : Source) (ts : List Symbol) (op : BinaryOp) (after : List Symbol) (u : Source)
      (s : List Symbol) → NextOf op_of ts op after → length ts ≤ n → P after ≡ phrase u s → small (Pair op t u) ≡ true → length s ≤ length after
      → (m : ℕ) × (length s ≤ m) × (more small P op_of n t ts ≡ more small P op_of m (Pair op t u) s)
  more_on P op_of n t ts op after u s h le e w short =
      let a = more_next P op_of n t ts op after h le in
      (a.0, omega (arith, a.1), a.2 ∙ ap (λ (o : Result Taken FaultCode). and_parse o (join P op_of a.0 t op)) e ∙ ap (λ (b : Bool). and_parse (made_if b (Pair op t u) s) (more small P op_of a.0)) w)

  -- the pair is too deep
  pub more_big : (P : Parser) (op_of : Symbol → Option BinaryOp) (n : ℕ) (t : Source) (ts : List Symbol) (op : BinaryOp) (after : List Symbol) (u : Source)
      (s : List Symbol) → NextOf op_of ts op after → length ts ≤ n → P after ≡ phrase u s → small (Pair op t u) ≡ false
      → more small P op_of n t ts ≡ Err TooDeep
  more_big P op_of n t ts op after u s h le e w =
      let a = more_next P op_of n t ts op after h le in
      a.2 ∙ ap (λ (o : Result Taken FaultCode). and_parse o (join P op_of a.0 t op)) e ∙ ap (λ (b : Bool). and_parse (made_if b (Pair op t u) s) (more small P op_of a.0)) w

  -- it fails
  pub more_fails : (P : Parser) (op_of : Symbol → Option BinaryOp) (n : ℕ) (t : Source) (ts : List Symbol) (op : BinaryOp) (after : List Symbol) (c : FaultCode)
      → NextOf op_of ts op after → length ts ≤ n → P after ≡ Err c → more small P op_of n t ts ≡ Err c
  more_fails P op_of n t ts op after c h le f =
      let a = more_next P op_of n t ts op after h le in
      a.2 ∙ ap (λ (o : Result Taken FaultCode). and_parse o (join P op_of a.0 t op)) f

  -- ---- a relation

  pub once_stops : (P : Parser) (op_of : Symbol → Option BinaryOp) (ts : List Symbol) (t : Source) (r : List Symbol) → P ts ≡ phrase t r → NoNext op_of r → once_by small P op_of ts ≡ phrase t r
  once_stops P op_of ts t r e h = ap (λ (o : Result Taken FaultCode). and_parse o (once small P op_of)) e ∙ stop r h
    where
      stop : (r : List Symbol) → NoNext op_of r → once small P op_of t r ≡ phrase t r
      stop [] h = refl
      stop (k ∷ s) h = ap (λ (o : Option BinaryOp). found_if o (λ op. and_parse (P s) (λ u s. made small (Pair op t u) s)) (phrase t (k ∷ s))) h

  once_next : (P : Parser) (op_of : Symbol → Option BinaryOp) (t : Source) (r : List Symbol) (op : BinaryOp) (after : List Symbol) → NextOf op_of r op after
      → once small P op_of t r ≡ and_parse (P after) (λ u s. made small (Pair op t u) s)
  once_next P op_of t [] op after h = absurd h
  once_next P op_of t (k ∷ s) op after h =
      ap (λ (o : Option BinaryOp). found_if o (λ op. and_parse (P s) (λ u s. made small (Pair op t u) s)) (phrase t (k ∷ s))) h.0
      ∙ ap (λ (l : List Symbol). and_parse (P l) (λ u s. made small (Pair op t u) s)) h.1

  pub once_goes : (P : Parser) (op_of : Symbol → Option BinaryOp) (ts : List Symbol) (t : Source) (r : List Symbol) (op : BinaryOp) (after : List Symbol)
      → P ts ≡ phrase t r → NextOf op_of r op after → once_by small P op_of ts ≡ and_parse (P after) (λ u s. made small (Pair op t u) s)
  once_goes P op_of ts t r op after e h = ap (λ (o : Result Taken FaultCode). and_parse o (once small P op_of)) e ∙ once_next P op_of t r op after h

  pub once_made : (P : Parser) (op_of : Symbol → Option BinaryOp) (ts : List Symbol) (t : Source) (r : List Symbol) (op : BinaryOp) (after : List Symbol)
      (u v : Source) (s : List Symbol) → P ts ≡ phrase t r → NextOf op_of r op after → P after ≡ phrase u s → small (Pair op t u) ≡ true → v ≡ Pair op t u
      → once_by small P op_of ts ≡ phrase v s
  once_made P op_of ts t r op after u v s e h f w is =
      once_goes P op_of ts t r op after e h ∙ ap (λ (o : Result Taken FaultCode). and_parse o (λ u s. made small (Pair op t u) s)) f
      ∙ ap (λ (b : Bool). made_if b (Pair op t u) s) w ∙ ap (λ (x : Source). phrase x s) (sym is)

  pub once_big : (P : Parser) (op_of : Symbol → Option BinaryOp) (ts : List Symbol) (t : Source) (r : List Symbol) (op : BinaryOp) (after : List Symbol)
      (u : Source) (s : List Symbol) → P ts ≡ phrase t r → NextOf op_of r op after → P after ≡ phrase u s → small (Pair op t u) ≡ false
      → once_by small P op_of ts ≡ Err TooDeep
  once_big P op_of ts t r op after u s e h f big =
      once_goes P op_of ts t r op after e h ∙ ap (λ (o : Result Taken FaultCode). and_parse o (λ u s. made small (Pair op t u) s)) f ∙ ap (λ (b : Bool). made_if b (Pair op t u) s) big

  pub once_fails : (P : Parser) (op_of : Symbol → Option BinaryOp) (ts : List Symbol) (t : Source) (r : List Symbol) (op : BinaryOp) (after : List Symbol)
      (c : FaultCode) → P ts ≡ phrase t r → NextOf op_of r op after → P after ≡ Err c → once_by small P op_of ts ≡ Err c
  once_fails P op_of ts t r op after c e h f = once_goes P op_of ts t r op after e h ∙ ap (λ (o : Result Taken FaultCode). and_parse o (λ u s. made small (Pair op t u) s)) f

-- each chain is one of its operands
pub chain_is : (l : Chain) (room : ℕ) (ts : List Symbol) → chain_in l room ts ≡ chain_by is_small (link_in l room) (chain_op l) ts
chain_is Disjunction room ts = refl
chain_is Conjunction room ts = refl
chain_is Sum room ts = refl
chain_is Product room ts = refl

-- what has signs before it
pub front_is : (f : Front) (room : ℕ) (ts : List Symbol) → front_in f room ts ≡ fronted_by is_small (fronted_in f room) (front_of f) ts
front_is Negation room ts = refl
front_is Sign room ts = refl

-- what was read of a chain, and what the rest adds to it
abbrev pub Runs : Chain → ℕ → List Symbol → Source → List Symbol → Type 0
Runs l room words t rest = (n : ℕ) × (length rest ≤ n) × (chain_in l room words ≡ more is_small (link_in l room) (chain_op l) n t rest)

-- a chain begins with its first operand
pub chain_begins : (l : Chain) (room : ℕ) (ts : List Symbol) (t : Source) (r : List Symbol) → link_in l room ts ≡ phrase t r → (n : ℕ) × (length r ≤ n)
    × (chain_in l room ts ≡ more is_small (link_in l room) (chain_op l) n t r)
chain_begins l room ts t r e = (length r, omega arith, chain_is l room ts ∙ ap (λ (o : Result Taken FaultCode). and_parse o (λ t r. more is_small (link_in l room) (chain_op l) (length r) t r)) e)

-- one more operand is read, and the pair is within the limits
pub chain_on : (l : Chain) (room : ℕ) (words : List Symbol) (t v : Source) (ts : List Symbol) (op : BinaryOp) (after : List Symbol) (u : Source) (s : List Symbol)
    → (n : ℕ) × (length ts ≤ n) × (chain_in l room words ≡ more is_small (link_in l room) (chain_op l) n t ts)
    → NextOf (chain_op l) ts op after → link_in l room after ≡ phrase u s → is_small (Pair op t u) ≡ true → v ≡ Pair op t u → length s ≤ length after
    → (m : ℕ) × (length s ≤ m) × (chain_in l room words ≡ more is_small (link_in l room) (chain_op l) m v s)
chain_on l room words t v ts op after u s runs h e w is short =
    let on = more_on is_small (link_in l room) (chain_op l) runs.0 t ts op after u s h runs.1 e w short in
    (on.0, on.1, runs.2 ∙ on.2 ∙ ap (λ (x : Source). more is_small (link_in l room) (chain_op l) on.0 x s) (sym is))

-- the operand behind an operator is refused
pub chain_stops : (l : Chain) (room : ℕ) (words : List Symbol) (t : Source) (ts : List Symbol) (op : BinaryOp) (after : List Symbol) (c : FaultCode)
    → (n : ℕ) × (length ts ≤ n) × (chain_in l room words ≡ more is_small (link_in l room) (chain_op l) n t ts)
    → NextOf (chain_op l) ts op after → link_in l room after ≡ Err c → chain_in l room words ≡ Err c
chain_stops l room words t ts op after c runs h f = runs.2 ∙ more_fails is_small (link_in l room) (chain_op l) runs.0 t ts op after c h runs.1 f

-- ---- refusals

pub told_same : (line : ℕ) (o p : Result Taken FaultCode) (f : SourceFault) → ((c : FaultCode) → o ≡ Err c → p ≡ Err c) → NoMemoryOr (Told line o) f → NoMemoryOr (Told line p) f
told_same line o p f pass (inl m) = inl m
told_same line o p f pass (inr t) = inr (t.0, pass f.code t.1)

-- the first operand of a chain is refused
pub chain_fails : (l : Chain) (room : ℕ) (ts : List Symbol) (c : FaultCode) → link_in l room ts ≡ Err c → chain_in l room ts ≡ Err c
chain_fails l room ts c e = chain_is l room ts ∙ ap (λ (o : Result Taken FaultCode). and_parse o (λ t r. more is_small (link_in l room) (chain_op l) (length r) t r)) e

-- a pair is refused
abbrev pub RefusesBig : ℕ → BinaryOp → Size → Size → SourceFault → Type 0
RefusesBig line op a b f = (f ≡ record { code = TooDeep; line = line }) × ((e d : Source) → IsSize a e → IsSize b d → is_small (Pair op e d) ≡ false)

pub told_big : (line : ℕ) (op : BinaryOp) (a b : Size) (e d : Source) (p : Result Taken FaultCode) (f : SourceFault) → IsSize a e → IsSize b d
    → (is_small (Pair op e d) ≡ false → p ≡ Err TooDeep) → NoMemoryOr (RefusesBig line op a b) f → NoMemoryOr (Told line p) f
told_big line op a b e d p f y z pass (inl m) = inl m
told_big line op a b e d p f y z pass (inr q) = inr (ap (λ (g : SourceFault). g.line) q.0, pass (q.1 e d y z) ∙ ap (λ (g : SourceFault). Err g.code) (sym q.0))

-- the pair that a chain makes is refused
pub chain_big : (l : Chain) (room : ℕ) (words : List Symbol) (t : Source) (ts : List Symbol) (op : BinaryOp) (after : List Symbol) (u : Source) (s : List Symbol)
    → Runs l room words t ts → NextOf (chain_op l) ts op after → link_in l room after ≡ phrase u s → is_small (Pair op t u) ≡ false → chain_in l room words ≡ Err TooDeep
chain_big l room words t ts op after u s runs h e w = runs.2 ∙ more_big is_small (link_in l room) (chain_op l) runs.0 t ts op after u s h runs.1 e w

-- ---- signs and what they stand before

pub front_reads : (f : Front) (room : ℕ) (ts rest : List Symbol) (ops : _) (t u : Source) (r : List Symbol)
    → front_in f room ts ≡ with_fronts is_small ops (fronted_in f room rest) → fronted_in f room rest ≡ phrase t r
    → with_fronts is_small ops (phrase t r) ≡ phrase u r → front_in f room ts ≡ phrase u r
front_reads f room ts rest ops t u r e g h = e ∙ ap (with_fronts is_small ops) g ∙ h

pub front_fails : (f : Front) (room : ℕ) (ts rest : List Symbol) (ops : _) (c : FaultCode)
    → front_in f room ts ≡ with_fronts is_small ops (fronted_in f room rest) → fronted_in f room rest ≡ Err c → front_in f room ts ≡ Err c
front_fails f room ts rest ops c e g = e ∙ ap (with_fronts is_small ops) g ∙ with_fronts-Err is_small ops c

-- the exit where what stands under the signs is refused
pub front_told : (f : Front) (room : ℕ) (ts rest : List Symbol) (ops : _) (line : ℕ) (g : SourceFault)
    → front_in f room ts ≡ with_fronts is_small ops (fronted_in f room rest) → NoMemoryOr (Told line (fronted_in f room rest)) g
    → NoMemoryOr (Told line (front_in f room ts)) g
front_told f room ts rest ops line g e h = told_same line _ _ g (λ c. front_fails f room ts rest ops c e) h

-- the exit where a sign makes the expression too deep
pub front_big : (f : Front) (room : ℕ) (ts rest r : List Symbol) (ops : _) (size : Size) (now es : List Source) (t : Source) (line : ℕ) (g : SourceFault)
    → front_in f room ts ≡ with_fronts is_small ops (fronted_in f room rest) → fronted_in f room rest ≡ phrase t r → now ≡ t ∷ es → IsSize size t
    → NoMemoryOr (λ g. (g.line ≡ line) × ((e : Source) (es : List Source) (r : List Symbol) → now ≡ e ∷ es → IsSize size e
    → with_fronts is_small ops (phrase e r) ≡ Err g.code)) g → NoMemoryOr (Told line (front_in f room ts)) g
front_big f room ts rest r ops size now es t line g e h there z (inl m) = inl m
front_big f room ts rest r ops size now es t line g e h there z (inr p) = inr (p.0, e ∙ ap (with_fronts is_small ops) h ∙ p.1 t es r there z)

-- what has none before it
pub front_alone : (f : Front) (room : ℕ) (ts : List Symbol) → NoNext (front_of f) ts → fronted_in f room ts ≡ front_in f room ts
front_alone f room ts h = sym (front_is f room ts ∙ fronted-none is_small (fronted_in f room) (front_of f) ts h)

-- what has one before it
pub front_first : (f : Front) (room : ℕ) (ts : List Symbol) (sign : Prefix) (after : List Symbol) → NextOf (front_of f) ts sign after → signed_in sign f room after ≡ front_in f room ts
front_first f room ts sign after h =
    sym (front_is f room ts ∙ fronted-next is_small (fronted_in f room) (front_of f) ts sign after h
    ∙ ap (λ (o : Result Taken FaultCode). and_parse o (λ t r. made is_small (Prefixed sign t) r)) (sym (front_is f room after)))

pub sign_reads : (sign : Prefix) (f : Front) (room : ℕ) (ts : List Symbol) (t : Source) (r : List Symbol) → front_in f room ts ≡ phrase t r
    → is_small (Prefixed sign t) ≡ true → signed_in sign f room ts ≡ phrase (Prefixed sign t) r
sign_reads sign f room ts t r e w =
    ap (λ (o : Result Taken FaultCode). and_parse o (λ t r. made is_small (Prefixed sign t) r)) e ∙ ap (λ (b : Bool). made_if b (Prefixed sign t) r) w

pub sign_fails : (sign : Prefix) (f : Front) (room : ℕ) (ts : List Symbol) (c : FaultCode) → front_in f room ts ≡ Err c → signed_in sign f room ts ≡ Err c
sign_fails sign f room ts c e = ap (λ (o : Result Taken FaultCode). and_parse o (λ t r. made is_small (Prefixed sign t) r)) e

-- the exit where a sign makes what stands behind it too deep
pub sign_big : (sign : Prefix) (f : Front) (room : ℕ) (ts : List Symbol) (t : Source) (r : List Symbol) (size : Size) (line : ℕ) (g : SourceFault) → front_in f room ts ≡ phrase t r → IsSize size t
    → NoMemoryOr (λ g. (g ≡ record { code = TooDeep; line = line }) × ((e : Source) → IsSize size e → is_small (Prefixed sign e) ≡ false)) g → NoMemoryOr (Told line (signed_in sign f room ts)) g
sign_big sign f room ts t r size line g e z (inl m) = inl m
sign_big sign f room ts t r size line g e z (inr q) =
    inr (
      ap (λ (h : SourceFault). h.line) q.0,
      ap (λ (o : Result Taken FaultCode). and_parse o (λ t r. made is_small (Prefixed sign t) r)) e ∙ ap (λ (b : Bool). made_if b (Prefixed sign t) r) (q.1 t z)
          ∙ ap (λ (h : SourceFault). Err h.code) (sym q.0),
    )

-- what one reading says, one that is equal to it says
pub read_same : (o p : Result Taken FaultCode) → o ≡ p → (r : Result Size SourceFault) (old new : List Source) (rest : List Symbol)
    → IfOk r (λ s. Reads o old new s rest) → IfOk r (λ s. Reads p old new s rest)
read_same o p e (Ok s) old new rest r = record { tree = r.tree; read = sym e ∙ r.read; there = r.there; sized = r.sized }
read_same o p e (Err g) old new rest r = tt

pub refused_same : (o p : Result Taken FaultCode) → o ≡ p → (line : ℕ) (r : Result Size SourceFault) → IfErr r (NoMemoryOr (Told line o)) → IfErr r (NoMemoryOr (Told line p))
refused_same o p e line (Ok s) r = tt
refused_same o p e line (Err g) r = told_same line o p g (λ c h. sym e ∙ h) r

-- ---- parentheses

pub expression-zero : (small : Source → Bool) (ts : List Symbol) → expression small 0 ts ≡ Err TooDeep
unfolding expression
expression-zero small ts = refl

pub expression-suc : (small : Source → Bool) (room : ℕ) (ts : List Symbol) → expression small (suc room) ts ≡ disjunction_by small (expression small room) ts
unfolding expression
expression-suc small room ts = refl

-- within room
pub expression_within : (room : ℕ) (ts : List Symbol) → 0 < room → expression is_small room ts ≡ chain_in Disjunction (room - 1) ts
expression_within zero ts h = absurd (omega arith)
expression_within (suc room) ts h =
    let e : suc room - 1 ≡ room = omega arith in
    expression-suc is_small room ts ∙ ap (λ (n : ℕ). chain_in Disjunction n ts) (sym e)

-- no room for parentheses
pub group_full : (room : ℕ) (ts : List Symbol) → room ≡ 0 → group_in room ts ≡ Err TooDeep
group_full room ts e = ap (λ (n : ℕ). group_in n ts) e ∙ ap (λ (o : Result Taken FaultCode). and_parse o closed) (expression-zero is_small ts)

-- what stands in them fails
pub group_fails : (room : ℕ) (ts : List Symbol) (c : FaultCode) → 0 < room → chain_in Disjunction (room - 1) ts ≡ Err c → group_in room ts ≡ Err c
group_fails room ts c h f = ap (λ (o : Result Taken FaultCode). and_parse o closed) (expression_within room ts h ∙ f)

-- what stands in them is read
group_reads : (room : ℕ) (ts : List Symbol) (t : Source) (r : List Symbol) → 0 < room → chain_in Disjunction (room - 1) ts ≡ phrase t r → group_in room ts ≡ closed t r
group_reads room ts t r h f = ap (λ (o : Result Taken FaultCode). and_parse o closed) (expression_within room ts h ∙ f)

pub group_closed : (room : ℕ) (ts : List Symbol) (t : Source) (r after : List Symbol) → 0 < room → chain_in Disjunction (room - 1) ts ≡ phrase t r
    → r ≡ Closing ∷ after → group_in room ts ≡ phrase t after
group_closed room ts t r after h f e = group_reads room ts t r h f ∙ ap (closed t) e

not_closed : (t : Source) (r : List Symbol) → NotClosing r → closed t r ≡ Err BadSyntax
not_closed t [] h = refl
not_closed t (Closing ∷ r) h = absurd h
not_closed t (_ ∷ r) h = refl

pub group_open : (room : ℕ) (ts : List Symbol) (t : Source) (r : List Symbol) → 0 < room → chain_in Disjunction (room - 1) ts ≡ phrase t r → NotClosing r → group_in room ts ≡ Err BadSyntax
group_open room ts t r h f e = group_reads room ts t r h f ∙ not_closed t r e

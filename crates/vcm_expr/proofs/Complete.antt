-- The parser reads each expression that the grammar has.
use Rattle.std.proofs.Common.{Bool, true, false, ◌≡◌, ℕ, ◌+◌, ◌<◌, ◌≤◌, ◌⊎◌, inl, inr, ⊎_elim, List, [], ◌∷◌, ◌++◌, length, Option, Some, None, Result, Ok, Err}
use Rattle.std.proofs.Common.{refl, sym, ap, ◌∙◌, subst, arith, append_assoc, length-append}
use Rattle.std.proofs.lemmas.Bool.{cases_lt}
use Rattle.vcm_lines.specs.declared.fault.FaultCode.{FaultCode}
use Rattle.vcm_lines.specs.declared.fault.FaultCode.TheVariants.{TooDeep}
use Rattle.vcm_spec.specs.declared.expression.BinaryOp.{BinaryOp}
use Rattle.vcm_spec.specs.declared.expression.BinaryOp.TheVariants.{Add, Sub, Mul, Div, And, Or, Compare}
use Rattle.vcm_expr.specs.declared.expression.Prefix.{Prefix}
use Rattle.vcm_expr.specs.declared.expression.Prefix.TheVariants.{Minus, Plus, Not}
use Rattle.vcm_expr.specs.declared.expression.Term.{Term}
use Rattle.vcm_expr.specs.declared.symbol.Symbol.{Symbol}
use Rattle.vcm_expr.specs.declared.symbol.Symbol.TheVariants.{Operand, Dash, Cross, Star, Slash, AndWord, OrWord, RelationWord, Opening}
use Rattle.vcm_expr.specs.Source.{Source, Prefixed, Pair}
use Rattle.vcm_expr.specs.Grammar.{Written, Leaf, Paren, Signed, Joined, word_of, sign_word, level, sign_level, left_level, spelled, Fits, meant, nesting}
use Rattle.vcm_expr.specs.Parser.{Parser, and_parse, phrase, made, made_if, fronted_by, more, chain_by}
use Rattle.vcm_expr.specs.inner.Levels.{NoNext}
use Rattle.vcm_expr.proofs.Fronts.{fronted-next, fronted-none}
use Rattle.vcm_expr.proofs.Chains.{more_on, more_big, more_fails, more_stops}

-- how tight a part binds as an operator between two
abbrev pub part_level : Symbol → ℕ
part_level OrWord = 1
part_level AndWord = 2
part_level (RelationWord r) = 4
part_level Cross = 5
part_level Dash = 5
part_level Star = 6
part_level Slash = 6
part_level _ = 0

-- what follows can't go on with an expression of this level
abbrev pub Stops : ℕ → List Symbol → Type 0
Stops m [] = Unit {0}
Stops m (k ∷ r) = part_level k < m

-- these are the operators of a level at which operands are chained
pub record Ops (l : ℕ) (op_of : Symbol → Option BinaryOp) : Type 0 where
  pub found : (op : BinaryOp) → level op ≡ l → op_of (word_of op) ≡ Some op
  pub says : (k : Symbol) (op : BinaryOp) → op_of k ≡ Some op → (k ≡ word_of op) × (level op ≡ l)
  pub others : (k : Symbol) → part_level k < l → op_of k ≡ None
  pub left : (op : BinaryOp) → level op ≡ l → left_level op ≡ l
  pub signs : (op : Prefix) → l ≤ sign_level op → l + 1 ≤ sign_level op

-- these are the words of a level that stand before an operand
pub record Fronts (l : ℕ) (find : Symbol → Option Prefix) : Type 0 where
  pub found : (op : Prefix) → sign_level op ≡ l → find (sign_word op) ≡ Some op
  pub says : (k : Symbol) (op : Prefix) → find k ≡ Some op → (k ≡ sign_word op) × (sign_level op ≡ l)
  pub tighter : (op : Prefix) → l + 1 ≤ sign_level op → find (sign_word op) ≡ None
  pub leaf : (o : Result Term FaultCode) → find (Operand o) ≡ None
  pub opening : find Opening ≡ None
  pub joins : (op : BinaryOp) → l ≤ level op → l + 1 ≤ level op

-- a leaf of the expression has no value, for this reason
abbrev pub HasBad : FaultCode → Written → Type 0
HasBad c (Leaf (Ok t)) = ⊥
HasBad c (Leaf (Err d)) = c ≡ d
HasBad c (Paren s) = HasBad c s
HasBad c (Signed op s) = HasBad c s
HasBad c (Joined op a b) = HasBad c a ⊎ HasBad c b

pub level-le : (op : BinaryOp) → level op ≤ 6
level-le Add = omega arith
level-le Sub = omega arith
level-le Mul = omega arith
level-le Div = omega arith
level-le And = omega arith
level-le Or = omega arith
level-le (Compare r) = omega arith

pub left-le : (op : BinaryOp) → level op ≤ left_level op
left-le Add = omega arith
left-le Sub = omega arith
left-le Mul = omega arith
left-le Div = omega arith
left-le And = omega arith
left-le Or = omega arith
left-le (Compare r) = omega arith

pub sign-le : (op : Prefix) → sign_level op ≤ 7
sign-le Minus = omega arith
sign-le Plus = omega arith
sign-le Not = omega arith

part_level-is : (op : BinaryOp) → part_level (word_of op) ≡ level op
part_level-is Add = refl
part_level-is Sub = refl
part_level-is Mul = refl
part_level-is Div = refl
part_level-is And = refl
part_level-is Or = refl
part_level-is (Compare r) = refl

-- an operator stops what is tighter
word_stops : (op : BinaryOp) (m : ℕ) (r : List Symbol) → level op < m → Stops m (word_of op ∷ r)
word_stops op m r h = omega (arith, h, part_level-is op)

pub Stops-weaker : (l m : ℕ) (r : List Symbol) → l ≤ m → Stops l r → Stops m r
Stops-weaker l m [] h s = tt
Stops-weaker l m (k ∷ r) h s = omega arith

-- a test says one or the other
pub either : (b : Bool) → (b ≡ true) ⊎ (b ≡ false)
either true = inl refl
either false = inr refl

stops_none : (l : ℕ) (op_of : Symbol → Option BinaryOp) → ((k : Symbol) → part_level k < l → op_of k ≡ None) → (r : List Symbol) → Stops l r → NoNext op_of r
stops_none l op_of o [] s = tt
stops_none l op_of o (k ∷ r) s = o k s

-- no word of a level stands before an expression of a tighter one
none_first : (l : ℕ) (find : Symbol → Option Prefix) → Fronts l find → (m : ℕ) (s : Written) (r : List Symbol) → l + 1 ≤ m → Fits m s → NoNext find (spelled s ++ r)
none_first l find fs m (Leaf o) r h f = fs.leaf o
none_first l find fs m (Paren s) r h f = fs.opening
none_first l find fs m (Signed op s) r h f = fs.tighter op (omega (arith, f.0))
none_first l find fs m (Joined op a b) r h f =
    subst (λ (ts : List Symbol). NoNext find ts) (sym (append_assoc (spelled a) (word_of op ∷ spelled b) r))
    (none_first l find fs (left_level op) a (word_of op ∷ (spelled b ++ r)) (omega (arith, f.0, left-le op)) f.1)

module _ (small : Source → Bool) where
  -- some part of the expression is too big
  abbrev pub TooBig : Written → Type 0
  TooBig (Leaf o) = ⊥
  TooBig (Paren s) = TooBig s
  TooBig (Signed op s) = (small (Prefixed op (meant s)) ≡ false) ⊎ TooBig s
  TooBig (Joined op a b) = (small (Pair op (meant a) (meant b)) ≡ false) ⊎ (TooBig a ⊎ TooBig b)

  -- why the expression may be refused with this code, where so many pairs of parentheses may be opened
  abbrev pub Blames : ℕ → FaultCode → Written → Type 0
  Blames room c s = ((c ≡ TooDeep) × ((room < nesting s) ⊎ TooBig s)) ⊎ HasBad c s

  -- the expression is read, or refused for a reason
  abbrev pub Ends : Parser → ℕ → Written → List Symbol → Type 0
  Ends P room s r = (P (spelled s ++ r) ≡ phrase (meant s) r) ⊎ ((c : FaultCode) × (P (spelled s ++ r) ≡ Err c) × Blames room c s)

  -- each expression of a level is
  pub record Complete (m room : ℕ) (P : Parser) : Type 0 where
    pub by : (s : Written) (r : List Symbol) → Fits m s → Stops m r → (P (spelled s ++ r) ≡ phrase (meant s) r) ⊎ ((c : FaultCode) × (P (spelled s ++ r) ≡ Err c) × Blames room c s)

  pub blames_left : (room : ℕ) (c : FaultCode) (op : BinaryOp) (a b : Written) → Blames room c a → Blames room c (Joined op a b)
  blames_left room c op a b (inl (e, inl n)) = inl (e, inl (omega arith))
  blames_left room c op a b (inl (e, inr g)) = inl (e, inr (inr (inl g)))
  blames_left room c op a b (inr h) = inr (inl h)

  pub blames_right : (room : ℕ) (c : FaultCode) (op : BinaryOp) (a b : Written) → Blames room c b → Blames room c (Joined op a b)
  blames_right room c op a b (inl (e, inl n)) = inl (e, inl (omega arith))
  blames_right room c op a b (inl (e, inr g)) = inl (e, inr (inr (inr g)))
  blames_right room c op a b (inr h) = inr (inr h)

  pub blames_signed : (room : ℕ) (c : FaultCode) (op : Prefix) (s : Written) → Blames room c s → Blames room c (Signed op s)
  blames_signed room c op s (inl (e, inl n)) = inl (e, inl n)
  blames_signed room c op s (inl (e, inr g)) = inl (e, inr (inr g))
  blames_signed room c op s (inr h) = inr h

  module _ (l room : ℕ) (P : Parser) (op_of : Symbol → Option BinaryOp) (ops : Ops l op_of) (operands : Complete (l + 1) room P) where
    -- the chain has come past s, and goes on
    abbrev Past : Written → List Symbol → Type 0
    Past s r =
        ((n : ℕ) × (length r ≤ n) × (chain_by small P op_of (spelled s ++ r) ≡ more small P op_of n (meant s) r))
        ⊎ ((c : FaultCode) × (chain_by small P op_of (spelled s ++ r) ≡ Err c) × Blames room c s)

    one : (s : Written) (r : List Symbol) → Fits (l + 1) s → Stops (l + 1) r → Past s r
    one s r f st =
        ⊎_elim
        (λ e. inl (length r, omega arith, ap (λ o. and_parse o (λ t r. more small P op_of (length r) t r)) e))
        (λ e. inr (e.0, ap (λ o. and_parse o (λ t r. more small P op_of (length r) t r)) e.1, e.2))
        (operands.by s r f st)

    past : (s : Written) (r : List Symbol) → Fits l s → Stops (l + 1) r → Past s r
    past (Leaf o) r f st = one (Leaf o) r f st
    past (Paren s) r f st = one (Paren s) r f st
    past (Signed op s) r f st = one (Signed op s) r (ops.signs op f.0, f.1) st
    past (Joined op a b) r f st =
        ⊎_elim
        (λ tighter. one (Joined op a b) r (omega arith, f.1, f.2) st)
        (λ le.
        let same : level op ≡ l = omega (arith, f.0) in
        let fa = subst (λ n. Fits n a) (ops.left op same) f.1 in
        let fb = subst (λ n. Fits (n + 1) b) same f.2 in
        let x = word_of op ∷ (spelled b ++ r) in
        let st_a : Stops (l + 1) x = word_stops op (l + 1) (spelled b ++ r) (omega arith) in
        let flat : spelled (Joined op a b) ++ r ≡ spelled a ++ x = append_assoc (spelled a) (word_of op ∷ spelled b) r in
        let at = λ (ts : List Symbol). chain_by small P op_of ts in
        ⊎_elim
        (λ pa.
        ⊎_elim
        (λ e.
        ⊎_elim
        (λ w. let on = more_on small P op_of pa.0 (meant a) x op (spelled b ++ r) (meant b) r (ops.found op same, refl) pa.1 e w
        (omega (arith, length-append (spelled b) r)) in inl (on.0, on.1, ap at flat ∙ pa.2 ∙ on.2))
        (λ w. inr (TooDeep, ap at flat ∙ pa.2 ∙ more_big small P op_of pa.0 (meant a) x op (spelled b ++ r) (meant b) r (ops.found op same, refl) pa.1 e w, inl (refl, inr (inl w))))
        (either (small (Pair op (meant a) (meant b)))))
        (λ e. inr (e.0, ap at flat ∙ pa.2 ∙ more_fails small P op_of pa.0 (meant a) x op (spelled b ++ r) e.0 (ops.found op same, refl) pa.1 e.1, blames_right room e.0 op a b e.2))
        (operands.by b r fb st))
        (λ pa. inr (pa.0, ap at flat ∙ pa.1, blames_left room pa.0 op a b pa.2))
        (past a x fa st_a))
        (cases_lt l (level op))

    pub chain_complete : Complete l room (chain_by small P op_of)
    chain_complete = record {
      by = λ s r f st.
          ⊎_elim
          (λ p. inl (p.2 ∙ more_stops small P op_of p.0 (meant s) r (stops_none l op_of ops.others r st)))
          (λ p. inr p)
          (past s r f (Stops-weaker l (l + 1) r (omega arith) st));
    }

  module _ (l room : ℕ) (P : Parser) (find : Symbol → Option Prefix) (fs : Fronts l find) (operands : Complete (l + 1) room P) where
    -- no word of the level stands first
    bare : (s : Written) (r : List Symbol) → Fits (l + 1) s → Stops l r → Ends (fronted_by small P find) room s r
    bare s r f st =
        let pass = fronted-none small P find (spelled s ++ r) (none_first l find fs (l + 1) s r (omega arith) f) in
        ⊎_elim
        (λ e. inl (pass ∙ e))
        (λ e. inr (e.0, pass ∙ e.1, e.2))
        (operands.by s r f (Stops-weaker l (l + 1) r (omega arith) st))

    fronted : (s : Written) (r : List Symbol) → Fits l s → Stops l r → Ends (fronted_by small P find) room s r
    fronted (Leaf o) r f st = bare (Leaf o) r f st
    fronted (Paren s) r f st = bare (Paren s) r f st
    fronted (Joined op a b) r f st = bare (Joined op a b) r (fs.joins op f.0, f.1, f.2) st
    fronted (Signed op s) r f st =
        ⊎_elim
        (λ tighter. bare (Signed op s) r (omega arith, f.1) st)
        (λ le.
        let same : sign_level op ≡ l = omega (arith, f.0) in
        let next = fronted-next small P find (sign_word op ∷ (spelled s ++ r)) op (spelled s ++ r) (fs.found op same, refl) in
        ⊎_elim
        (λ e.
        let step = next ∙ ap (λ o. and_parse o (λ t q. made small (Prefixed op t) q)) e in
        ⊎_elim
        (λ w. inl (step ∙ ap (λ b. made_if b (Prefixed op (meant s)) r) w))
        (λ w. inr (TooDeep, step ∙ ap (λ b. made_if b (Prefixed op (meant s)) r) w, inl (refl, inr (inl w))))
        (either (small (Prefixed op (meant s)))))
        (λ e. inr (e.0, next ∙ ap (λ o. and_parse o (λ t q. made small (Prefixed op t) q)) e.1, blames_signed room e.0 op s e.2))
        (fronted s r (subst (λ n. Fits n s) same f.1) st))
        (cases_lt l (sign_level op))

    pub fronted_complete : Complete l room (fronted_by small P find)
    fronted_complete = record { by = fronted }

-- Where the parser refuses, there is a cause among the symbols.
use Rattle.std.proofs.Common.{Bool, true, false, ◌≡◌, ℕ, zero, suc, ◌+◌, ◌-◌, ◌<◌, ◌≤◌, ◌⊎◌, inl, inr, ⊎_elim, List, [], ◌∷◌, ◌++◌, length, Option, Some, None}
use Rattle.std.proofs.Common.{Result, Ok, Err, refl, sym, ap, ◌∙◌, subst, arith, append_assoc}
use Rattle.vcm_lines.specs.declared.fault.FaultCode.{FaultCode}
use Rattle.vcm_lines.specs.declared.fault.FaultCode.TheVariants.{BadSyntax, TooDeep}
use Rattle.vcm_spec.specs.declared.expression.BinaryOp.{BinaryOp}
use Rattle.vcm_spec.specs.declared.expression.BinaryOp.TheVariants.{Add, Sub, Mul, Div, And, Or, Compare}
use Rattle.vcm_expr.specs.declared.expression.Prefix.{Prefix}
use Rattle.vcm_expr.specs.declared.expression.Prefix.TheVariants.{Minus, Plus, Not}
use Rattle.vcm_expr.specs.declared.symbol.Symbol.{Symbol}
use Rattle.vcm_expr.specs.declared.symbol.Symbol.TheVariants.{Operand, Opening, Closing}
use Rattle.vcm_expr.specs.Source.{Source, Prefixed, Pair, is_small}
use Rattle.vcm_expr.specs.Grammar.{Written, Leaf, Paren, Signed, Joined, word_of, sign_word, spelled, Fits, meant, open_after, HasBigPart, HasFlaw}
use Rattle.vcm_expr.specs.Parser.{Taken, Parser, and_parse, phrase, made, made_if, closed, primary_by, sign_of, negation_of, found_if, fronted_by, product_op}
use Rattle.vcm_expr.specs.Parser.{sum_op, relation_op, and_op, or_op, more, chain_by, once, once_by, signed_by, product_by, sum_by, relation_by, negation_by}
use Rattle.vcm_expr.specs.Parser.{conjunction_by, disjunction_by, expression}
use Rattle.vcm_expr.proofs.Chains.{expression-zero, expression-suc}
use Rattle.vcm_expr.proofs.Complete.{Ops, Fronts}
use Rattle.vcm_expr.proofs.Ladder.{product_ops, sum_ops, and_ops, or_ops, sign_fronts, negation_fronts, relation_says}
use Rattle.vcm_expr.proofs.Sound.{Sound, all_sound, Fits-weaker}

word_plain : (op : BinaryOp) (n : ℕ) (r : List Symbol) → open_after n (word_of op ∷ r) ≡ open_after n r
word_plain Add n r = refl
word_plain Sub n r = refl
word_plain Mul n r = refl
word_plain Div n r = refl
word_plain And n r = refl
word_plain Or n r = refl
word_plain (Compare q) n r = refl

sign_plain : (op : Prefix) (n : ℕ) (r : List Symbol) → open_after n (sign_word op ∷ r) ≡ open_after n r
sign_plain Minus n r = refl
sign_plain Plus n r = refl
sign_plain Not n r = refl

-- an expression closes what it opens
balanced : (s : Written) (n : ℕ) (r : List Symbol) → open_after n (spelled s ++ r) ≡ open_after n r
balanced (Leaf o) n r = refl
balanced (Paren s) n r =
    let back : n + 1 - 1 ≡ n = omega arith in
    ap (open_after (n + 1)) (append_assoc (spelled s) (Closing ∷ []) r) ∙ balanced s (n + 1) (Closing ∷ r) ∙ ap (λ m. open_after m r) back
balanced (Signed op s) n r = sign_plain op n (spelled s ++ r) ∙ balanced s n r
balanced (Joined op a b) n r =
    ap (open_after n) (append_assoc (spelled a) (word_of op ∷ spelled b) r)
    ∙ balanced a n (word_of op ∷ (spelled b ++ r))
    ∙ word_plain op n (spelled b ++ r)
    ∙ balanced b n r

-- some symbols in front leave more than so many parentheses open
pub record DeepIn (total n : ℕ) (ts : List Symbol) : Type 0 where
  pub front : List Symbol
  pub back : List Symbol
  pub cut : ts ≡ front ++ back
  pub deep : total < open_after n front

-- why the symbols may be refused with this code, where n parentheses are open before them
abbrev pub Cause : ℕ → ℕ → FaultCode → List Symbol → Type 0
Cause total n c ts = (c ≡ BadSyntax) ⊎ (((c ≡ TooDeep) × (DeepIn total n ts ⊎ HasBigPart ts)) ⊎ HasFlaw c ts)

-- the same behind symbols that leave m of n parentheses open
behind : (total n m : ℕ) (c : FaultCode) (x ts : List Symbol) → ((r : List Symbol) → open_after n (x ++ r) ≡ open_after m r) → Cause total m c ts → Cause total n c (x ++ ts)
behind total n m c x ts same (inl e) = inl e
behind total n m c x ts same (inr (inl (e, inl d))) =
    inr (inl (e, inl (record { front = x ++ d.front; back = d.back; cut = ap (λ l. x ++ l) d.cut ∙ sym (append_assoc x d.front d.back); deep = omega (arith, d.deep, same d.front) })))
behind total n m c x ts same (inr (inl (e, inr g))) =
    inr (inl (
      e,
      inr (record {
        front = x ++ g.front;
        back = g.back;
        written = g.written;
        cut = ap (λ l. x ++ l) g.cut
            ∙ sym (append_assoc x g.front (spelled g.written ++ g.back));
        fits = g.fits;
        big = g.big;
      }),
    ))
behind total n m c x ts same (inr (inr f)) =
    inr (inr (record { front = x ++ f.front; back = f.back; cut = ap (λ l. x ++ l) f.cut ∙ sym (append_assoc x f.front (Operand (Err c) ∷ f.back)) }))

-- an expression that is too big stands in front
big_first : (total n l : ℕ) (c : FaultCode) (s : Written) (r ts : List Symbol) → 1 ≤ l → Fits l s → (c ≡ TooDeep) × (is_small (meant s) ≡ false) → spelled s ++ r ≡ ts → Cause total n c ts
big_first total n l c s r ts h f b e = inr (inl (b.0, inr (record { front = []; back = r; written = s; cut = sym e; fits = Fits-weaker 1 l s h f; big = b.1 })))

and_parse-Err : (o : Result Taken FaultCode) (go : Source → List Symbol → Result Taken FaultCode) (d : FaultCode) → and_parse o go ≡ Err d
    → (o ≡ Err d) ⊎ ((q : Taken) × (o ≡ Ok q) × (go q.tree q.rest ≡ Err d))
and_parse-Err (Ok q) go d e = inr (q, refl, e)
and_parse-Err (Err f) go d e = inl e

made-Err : (t : Source) (r : List Symbol) (c : FaultCode) → made is_small t r ≡ Err c → (c ≡ TooDeep) × (is_small t ≡ false)
made-Err t r c e = by_test (is_small t) refl e
  where
    by_test : (b : Bool) → is_small t ≡ b → made_if b t r ≡ Err c → (c ≡ TooDeep) × (is_small t ≡ false)
    by_test true w e = absurd cc
    by_test false w e = let same : TooDeep ≡ c = cc in (sym same, w)

made-Ok : (t : Source) (r : List Symbol) (p : Taken) → made is_small t r ≡ Ok p → record { tree = t; rest = r } ≡ p
made-Ok t r p e = by_test (is_small t) e
  where
    by_test : (b : Bool) → made_if b t r ≡ Ok p → record { tree = t; rest = r } ≡ p
    by_test true e = cc
    by_test false e = cc

abbrev pub Caused : ℕ → ℕ → Parser → Type 0
Caused total room P = (n : ℕ) → room + n ≡ total → (ts : List Symbol) (c : FaultCode) → P ts ≡ Err c → Cause total n c ts

-- behind an expression and an operator
after_word : (total n : ℕ) (c : FaultCode) (s : Written) (op : BinaryOp) (r : List Symbol) → Cause total n c r → Cause total n c (spelled s ++ word_of op ∷ r)
after_word total n c s op r h =
    let x = spelled s ++ word_of op ∷ [] in
    let same = λ (q : List Symbol). ap (open_after n) (append_assoc (spelled s) (word_of op ∷ []) q) ∙ balanced s n (word_of op ∷ q) ∙ word_plain op n q in
    subst (Cause total n c) (append_assoc (spelled s) (word_of op ∷ []) r) (behind total n n c x r same h)

-- a pair, flat
flat_pair : (s b : Written) (op : BinaryOp) (k : Symbol) (r q : List Symbol) → k ≡ word_of op → r ≡ spelled b ++ q → spelled (Joined op s b) ++ q ≡ spelled s ++ k ∷ r
flat_pair s b op k r q word symbols = append_assoc (spelled s) (word_of op ∷ spelled b) q ∙ ap (λ w. spelled s ++ w ∷ (spelled b ++ q)) (sym word) ∙ ap (λ r. spelled s ++ k ∷ r) (sym symbols)

module _ (l total room : ℕ) (P : Parser) (op_of : Symbol → Option BinaryOp) (ops : Ops l op_of) (operands : Caused total room P) (sound : Sound (l + 1) room P) (some : 1 ≤ l) where
  more_caused : (n : ℕ) → room + n ≡ total → (m : ℕ) (s : Written) (ts : List Symbol) (c : FaultCode) → Fits l s → more is_small P op_of m (meant s) ts ≡ Err c → Cause total n c (spelled s ++ ts)
  more_caused n h m s [] c f e = cc
  more_caused n h zero s (k ∷ r) c f e = cc
  more_caused n h (suc m) s (k ∷ r) c f e = by_op (op_of k) refl e (more_caused n h m)
    where
      by_op : (o : Option BinaryOp) → op_of k ≡ o
          → found_if o (λ op. and_parse (P r) (λ u q. and_parse (made is_small (Pair op (meant s) u) q) (more is_small P op_of m))) (phrase (meant s) (k ∷ r)) ≡
          Err c → ((s' : Written) (ts : List Symbol) (c : FaultCode) → Fits l s' → more is_small P op_of m (meant s') ts ≡ Err c
          → Cause total n c (spelled s' ++ ts)) → Cause total n c (spelled s ++ k ∷ r)
      by_op None is e again = cc
      by_op (Some op) is e again =
          let word = ops.says k op is in
          ⊎_elim
          (λ g. subst (λ w. Cause total n c (spelled s ++ w ∷ r)) (sym word.0) (after_word total n c s op r (operands n h r c g)))
          (λ q.
          let b = sound r q.0 q.1 in
          let fits : Fits l (Joined op s b.written) = (omega (arith, word.1), subst (λ j. Fits j s) (sym (ops.left op word.1)) f, subst (λ j. Fits (j + 1) b.written) (sym word.1) b.fits) in
          let flat = flat_pair s b.written op k r q.0.rest word.0 b.symbols in
          let tree = ap (λ u. Pair op (meant s) u) b.tree in
          ⊎_elim
          (λ g. let big = made-Err (Pair op (meant s) q.0.tree) q.0.rest c g
          in big_first total n l c (Joined op s b.written) q.0.rest (spelled s ++ k ∷ r) some fits (big.0, ap is_small tree ∙ big.1) flat)
          (λ v.
          let node = made-Ok (Pair op (meant s) q.0.tree) q.0.rest v.0 v.1 in
          let step : more is_small P op_of m (meant (Joined op s b.written)) q.0.rest ≡ Err c = ap (λ u. more is_small P op_of m u q.0.rest) tree
          ∙ ap (λ w. more is_small P op_of m w.tree w.rest) node ∙ v.2 in
          subst (Cause total n c) flat (again (Joined op s b.written) q.0.rest c fits step))
          (and_parse-Err (made is_small (Pair op (meant s) q.0.tree) q.0.rest) (more is_small P op_of m) c q.2))
          (and_parse-Err (P r) (λ u q. and_parse (made is_small (Pair op (meant s) u) q) (more is_small P op_of m)) c e)

  pub chain_caused : Caused total room (chain_by is_small P op_of)
  chain_caused n h ts c e =
      ⊎_elim
      (λ f. operands n h ts c f)
      (λ q.
      let a = sound ts q.0 q.1 in
      let step : more is_small P op_of (length q.0.rest) (meant a.written) q.0.rest ≡ Err c = ap (λ t. more is_small P op_of (length q.0.rest) t q.0.rest) a.tree ∙ q.2 in
      subst (Cause total n c) (sym a.symbols) (more_caused n h (length q.0.rest) a.written q.0.rest c (Fits-weaker l (l + 1) a.written (omega arith) a.fits) step))
      (and_parse-Err (P ts) (λ t r. more is_small P op_of (length r) t r) c e)

module _ (l total room : ℕ) (P : Parser) (find : Symbol → Option Prefix) (fs : Fronts l find) (operands : Caused total room P) (sound : Sound l room (fronted_by is_small P find)) (some : 1 ≤ l) where
  pub fronted_caused : (n : ℕ) → room + n ≡ total → (ts : List Symbol) (c : FaultCode) → fronted_by is_small P find ts ≡ Err c → Cause total n c ts
  fronted_caused n h [] c e = operands n h [] c e
  fronted_caused n h (k ∷ r) c e = by_word (find k) refl e (fronted_caused n h r c)
    where
      by_word : (o : Option Prefix) → find k ≡ o
          → found_if o (λ op. and_parse (fronted_by is_small P find r) (λ t s. made is_small (Prefixed op t) s)) (P (k ∷ r)) ≡ Err c
          → (fronted_by is_small P find r ≡ Err c → Cause total n c r) → Cause total n c (k ∷ r)
      by_word None is e again = operands n h (k ∷ r) c e
      by_word (Some op) is e again =
          let word = fs.says k op is in
          ⊎_elim
          (λ g. behind total n n c (k ∷ []) r (λ q. ap (λ w. open_after n (w ∷ q)) word.0 ∙ sign_plain op n q) (again g))
          (λ q.
          let a = sound r q.0 q.1 in
          let big = made-Err (Prefixed op q.0.tree) q.0.rest c q.2 in
          big_first total n l c (Signed op a.written) q.0.rest (k ∷ r) some (omega (arith, word.1), subst (λ m. Fits m a.written) (sym word.1) a.fits)
          (big.0, ap (λ t. is_small (Prefixed op t)) a.tree ∙ big.1)
          (ap (λ w. w ∷ (spelled a.written ++ q.0.rest)) (sym word.0) ∙ ap (λ ts. k ∷ ts) (sym a.symbols)))
          (and_parse-Err (fronted_by is_small P find r) (λ t s. made is_small (Prefixed op t) s) c e)

module _ (total room : ℕ) (P : Parser) (operands : Caused total room P) (sound : Sound 5 room P) where
  once_caused_after : (n : ℕ) → room + n ≡ total → (s : Written) (ts : List Symbol) (c : FaultCode) → Fits 5 s → once is_small P relation_op (meant s) ts ≡ Err c → Cause total n c (spelled s ++ ts)
  once_caused_after n h s [] c f e = cc
  once_caused_after n h s (k ∷ r) c f e = by_op (relation_op k) refl e
    where
      by_op : (o : Option BinaryOp) → relation_op k ≡ o
          → found_if o (λ op. and_parse (P r) (λ u q. made is_small (Pair op (meant s) u) q)) (phrase (meant s) (k ∷ r)) ≡ Err c
          → Cause total n c (spelled s ++ k ∷ r)
      by_op None is e = cc
      by_op (Some op) is e =
          let word = relation_says k op is in
          ⊎_elim
          (λ g. subst (λ w. Cause total n c (spelled s ++ w ∷ r)) (sym word.0) (after_word total n c s op r (operands n h r c g)))
          (λ q.
          let b = sound r q.0 q.1 in
          let big = made-Err (Pair op (meant s) q.0.tree) q.0.rest c q.2 in
          big_first total n 4 c (Joined op s b.written) q.0.rest (spelled s ++ k ∷ r) (omega arith)
          (omega (arith, word.1), subst (λ m. Fits m s) (sym word.2) f, subst (λ m. Fits (m + 1) b.written) (sym word.1) b.fits)
          (big.0, ap (λ u. is_small (Pair op (meant s) u)) b.tree ∙ big.1)
          (flat_pair s b.written op k r q.0.rest word.0 b.symbols))
          (and_parse-Err (P r) (λ u q. made is_small (Pair op (meant s) u) q) c e)

  pub once_caused : Caused total room (once_by is_small P relation_op)
  once_caused n h ts c e =
      ⊎_elim
      (λ f. operands n h ts c f)
      (λ q.
      let a = sound ts q.0 q.1 in
      let step : once is_small P relation_op (meant a.written) q.0.rest ≡ Err c = ap (λ t. once is_small P relation_op t q.0.rest) a.tree ∙ q.2 in
      subst (Cause total n c) (sym a.symbols) (once_caused_after n h a.written q.0.rest c a.fits step))
      (and_parse-Err (P ts) (once is_small P relation_op) c e)

not_closed : (t : Source) (r : List Symbol) (c : FaultCode) → closed t r ≡ Err c → c ≡ BadSyntax
not_closed t [] c e = let same : BadSyntax ≡ c = cc in sym same
not_closed t (Closing ∷ r) c e = cc
not_closed t (_ ∷ r) c e = let same : BadSyntax ≡ c = cc in sym same

-- what stands in parentheses, where n were open before
abbrev InnerCaused : ℕ → ℕ → Type 0
InnerCaused total room = (n : ℕ) → room + n ≡ total → (ts : List Symbol) (c : FaultCode) → expression is_small room ts ≡ Err c → Cause total (n + 1) c ts

primary_caused : (total room : ℕ) → InnerCaused total room → Caused total room (primary_by (expression is_small room))
primary_caused total room inner n h [] c e = let same : BadSyntax ≡ c = cc in inl (sym same)
primary_caused total room inner n h (Operand (Ok t) ∷ r) c e = cc
primary_caused total room inner n h (Operand (Err d) ∷ r) c e =
    let same : d ≡ c = cc in
    inr (inr (record { front = []; back = r; cut = ap (λ x. Operand (Err x) ∷ r) same }))
primary_caused total room inner n h (Opening ∷ r) c e =
    ⊎_elim
    (λ f. behind total n (n + 1) c (Opening ∷ []) r (λ q. refl) (inner n h r c f))
    (λ q. inl (not_closed q.0.tree q.0.rest c q.2))
    (and_parse-Err (expression is_small room r) closed c e)
primary_caused total room inner n h (_ ∷ r) c e = let same : BadSyntax ≡ c = cc in inl (sym same)

levels : (total room : ℕ) → InnerCaused total room → Caused total room (disjunction_by is_small (expression is_small room))
levels total room inner =
    let ok = all_sound room in
    let primaries = primary_caused total room inner in
    let signs = fronted_caused 7 total room (primary_by (expression is_small room)) sign_of sign_fronts primaries ok.signs (omega arith) in
    let products = chain_caused 6 total room (signed_by is_small (expression is_small room)) product_op product_ops signs ok.signs (omega arith) in
    let sums = chain_caused 5 total room (product_by is_small (expression is_small room)) sum_op sum_ops products ok.products (omega arith) in
    let relations = once_caused total room (sum_by is_small (expression is_small room)) sums ok.sums in
    let negations = fronted_caused 3 total room (relation_by is_small (expression is_small room)) negation_of negation_fronts relations ok.negations (omega arith) in
    let conjunctions = chain_caused 2 total room (negation_by is_small (expression is_small room)) and_op and_ops negations ok.negations (omega arith) in
    chain_caused 1 total room (conjunction_by is_small (expression is_small room)) or_op or_ops conjunctions ok.conjunctions (omega arith)

inner : (total room : ℕ) → InnerCaused total room
inner total zero n h ts c e =
    let none = expression-zero is_small ts in
    let same : TooDeep ≡ c = cc in
    inr (inl (sym same, inl (record { front = []; back = ts; cut = refl; deep = omega arith })))
inner total (suc room) n h ts c e = levels total room (inner total room) (n + 1) (omega arith) ts c (sym (expression-suc is_small room ts) ∙ e)

pub all_caused : (room : ℕ) (ts : List Symbol) (c : FaultCode) → disjunction_by is_small (expression is_small room) ts ≡ Err c → Cause room 0 c ts
all_caused room ts c e = levels room room (inner room room) 0 (omega arith) ts c e

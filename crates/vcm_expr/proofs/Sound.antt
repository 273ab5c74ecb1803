-- What the parser reads is an expression of the grammar.
use Rattle.std.proofs.Common.{Bool, true, false, ◌≡◌, ℕ, zero, suc, ◌+◌, ◌≤◌, List, [], ◌∷◌, ◌++◌, length, Option, Some, None, Result, Ok, Err, refl, sym, ap, ◌∙◌, subst, arith, append_assoc}
use Rattle.vcm_lines.specs.declared.fault.FaultCode.{FaultCode}
use Rattle.vcm_spec.specs.declared.expression.BinaryOp.{BinaryOp}
use Rattle.vcm_expr.specs.declared.expression.Prefix.{Prefix}
use Rattle.vcm_expr.specs.declared.symbol.Symbol.{Symbol}
use Rattle.vcm_expr.specs.declared.symbol.Symbol.TheVariants.{Operand, Opening, Closing}
use Rattle.vcm_expr.specs.Source.{Source, Plain, Prefixed, Pair, is_small}
use Rattle.vcm_expr.specs.Grammar.{Written, Leaf, Paren, Signed, Joined, word_of, sign_word, spelled, Fits, meant, IsRead, nesting}
use Rattle.vcm_expr.specs.Parser.{Taken, Parser, and_parse, phrase, made, made_if, closed, primary_by, sign_of, negation_of, found_if, fronted_by, product_op}
use Rattle.vcm_expr.specs.Parser.{sum_op, relation_op, and_op, or_op, more, chain_by, once, once_by, signed_by, product_by, sum_by, relation_by, negation_by}
use Rattle.vcm_expr.specs.Parser.{conjunction_by, disjunction_by, expression}
use Rattle.vcm_expr.proofs.Chains.{expression-zero, expression-suc}
use Rattle.vcm_expr.proofs.Complete.{Ops, Fronts}
use Rattle.vcm_expr.proofs.Ladder.{product_ops, sum_ops, and_ops, or_ops, sign_fronts, negation_fronts, relation_says}

-- an expression of a level stands in front, and the phrase is its tree and the rest
pub record Read (m room : ℕ) (ts : List Symbol) (p : Taken) : Type 0 where
  pub written : Written
  pub fits : Fits m written
  pub symbols : ts ≡ spelled written ++ p.rest
  pub read : IsRead written
  pub tree : meant written ≡ p.tree
  pub shallow : nesting written ≤ room
  pub sized : is_small p.tree ≡ true

abbrev pub Sound : ℕ → ℕ → Parser → Type 0
Sound m room P = (ts : List Symbol) (p : Taken) → P ts ≡ Ok p → Read m room ts p

pub and_parse-Ok : (o : Result Taken FaultCode) (go : Source → List Symbol → Result Taken FaultCode) (p : Taken) → and_parse o go ≡ Ok p → (q : Taken) × (o ≡ Ok q) × (go q.tree q.rest ≡ Ok p)
and_parse-Ok (Ok q) go p e = (q, refl, e)
and_parse-Ok (Err d) go p e = cc

made-Ok : (t : Source) (r : List Symbol) (p : Taken) → made is_small t r ≡ Ok p → (is_small t ≡ true) × (record { tree = t; rest = r } ≡ p)
made-Ok t r p e = by_test (is_small t) refl e
  where
    by_test : (b : Bool) → is_small t ≡ b → made_if b t r ≡ Ok p → (is_small t ≡ true) × (record { tree = t; rest = r } ≡ p)
    by_test true w e = (w, cc)
    by_test false w e = cc

pub Fits-weaker : (l m : ℕ) (s : Written) → l ≤ m → Fits m s → Fits l s
Fits-weaker l m (Leaf o) h f = f
Fits-weaker l m (Paren s) h f = f
Fits-weaker l m (Signed op s) h f = (omega (arith, f.0), f.1)
Fits-weaker l m (Joined op a b) h f = (omega (arith, f.0), f.1, f.2)

weaker : (l m room : ℕ) (ts : List Symbol) (p : Taken) → l ≤ m → Read m room ts p → Read l room ts p
weaker l m room ts p h q = record { written = q.written; fits = Fits-weaker l m q.written h q.fits; symbols = q.symbols; read = q.read; tree = q.tree; shallow = q.shallow; sized = q.sized }

-- the expression s is all that is read
read_all : (l room : ℕ) (s : Written) (ts : List Symbol) (p : Taken) → Fits l s → IsRead s → nesting s ≤ room → is_small (meant s) ≡ true → phrase (meant s) ts ≡ Ok p → Read l room (spelled s ++ ts) p
read_all l room s ts p f i h w e =
    let tree : meant s ≡ p.tree = cc in
    let rest : ts ≡ p.rest = cc in
    record { written = s; fits = f; symbols = ap (λ r. spelled s ++ r) rest; read = i; tree = tree; shallow = h; sized = subst (λ u. is_small u ≡ true) tree w }

module _ (l room : ℕ) (P : Parser) (op_of : Symbol → Option BinaryOp) (ops : Ops l op_of) (operands : Sound (l + 1) room P) where
  -- a chain with s in front of it
  more_sound : (n : ℕ) (s : Written) (ts : List Symbol) (p : Taken) → Fits l s → IsRead s → nesting s ≤ room → is_small (meant s) ≡ true
      → more is_small P op_of n (meant s) ts ≡ Ok p → Read l room (spelled s ++ ts) p
  more_sound n s [] p f i h w e = read_all l room s [] p f i h w e
  more_sound zero s (k ∷ r) p f i h w e = read_all l room s (k ∷ r) p f i h w e
  more_sound (suc n) s (k ∷ r) p f i h w e = by_op (op_of k) refl e (more_sound n)
    where
      by_op : (o : Option BinaryOp) → op_of k ≡ o
          → found_if o (λ op. and_parse (P r) (λ u q. and_parse (made is_small (Pair op (meant s) u) q) (more is_small P op_of n))) (phrase (meant s) (k ∷ r)) ≡
          Ok p → ((s' : Written) (ts : List Symbol) (q : Taken) → Fits l s' → IsRead s' → nesting s' ≤ room → is_small (meant s') ≡ true
          → more is_small P op_of n (meant s') ts ≡ Ok q → Read l room (spelled s' ++ ts) q) → Read l room (spelled s ++ k ∷ r) p
      by_op None is e again = read_all l room s (k ∷ r) p f i h w e
      by_op (Some op) is e again =
          let word = ops.says k op is in
          let q = and_parse-Ok (P r) (λ u q. and_parse (made is_small (Pair op (meant s) u) q) (more is_small P op_of n)) p e in
          let b = operands r q.0 q.1 in
          let q2 = and_parse-Ok (made is_small (Pair op (meant s) q.0.tree) q.0.rest) (more is_small P op_of n) p q.2 in
          let node = made-Ok (Pair op (meant s) q.0.tree) q.0.rest q2.0 q2.1 in
          let fits : Fits l (Joined op s b.written) = (omega (arith, word.1), subst (λ m. Fits m s) (sym (ops.left op word.1)) f, subst (λ m. Fits (m + 1) b.written) (sym word.1) b.fits) in
          let shallow : nesting (Joined op s b.written) ≤ room = omega (arith, b.shallow) in
          let step : more is_small P op_of n (meant (Joined op s b.written)) q.0.rest ≡ Ok p =
          ap (λ u. more is_small P op_of n (Pair op (meant s) u) q.0.rest) b.tree ∙ ap (λ v. more is_small P op_of n v.tree v.rest) node.1 ∙ q2.2 in
          let sized : is_small (meant (Joined op s b.written)) ≡ true = ap (λ u. is_small (Pair op (meant s) u)) b.tree ∙ node.0 in
          let read = again (Joined op s b.written) q.0.rest p fits (i, b.read) shallow sized step in
          let flat : spelled (Joined op s b.written) ++ q.0.rest ≡ spelled s ++ k ∷ r = append_assoc (spelled s) (word_of op ∷ spelled b.written) q.0.rest
          ∙ ap (λ w. spelled s ++ w ∷ (spelled b.written ++ q.0.rest)) (sym word.0) ∙ ap (λ r. spelled s ++ k ∷ r) (sym b.symbols) in
          subst (λ ts. Read l room ts p) flat read

  pub chain_sound : Sound l room (chain_by is_small P op_of)
  chain_sound ts p e =
      let q = and_parse-Ok (P ts) (λ t r. more is_small P op_of (length r) t r) p e in
      let a = operands ts q.0 q.1 in
      let step : more is_small P op_of (length q.0.rest) (meant a.written) q.0.rest ≡ Ok p = ap (λ t. more is_small P op_of (length q.0.rest) t q.0.rest) a.tree ∙ q.2 in
      let read = more_sound (length q.0.rest) a.written q.0.rest p (Fits-weaker l (l + 1) a.written (omega arith) a.fits) a.read a.shallow (ap is_small a.tree ∙ a.sized) step in
      subst (λ ts. Read l room ts p) (sym a.symbols) read

module _ (l room : ℕ) (P : Parser) (find : Symbol → Option Prefix) (fs : Fronts l find) (operands : Sound (l + 1) room P) where
  pub fronted_sound : Sound l room (fronted_by is_small P find)
  fronted_sound [] p e = weaker l (l + 1) room [] p (omega arith) (operands [] p e)
  fronted_sound (k ∷ r) p e = by_word (find k) refl e (fronted_sound r)
    where
      by_word : (o : Option Prefix) → find k ≡ o
          → found_if o (λ op. and_parse (fronted_by is_small P find r) (λ t s. made is_small (Prefixed op t) s)) (P (k ∷ r)) ≡ Ok p
          → ((q : Taken) → fronted_by is_small P find r ≡ Ok q → Read l room r q) → Read l room (k ∷ r) p
      by_word None is e again = weaker l (l + 1) room (k ∷ r) p (omega arith) (operands (k ∷ r) p e)
      by_word (Some op) is e again =
          let word = fs.says k op is in
          let q = and_parse-Ok (fronted_by is_small P find r) (λ t s. made is_small (Prefixed op t) s) p e in
          let a = again q.0 q.1 in
          let node = made-Ok (Prefixed op q.0.tree) q.0.rest p q.2 in
          let rest : q.0.rest ≡ p.rest = ap (λ v. v.rest) node.1 in
          let tree : Prefixed op q.0.tree ≡ p.tree = ap (λ v. v.tree) node.1 in
          record {
            written = Signed op a.written;
            fits = (omega (arith, word.1), subst (λ m. Fits m a.written) (sym word.1) a.fits);
            symbols = ap (λ w. w ∷ r) word.0 ∙ ap (λ ts. sign_word op ∷ ts) (a.symbols ∙ ap (λ ts. spelled a.written ++ ts) rest);
            read = a.read;
            tree = ap (Prefixed op) a.tree ∙ tree;
            shallow = a.shallow;
            sized = ap is_small (sym tree) ∙ node.0;
          }

module _ (room : ℕ) (P : Parser) (operands : Sound 5 room P) where
  once_after : (s : Written) (ts : List Symbol) (p : Taken) → Fits 5 s → IsRead s → nesting s ≤ room → is_small (meant s) ≡ true
      → once is_small P relation_op (meant s) ts ≡ Ok p → Read 4 room (spelled s ++ ts) p
  once_after s [] p f i h w e = read_all 4 room s [] p (Fits-weaker 4 5 s (omega arith) f) i h w e
  once_after s (k ∷ r) p f i h w e = by_op (relation_op k) refl e
    where
      by_op : (o : Option BinaryOp) → relation_op k ≡ o
          → found_if o (λ op. and_parse (P r) (λ u q. made is_small (Pair op (meant s) u) q)) (phrase (meant s) (k ∷ r)) ≡ Ok p
          → Read 4 room (spelled s ++ k ∷ r) p
      by_op None is e = read_all 4 room s (k ∷ r) p (Fits-weaker 4 5 s (omega arith) f) i h w e
      by_op (Some op) is e =
          let word = relation_says k op is in
          let q = and_parse-Ok (P r) (λ u q. made is_small (Pair op (meant s) u) q) p e in
          let b = operands r q.0 q.1 in
          let node = made-Ok (Pair op (meant s) q.0.tree) q.0.rest p q.2 in
          let rest : q.0.rest ≡ p.rest = ap (λ v. v.rest) node.1 in
          let tree : Pair op (meant s) q.0.tree ≡ p.tree = ap (λ v. v.tree) node.1 in
          let flat : spelled s ++ k ∷ r ≡ spelled (Joined op s b.written) ++ p.rest = ap (λ w. spelled s ++ w ∷ r) word.0
          ∙ ap (λ ts. spelled s ++ word_of op ∷ ts) (b.symbols ∙ ap (λ ts. spelled b.written ++ ts) rest)
          ∙ sym (append_assoc (spelled s) (word_of op ∷ spelled b.written) p.rest) in
          record {
            written = Joined op s b.written;
            fits = (omega (arith, word.1), subst (λ m. Fits m s) (sym word.2) f, subst (λ m. Fits (m + 1) b.written) (sym word.1) b.fits);
            symbols = flat;
            read = (i, b.read);
            tree = ap (Pair op (meant s)) b.tree ∙ tree;
            shallow = omega (arith, b.shallow);
            sized = ap is_small (sym tree) ∙ node.0;
          }

  pub once_sound : Sound 4 room (once_by is_small P relation_op)
  once_sound ts p e =
      let q = and_parse-Ok (P ts) (once is_small P relation_op) p e in
      let a = operands ts q.0 q.1 in
      let step : once is_small P relation_op (meant a.written) q.0.rest ≡ Ok p = ap (λ t. once is_small P relation_op t q.0.rest) a.tree ∙ q.2 in
      let read = once_after a.written q.0.rest p a.fits a.read a.shallow (ap is_small a.tree ∙ a.sized) step in
      subst (λ ts. Read 4 room ts p) (sym a.symbols) read

closed-Ok : (t : Source) (r : List Symbol) (p : Taken) → closed t r ≡ Ok p → (r ≡ Closing ∷ p.rest) × (t ≡ p.tree)
closed-Ok t [] p e = cc
closed-Ok t (Closing ∷ r) p e =
    let rest : r ≡ p.rest = cc in
    let tree : t ≡ p.tree = cc in
    (ap (λ l. Closing ∷ l) rest, tree)
closed-Ok t (_ ∷ r) p e = cc

-- what stands in parentheses is an expression
abbrev pub InnerSound : ℕ → Type 0
InnerSound room = (ts : List Symbol) (p : Taken) → expression is_small room ts ≡ Ok p → (q : Read 1 room ts p) × (nesting q.written + 1 ≤ room)

primary_sound : (room : ℕ) → InnerSound room → Sound 8 room (primary_by (expression is_small room))
primary_sound room inner [] p e = cc
primary_sound room inner (Operand (Ok t) ∷ r) p e =
    let rest : r ≡ p.rest = cc in
    let tree : Plain t ≡ p.tree = cc in
    record { written = Leaf (Ok t); fits = tt; symbols = ap (λ l. Operand (Ok t) ∷ l) rest; read = tt; tree = tree; shallow = omega arith; sized = ap is_small (sym tree) }
primary_sound room inner (Operand (Err c) ∷ r) p e = cc
primary_sound room inner (Opening ∷ r) p e =
    let q = and_parse-Ok (expression is_small room r) closed p e in
    let a = inner r q.0 q.1 in
    let c = closed-Ok q.0.tree q.0.rest p q.2 in
    let flat : spelled a.0.written ++ q.0.rest ≡ (spelled a.0.written ++ Closing ∷ []) ++ p.rest = ap (λ l. spelled a.0.written ++ l) c.0
    ∙ sym (append_assoc (spelled a.0.written) (Closing ∷ []) p.rest) in
    record {
      written = Paren a.0.written;
      fits = a.0.fits;
      symbols = ap (λ l. Opening ∷ l) (a.0.symbols ∙ flat);
      read = a.0.read;
      tree = a.0.tree
          ∙ c.1;
      shallow = a.1;
      sized = ap is_small (sym c.1) ∙ a.0.sized;
    }
primary_sound room inner (_ ∷ r) p e = cc

-- the levels, where what stands in parentheses is an expression
pub record Levels (room : ℕ) : Type 0 where
  pub primaries : Sound 8 room (primary_by (expression is_small room))
  pub signs : Sound 7 room (signed_by is_small (expression is_small room))
  pub products : Sound 6 room (product_by is_small (expression is_small room))
  pub sums : Sound 5 room (sum_by is_small (expression is_small room))
  pub relations : Sound 4 room (relation_by is_small (expression is_small room))
  pub negations : Sound 3 room (negation_by is_small (expression is_small room))
  pub conjunctions : Sound 2 room (conjunction_by is_small (expression is_small room))
  pub disjunctions : Sound 1 room (disjunction_by is_small (expression is_small room))

levels : (room : ℕ) → InnerSound room → Levels room
levels room inner =
    let primaries = primary_sound room inner in
    let signs = fronted_sound 7 room (primary_by (expression is_small room)) sign_of sign_fronts primaries in
    let products = chain_sound 6 room (signed_by is_small (expression is_small room)) product_op product_ops signs in
    let sums = chain_sound 5 room (product_by is_small (expression is_small room)) sum_op sum_ops products in
    let relations = once_sound room (sum_by is_small (expression is_small room)) sums in
    let negations = fronted_sound 3 room (relation_by is_small (expression is_small room)) negation_of negation_fronts relations in
    let conjunctions = chain_sound 2 room (negation_by is_small (expression is_small room)) and_op and_ops negations in
    record {
      primaries = primaries;
      signs = signs;
      products = products;
      sums = sums;
      relations = relations;
      negations = negations;
      conjunctions = conjunctions;
      disjunctions = chain_sound 1 room (conjunction_by is_small (expression is_small room)) or_op or_ops conjunctions;
    }

inner_sound : (room : ℕ) → InnerSound room
inner_sound zero ts p e = let none = expression-zero is_small ts in cc
inner_sound (suc room) ts p e =
    let q = (levels room (inner_sound room)).disjunctions ts p (sym (expression-suc is_small room ts) ∙ e) in
    (record { written = q.written; fits = q.fits; symbols = q.symbols; read = q.read; tree = q.tree; shallow = omega (arith, q.shallow); sized = q.sized }, omega (arith, q.shallow))

pub all_sound : (room : ℕ) → Levels room
all_sound room = levels room (inner_sound room)

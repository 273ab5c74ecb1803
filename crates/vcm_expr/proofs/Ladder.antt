-- Each level of the grammar is read whole.
use Rattle.std.proofs.Common.{Bool, ◌≡◌, ℕ, zero, suc, ◌<◌, ◌≤◌, ◌⊎◌, inl, inr, ⊎_elim, List, [], ◌∷◌, ◌++◌, Some, None, Ok, Err, refl, sym, ap, ◌∙◌, arith, append_assoc}
use Rattle.vcm_lines.specs.declared.fault.FaultCode.{FaultCode}
use Rattle.vcm_lines.specs.declared.fault.FaultCode.TheVariants.{TooDeep}
use Rattle.vcm_spec.specs.declared.expression.BinaryOp.{BinaryOp}
use Rattle.vcm_spec.specs.declared.expression.BinaryOp.TheVariants.{Add, Sub, Mul, Div, And, Or, Compare}
use Rattle.vcm_expr.specs.declared.expression.Prefix.{Prefix}
use Rattle.vcm_expr.specs.declared.expression.Prefix.TheVariants.{Minus, Plus, Not}
use Rattle.vcm_expr.specs.declared.symbol.Symbol.{Symbol}
use Rattle.vcm_expr.specs.declared.symbol.Symbol.TheVariants.{Dash, Cross, Star, Slash, NotWord, AndWord, OrWord, RelationWord, Closing}
use Rattle.vcm_expr.specs.Source.{Source, Pair}
use Rattle.vcm_expr.specs.Grammar.{Written, Leaf, Paren, Signed, Joined, word_of, sign_word, level, sign_level, left_level, spelled, Fits, meant}
use Rattle.vcm_expr.specs.Parser.{Parser, and_parse, phrase, made, made_if, closed, primary_by, sign_of, negation_of, product_op, sum_op, relation_op, and_op}
use Rattle.vcm_expr.specs.Parser.{or_op, once, once_by, signed_by, product_by, sum_by, relation_by, negation_by, conjunction_by, disjunction_by, expression}
use Rattle.vcm_expr.specs.inner.Levels.{NoNext}
use Rattle.vcm_expr.proofs.Chains.{once_stops, once_goes, expression-zero, expression-suc}
use Rattle.vcm_expr.proofs.Complete.{part_level, Stops, Ops, Fronts, level-le, sign-le, Stops-weaker, either, Blames, Ends, Complete, blames_left, blames_right, chain_complete, fronted_complete}

-- ---- the words of each level

product_found : (op : BinaryOp) → level op ≡ 6 → product_op (word_of op) ≡ Some op
product_found Mul h = refl
product_found Div h = refl
product_found _ h = absurd (omega arith)

product_says : (k : Symbol) (op : BinaryOp) → product_op k ≡ Some op → (k ≡ word_of op) × (level op ≡ 6)
product_says Star op e = let same : Mul ≡ op = cc in (ap word_of same, sym (ap level same))
product_says Slash op e = let same : Div ≡ op = cc in (ap word_of same, sym (ap level same))
product_says _ op e = cc

product_others : (k : Symbol) → part_level k < 6 → product_op k ≡ None
product_others Star h = absurd (omega arith)
product_others Slash h = absurd (omega arith)
product_others _ h = refl

product_left : (op : BinaryOp) → level op ≡ 6 → left_level op ≡ 6
product_left Mul h = refl
product_left Div h = refl
product_left _ h = absurd (omega arith)

sum_found : (op : BinaryOp) → level op ≡ 5 → sum_op (word_of op) ≡ Some op
sum_found Add h = refl
sum_found Sub h = refl
sum_found _ h = absurd (omega arith)

sum_says : (k : Symbol) (op : BinaryOp) → sum_op k ≡ Some op → (k ≡ word_of op) × (level op ≡ 5)
sum_says Cross op e = let same : Add ≡ op = cc in (ap word_of same, sym (ap level same))
sum_says Dash op e = let same : Sub ≡ op = cc in (ap word_of same, sym (ap level same))
sum_says _ op e = cc

sum_others : (k : Symbol) → part_level k < 5 → sum_op k ≡ None
sum_others Cross h = absurd (omega arith)
sum_others Dash h = absurd (omega arith)
sum_others _ h = refl

sum_left : (op : BinaryOp) → level op ≡ 5 → left_level op ≡ 5
sum_left Add h = refl
sum_left Sub h = refl
sum_left _ h = absurd (omega arith)

and_found : (op : BinaryOp) → level op ≡ 2 → and_op (word_of op) ≡ Some op
and_found And h = refl
and_found _ h = absurd (omega arith)

and_says : (k : Symbol) (op : BinaryOp) → and_op k ≡ Some op → (k ≡ word_of op) × (level op ≡ 2)
and_says AndWord op e = let same : And ≡ op = cc in (ap word_of same, sym (ap level same))
and_says _ op e = cc

and_others : (k : Symbol) → part_level k < 2 → and_op k ≡ None
and_others AndWord h = absurd (omega arith)
and_others _ h = refl

and_left : (op : BinaryOp) → level op ≡ 2 → left_level op ≡ 2
and_left And h = refl
and_left _ h = absurd (omega arith)

or_found : (op : BinaryOp) → level op ≡ 1 → or_op (word_of op) ≡ Some op
or_found Or h = refl
or_found _ h = absurd (omega arith)

or_says : (k : Symbol) (op : BinaryOp) → or_op k ≡ Some op → (k ≡ word_of op) × (level op ≡ 1)
or_says OrWord op e = let same : Or ≡ op = cc in (ap word_of same, sym (ap level same))
or_says _ op e = cc

or_others : (k : Symbol) → part_level k < 1 → or_op k ≡ None
or_others OrWord h = absurd (omega arith)
or_others _ h = refl

or_left : (op : BinaryOp) → level op ≡ 1 → left_level op ≡ 1
or_left Or h = refl
or_left _ h = absurd (omega arith)

-- signs bind tighter than sums and products, negations tighter than conjunctions
tight_signs : (op : Prefix) → 5 ≤ sign_level op → 7 ≤ sign_level op
tight_signs Minus h = omega arith
tight_signs Plus h = omega arith
tight_signs Not h = absurd (omega arith)

loose_signs : (op : Prefix) → 3 ≤ sign_level op
loose_signs Minus = omega arith
loose_signs Plus = omega arith
loose_signs Not = omega arith

pub product_ops : Ops 6 product_op
product_ops = record { found = product_found; says = product_says; others = product_others; left = product_left; signs = λ op h. tight_signs op (omega arith) }

pub sum_ops : Ops 5 sum_op
sum_ops = record { found = sum_found; says = sum_says; others = sum_others; left = sum_left; signs = λ op h. let t = tight_signs op h in omega arith }

pub and_ops : Ops 2 and_op
and_ops = record { found = and_found; says = and_says; others = and_others; left = and_left; signs = λ op h. loose_signs op }

pub or_ops : Ops 1 or_op
or_ops = record { found = or_found; says = or_says; others = or_others; left = or_left; signs = λ op h. let t = loose_signs op in omega arith }

sign_found : (op : Prefix) → sign_level op ≡ 7 → sign_of (sign_word op) ≡ Some op
sign_found Minus h = refl
sign_found Plus h = refl
sign_found Not h = absurd (omega arith)

sign_says : (k : Symbol) (op : Prefix) → sign_of k ≡ Some op → (k ≡ sign_word op) × (sign_level op ≡ 7)
sign_says Dash op e = let same : Minus ≡ op = cc in (ap sign_word same, sym (ap sign_level same))
sign_says Cross op e = let same : Plus ≡ op = cc in (ap sign_word same, sym (ap sign_level same))
sign_says _ op e = cc

negation_found : (op : Prefix) → sign_level op ≡ 3 → negation_of (sign_word op) ≡ Some op
negation_found Minus h = absurd (omega arith)
negation_found Plus h = absurd (omega arith)
negation_found Not h = refl

negation_says : (k : Symbol) (op : Prefix) → negation_of k ≡ Some op → (k ≡ sign_word op) × (sign_level op ≡ 3)
negation_says NotWord op e = let same : Not ≡ op = cc in (ap sign_word same, sym (ap sign_level same))
negation_says _ op e = cc

negation_tighter : (op : Prefix) → 4 ≤ sign_level op → negation_of (sign_word op) ≡ None
negation_tighter Minus h = refl
negation_tighter Plus h = refl
negation_tighter Not h = absurd (omega arith)

negation_joins : (op : BinaryOp) → 3 ≤ level op → 4 ≤ level op
negation_joins Add h = omega arith
negation_joins Sub h = omega arith
negation_joins Mul h = omega arith
negation_joins Div h = omega arith
negation_joins (Compare r) h = omega arith
negation_joins _ h = absurd (omega arith)

pub sign_fronts : Fronts 7 sign_of
sign_fronts = record {
  found = sign_found;
  says = sign_says;
  tighter = λ op h. let t = sign-le op in absurd (omega arith);
  leaf = λ o. refl;
  opening = refl;
  joins = λ op h. let t = level-le op in absurd (omega arith);
}

pub negation_fronts : Fronts 3 negation_of
negation_fronts = record {
  found = negation_found;
  says = negation_says;
  tighter = negation_tighter;
  leaf = λ o. refl;
  opening = refl;
  joins = negation_joins;
}

relation_others : (k : Symbol) → part_level k < 4 → relation_op k ≡ None
relation_others (RelationWord r) h = absurd (omega arith)
relation_others _ h = refl

relation_stops : (r : List Symbol) → Stops 4 r → NoNext relation_op r
relation_stops [] s = tt
relation_stops (k ∷ r) s = relation_others k s

pub relation_says : (k : Symbol) (op : BinaryOp) → relation_op k ≡ Some op → (k ≡ word_of op) × (level op ≡ 4) × (left_level op ≡ 5)
relation_says (RelationWord q) op e = let same : Compare q ≡ op = cc in (ap word_of same, sym (ap level same), sym (ap left_level same))
relation_says _ op e = cc

relation_signs : (op : Prefix) → 4 ≤ sign_level op → 5 ≤ sign_level op
relation_signs Minus h = omega arith
relation_signs Plus h = omega arith
relation_signs Not h = absurd (omega arith)

-- ---- each level

module _ (small : Source → Bool) where
  module _ (room : ℕ) (P : Parser) (operands : Complete small 5 room P) where
    -- no relation follows
    lone : (s : Written) (r : List Symbol) → Fits 5 s → Stops 4 r → Ends small (once_by small P relation_op) room s r
    lone s r f st =
        ⊎_elim
        (λ e. inl (once_stops small P relation_op (spelled s ++ r) (meant s) r e (relation_stops r st)))
        (λ e. inr (e.0, ap (λ o. and_parse o (once small P relation_op)) e.1, e.2))
        (operands.by s r f (Stops-weaker 4 5 r (omega arith) st))

    related : (s : Written) (r : List Symbol) → Fits 4 s → Stops 4 r → Ends small (once_by small P relation_op) room s r
    related (Leaf o) r f st = lone (Leaf o) r f st
    related (Paren s) r f st = lone (Paren s) r f st
    related (Signed op s) r f st = lone (Signed op s) r (relation_signs op f.0, f.1) st
    related (Joined (Compare q) a b) r f st =
        let op = Compare q in
        let x = word_of op ∷ (spelled b ++ r) in
        let flat : spelled (Joined op a b) ++ r ≡ spelled a ++ x = append_assoc (spelled a) (word_of op ∷ spelled b) r in
        let at = λ (ts : List Symbol). once_by small P relation_op ts in
        ⊎_elim
        (λ e.
        let goes = ap at flat ∙ once_goes small P relation_op (spelled a ++ x) (meant a) x op (spelled b ++ r) e (refl, refl) in
        ⊎_elim
        (λ g.
        let step = goes ∙ ap (λ o. and_parse o (λ u t. made small (Pair op (meant a) u) t)) g in
        ⊎_elim
        (λ w. inl (step ∙ ap (λ c. made_if c (Pair op (meant a) (meant b)) r) w))
        (λ w. inr (TooDeep, step ∙ ap (λ c. made_if c (Pair op (meant a) (meant b)) r) w, inl (refl, inr (inl w))))
        (either (small (Pair op (meant a) (meant b)))))
        (λ g. inr (g.0, goes ∙ ap (λ o. and_parse o (λ u t. made small (Pair op (meant a) u) t)) g.1, blames_right small room g.0 op a b g.2))
        (operands.by b r f.2 (Stops-weaker 4 5 r (omega arith) st)))
        (λ e. inr (e.0, ap at flat ∙ ap (λ o. and_parse o (once small P relation_op)) e.1, blames_left small room e.0 op a b e.2))
        (operands.by a x f.1 (omega arith))
    related (Joined Add a b) r f st = lone (Joined Add a b) r (omega arith, f.1, f.2) st
    related (Joined Sub a b) r f st = lone (Joined Sub a b) r (omega arith, f.1, f.2) st
    related (Joined Mul a b) r f st = lone (Joined Mul a b) r (omega arith, f.1, f.2) st
    related (Joined Div a b) r f st = lone (Joined Div a b) r (omega arith, f.1, f.2) st
    related (Joined And a b) r f st = absurd (omega (arith, f.0))
    related (Joined Or a b) r f st = absurd (omega (arith, f.0))

    once_complete : Complete small 4 room (once_by small P relation_op)
    once_complete = record { by = related }

  -- what stands in parentheses is read up to its end, or there is a reason
  abbrev Inner : ℕ → Type 0
  Inner room =
      (s : Written) (r : List Symbol) → Fits 1 s
      → (expression small room (spelled s ++ Closing ∷ r) ≡ phrase (meant s) (Closing ∷ r))
      ⊎ ((c : FaultCode) × (expression small room (spelled s ++ Closing ∷ r) ≡ Err c) × Blames small room c (Paren s))

  primary : (room : ℕ) → Inner room → (s : Written) (r : List Symbol) → Fits 8 s → Ends small (primary_by (expression small room)) room s r
  primary room inner (Leaf (Ok t)) r f = inl refl
  primary room inner (Leaf (Err d)) r f = inr (d, refl, inr refl)
  primary room inner (Paren s) r f =
      let flat : (spelled s ++ Closing ∷ []) ++ r ≡ spelled s ++ Closing ∷ r = append_assoc (spelled s) (Closing ∷ []) r in
      let at = ap (λ (ts : List Symbol). and_parse (expression small room ts) closed) flat in
      ⊎_elim
      (λ e. inl (at ∙ ap (λ o. and_parse o closed) e))
      (λ e. inr (e.0, at ∙ ap (λ o. and_parse o closed) e.1, e.2))
      (inner s r f)
  primary room inner (Signed op s) r f = absurd (omega (arith, sign-le op, f.0))
  primary room inner (Joined op a b) r f = absurd (omega (arith, level-le op, f.0))

  levels : (room : ℕ) → Inner room → Complete small 1 room (disjunction_by small (expression small room))
  levels room inner =
      let primaries : Complete small 8 room (primary_by (expression small room)) = record { by = λ s r f st. primary room inner s r f } in
      let signs : Complete small 7 room (signed_by small (expression small room)) = fronted_complete small 7 room (primary_by (expression small room)) sign_of sign_fronts primaries in
      let products : Complete small 6 room (product_by small (expression small room)) = chain_complete small 6 room (signed_by small (expression small room)) product_op product_ops signs in
      let sums : Complete small 5 room (sum_by small (expression small room)) = chain_complete small 5 room (product_by small (expression small room)) sum_op sum_ops products in
      let relations : Complete small 4 room (relation_by small (expression small room)) = once_complete room (sum_by small (expression small room)) sums in
      let negations : Complete small 3 room (negation_by small (expression small room)) =
      fronted_complete small 3 room (relation_by small (expression small room)) negation_of negation_fronts relations in
      let conjunctions : Complete small 2 room (conjunction_by small (expression small room)) = chain_complete small 2 room (negation_by small (expression small room)) and_op and_ops negations in
      chain_complete small 1 room (conjunction_by small (expression small room)) or_op or_ops conjunctions

  blames_paren : (room : ℕ) (c : FaultCode) (s : Written) → Blames small room c s → Blames small (suc room) c (Paren s)
  blames_paren room c s (inl (e, inl n)) = inl (e, inl (omega arith))
  blames_paren room c s (inl (e, inr g)) = inl (e, inr g)
  blames_paren room c s (inr h) = inr h

  inner : (room : ℕ) → Inner room
  inner zero s r f = inr (TooDeep, expression-zero small (spelled s ++ Closing ∷ r), inl (refl, inl (omega arith)))
  inner (suc room) s r f =
      ⊎_elim
      (λ e. inl (expression-suc small room (spelled s ++ Closing ∷ r) ∙ e))
      (λ e. inr (e.0, expression-suc small room (spelled s ++ Closing ∷ r) ∙ e.1, blames_paren room e.0 s e.2))
      ((levels room (inner room)).by s (Closing ∷ r) f (omega arith))

  -- each expression is read, where so many pairs of parentheses may be opened
  pub complete : (room : ℕ) → Complete small 1 room (disjunction_by small (expression small room))
  complete room = levels room (inner room)

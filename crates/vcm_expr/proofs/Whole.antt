-- From what the parser answers on all symbols to what they spell.
use Rattle.std.proofs.Common.{Bool, true, false, cond, ◌≡◌, ◌≢◌, ℕ, ◌≤◌, ◌⊎◌, inl, inr, ⊎_elim, List, [], ◌∷◌, ◌++◌, length, Result, Ok, Err, refl, sym, ap, ◌∙◌, subst, arith}
use Rattle.std.specs.Prelude.{nat_le, Option, Some, IfOk, IfErr}
use Rattle.std.proofs.lemmas.Bool.{and_parts}
use Rattle.std.proofs.lemmas.List.{append-nil, nil_from_length}
use Rattle.vcm_num.specs.declared.number.Literal.{Literal}
use Rattle.vcm_num.specs.declared.read.NumFault.{NumFault}
use Rattle.vcm_num.specs.declared.read.NumFault.TheVariants.{BadNumber, TooFine as FineNumber, TooLarge as LargeNumber}
use Rattle.vcm_lines.specs.declared.fault.FaultCode.{FaultCode}
use Rattle.vcm_lines.specs.declared.fault.FaultCode.TheVariants.{NoMemory, BadSyntax, TooFine, NumberTooLarge, TooDeep}
use Rattle.vcm_num.specs.Words.{look_up}
use Rattle.vcm_lines.specs.Dotted.{dotted_words}
use Rattle.vcm_lines.specs.declared.dotted.DottedWord.{DottedWord}
use Rattle.vcm_lines.specs.declared.dotted.DottedWord.TheVariants.{Truth}
use Rattle.vcm_lines.specs.Lexemes.{Lexeme, Run, Number, Dotted}
use Rattle.vcm_expr.specs.declared.expression.Term.{Term}
use Rattle.vcm_expr.specs.declared.symbol.Symbol.{Symbol}
use Rattle.vcm_expr.specs.declared.symbol.Symbol.TheVariants.{Operand}
use Rattle.vcm_expr.specs.Digits.{read_of}
use Rattle.vcm_expr.specs.Symbols.{symbols_of, symbol_of, number_term, run_term, dotted_symbol}
use Rattle.vcm_items.specs.NameBytes.{is_variable_name}
use Rattle.vcm_expr.specs.Source.{Source, Plain, Prefixed, Pair, depth_of, nodes_of, is_small}
use Rattle.vcm_expr.specs.Grammar.{Written, Leaf, Paren, Signed, Joined, spelled, IsOperand, Fits, meant, IsRead, SpellsExpr, IsDeep, NestsDeep, HasBigPart, HasFlaw, BreaksSymbols}
use Rattle.vcm_expr.specs.inner.Pieces.{top_of}
use Rattle.vcm_expr.specs.Parser.{Taken, phrase, disjunction_by, expression}
use Rattle.vcm_expr.specs.inner.Levels.{Told, lone_of}
use Rattle.vcm_expr.specs.Parsing.{IsExpr, BreaksExpr, At, ReadAs, expr_of, read_symbols, all_read}
use Rattle.vcm_lines.specs.Fault.{NoMemoryOr, no_memory}
use Rattle.vcm_spec.specs.Results.{◌>>=◌}
use Rattle.vcm_lines.specs.declared.fault.SourceFault.{SourceFault}
use Rattle.vcm_expr.proofs.Complete.{HasBad, TooBig, Blames}
use Rattle.vcm_expr.proofs.Ladder.{complete}
use Rattle.vcm_expr.proofs.Sound.{all_sound}
use Rattle.vcm_expr.proofs.Causes.{Cause, all_caused}

-- what the parser reads of all symbols
abbrev pub reading : List Symbol → Result Taken FaultCode
reading ps = disjunction_by is_small (expression is_small 32) ps

-- ---- limits

small_facts : (t : Source) → is_small t ≡ true → (depth_of t ≤ 32) × (nodes_of t ≤ 512)
small_facts t e = let p = and_parts (nat_le (depth_of t) 32) (nat_le (nodes_of t) 512) e in (grind arith, grind arith)

small_from : (t : Source) → depth_of t ≤ 32 → nodes_of t ≤ 512 → is_small t ≡ true
small_from t d n = grind arith

-- a part of what is small is small
big_whole : (t u : Source) → depth_of t ≤ depth_of u → nodes_of t ≤ nodes_of u → is_small t ≡ false → is_small u ≡ false
big_whole t u d n big = by (is_small u) refl
  where
    by : (b : Bool) → is_small u ≡ b → is_small u ≡ false
    by true e = let f = small_facts u e in let s = small_from t (omega (arith, f.0)) (omega (arith, f.1)) in absurd cc
    by false e = e

big_is : (s : Written) → TooBig is_small s → is_small (meant s) ≡ false
big_is (Leaf o) h = absurd h
big_is (Paren s) h = big_is s h
big_is (Signed op s) (inl w) = w
big_is (Signed op s) (inr h) = big_whole (meant s) (Prefixed op (meant s)) (omega arith) (omega arith) (big_is s h)
big_is (Joined op a b) (inl w) = w
big_is (Joined op a b) (inr (inl h)) = big_whole (meant a) (Pair op (meant a) (meant b)) (omega arith) (omega arith) (big_is a h)
big_is (Joined op a b) (inr (inr h)) = big_whole (meant b) (Pair op (meant a) (meant b)) (omega arith) (omega arith) (big_is b h)

-- ---- leaves without a value

abbrev IsValueFault : FaultCode → Type 0
IsValueFault c = (c ≡ TooFine) ⊎ (c ≡ NumberTooLarge)

operand_fault : (d : FaultCode) → IsOperand (Err d) → IsValueFault d
operand_fault TooFine h = inl refl
operand_fault NumberTooLarge h = inr refl
operand_fault _ h = absurd h

bad_is : (l : ℕ) (s : Written) (c : FaultCode) → Fits l s → HasBad c s → IsValueFault c
bad_is l (Leaf (Ok t)) c f h = absurd h
bad_is l (Leaf (Err d)) c f h = subst IsValueFault (sym h) (operand_fault d f)
bad_is l (Paren s) c f h = bad_is 1 s c f h
bad_is l (Signed op s) c f h = bad_is _ s c f.1 h
bad_is l (Joined op a b) c f (inl h) = bad_is _ a c f.1 h
bad_is l (Joined op a b) c f (inr h) = bad_is _ b c f.2 h

not_syntax : IsValueFault BadSyntax → ⊥
not_syntax (inl e) = cc
not_syntax (inr e) = cc

not_deep : IsValueFault TooDeep → ⊥
not_deep (inl e) = cc
not_deep (inr e) = cc

pub read_not_bad : (s : Written) (c : FaultCode) → IsRead s → HasBad c s → ⊥
read_not_bad (Leaf (Ok t)) c i h = h
read_not_bad (Leaf (Err d)) c i h = i
read_not_bad (Paren s) c i h = read_not_bad s c i h
read_not_bad (Signed op s) c i h = read_not_bad s c i h
read_not_bad (Joined op a b) c i (inl h) = read_not_bad a c i.0 h
read_not_bad (Joined op a b) c i (inr h) = read_not_bad b c i.1 h

-- ---- what an expression is answered

-- symbols that spell an expression are read, or there is a reason
answer : (ps : List Symbol) (s : Written) → ps ≡ spelled s → Fits 1 s → (reading ps ≡ phrase (meant s) []) ⊎ ((c : FaultCode) × (reading ps ≡ Err c) × Blames is_small 32 c s)
answer ps s e f =
    let flat : ps ≡ spelled s ++ [] = e ∙ sym (append-nil (spelled s)) in
    ⊎_elim
    (λ r. inl (ap reading flat ∙ r))
    (λ r. inr (r.0, ap reading flat ∙ r.1, r.2))
    ((complete is_small 32).by s [] f tt)

-- the symbols after a phrase
abbrev rest_of : Result Taken FaultCode → List Symbol
rest_of (Ok p) = p.rest
rest_of (Err e) = []

pub reads_spells : (ps : List Symbol) (t : Source) (r : List Symbol) → reading ps ≡ phrase t r → length r ≡ 0 → SpellsExpr ps t × (is_small t ≡ true)
reads_spells ps t r e h =
    let q = (all_sound 32).disjunctions ps (record { tree = t; rest = r }) e in
    let nil = nil_from_length r h in
    (record { written = q.written; symbols = q.symbols ∙ ap (λ l. spelled q.written ++ l) nil ∙ append-nil (spelled q.written); fits = q.fits; read = q.read; nests = q.shallow; is = q.tree }, q.sized)

-- symbols are left over
pub extra_symbols : (ps : List Symbol) (t : Source) (r : List Symbol) → reading ps ≡ phrase t r → length r ≢ 0 → BreaksSymbols ps BadSyntax
extra_symbols ps t r e h s spells f =
    ⊎_elim
    (λ a. let both : phrase t r ≡ phrase (meant s) [] = sym e ∙ a in let nil : r ≡ [] = ap rest_of both in h (ap length nil))
    (λ a. let both : phrase t r ≡ Err a.0 = sym e ∙ a.1 in cc)
    (answer ps s spells f)

same_code : (o : Result Taken FaultCode) (c d : FaultCode) → o ≡ Err c → o ≡ Err d → c ≡ d
same_code o c d e f = let both : Err c ≡ Err d = sym e ∙ f in code both
  where
    code : ◌≡◌ {A = Result Taken FaultCode} (Err c) (Err d) → c ≡ d
    code e = cc

no_syntax : (ps : List Symbol) → reading ps ≡ Err BadSyntax → BreaksSymbols ps BadSyntax
no_syntax ps e s spells f =
    ⊎_elim
    (λ a. let both : Err BadSyntax ≡ phrase (meant s) [] = sym e ∙ a in cc)
    (λ a.
    let same = same_code (reading ps) BadSyntax a.0 e a.1 in
    ⊎_elim
    (λ b. let none : BadSyntax ≡ TooDeep = same ∙ b.0 in cc)
    (λ b. not_syntax (bad_is 1 s BadSyntax f (subst (λ c. HasBad c s) (sym same) b)))
    a.2)
    (answer ps s spells f)

all_deep : (ps : List Symbol) → reading ps ≡ Err TooDeep → (s : Written) → ps ≡ spelled s → Fits 1 s → IsDeep s
all_deep ps e s spells f =
    ⊎_elim
    (λ a. let both : Err TooDeep ≡ phrase (meant s) [] = sym e ∙ a in absurd cc)
    (λ a.
    let same = same_code (reading ps) TooDeep a.0 e a.1 in
    ⊎_elim
    (λ b. ⊎_elim (λ n. inl n) (λ g. inr (big_is s g)) b.1)
    (λ b. absurd (not_deep (bad_is 1 s TooDeep f (subst (λ c. HasBad c s) (sym same) b))))
    a.2)
    (answer ps s spells f)

-- ---- the faults of words

number_fault : (r : Result Literal NumFault) (c : FaultCode) → number_term r ≡ Err c → (c ≡ BadSyntax) ⊎ IsValueFault c
number_fault (Ok x) c e = absurd cc
number_fault (Err BadNumber) c e = let same : BadSyntax ≡ c = cc in inl (sym same)
number_fault (Err FineNumber) c e = let same : TooFine ≡ c = cc in inr (inl (sym same))
number_fault (Err LargeNumber) c e = let same : NumberTooLarge ≡ c = cc in inr (inr (sym same))

-- what both cases have, a choice has
choose : {A : Type 0} (P : A → Type 0) (b : Bool) (x y : A) → P x → P y → P (cond b x y)
choose P true x y p q = p
choose P false x y p q = q

-- a part that is an operand without a value tells why
abbrev FaultOf : FaultCode → Symbol → Type 0
FaultOf c p = p ≡ Operand (Err c) → (c ≡ BadSyntax) ⊎ IsValueFault c

plain_fault : (c : FaultCode) (t : Term) → FaultOf c (Operand (Ok t))
plain_fault c t e = absurd cc

dotted_fault : (c : FaultCode) (word : Option DottedWord) → FaultOf c (dotted_symbol word)
dotted_fault c (Some (Truth b)) = plain_fault c _
dotted_fault c _ = λ e. absurd cc

term_fault : (c : FaultCode) (o : Result Term FaultCode) → (o ≡ Err c → (c ≡ BadSyntax) ⊎ IsValueFault c) → FaultOf c (Operand o)
term_fault c o h e = h cc

run_fault : (c : FaultCode) (bs : List ℕ) → run_term bs ≡ Err c → (c ≡ BadSyntax) ⊎ IsValueFault c
run_fault c bs = choose (λ o. o ≡ Err c → (c ≡ BadSyntax) ⊎ IsValueFault c) (is_variable_name bs) _ _ (λ e. absurd cc) (number_fault (read_of bs) c)

part_fault : (c : FaultCode) (w : Lexeme) → FaultOf c (symbol_of w)
part_fault c (Run bs) = term_fault c (run_term bs) (run_fault c bs)
part_fault c (Number bs) = term_fault c (number_term (read_of bs)) (number_fault (read_of bs) c)
part_fault c (Dotted bs) = dotted_fault c (look_up dotted_words bs)
part_fault c _ = λ e. absurd cc

flaw_in : (ws : List Lexeme) (front back : List Symbol) (c : FaultCode) → symbols_of ws ≡ front ++ (Operand (Err c) ∷ back) → (c ≡ BadSyntax) ⊎ IsValueFault c
flaw_in [] [] back c e = absurd cc
flaw_in [] (x ∷ front) back c e = absurd cc
flaw_in (w ∷ ws) [] back c e = part_fault c w cc
flaw_in (w ∷ ws) (x ∷ front) back c e = flaw_in ws front back c cc

-- what the parser refuses breaks the rule of that name
refused : (ws : List Lexeme) (c : FaultCode) → reading (symbols_of ws) ≡ Err c
    → (c ≡ BadSyntax) ⊎ (((c ≡ TooDeep) × (NestsDeep (symbols_of ws) ⊎ HasBigPart (symbols_of ws))) ⊎ (IsValueFault c × HasFlaw c (symbols_of ws)))
refused ws c e = by (all_caused 32 (symbols_of ws) c e)
  where
    by : Cause 32 0 c (symbols_of ws) → (c ≡ BadSyntax) ⊎ (((c ≡ TooDeep) × (NestsDeep (symbols_of ws) ⊎ HasBigPart (symbols_of ws))) ⊎ (IsValueFault c × HasFlaw c (symbols_of ws)))
    by (inl b) = inl b
    by (inr (inl (t, inl d))) = inr (inl (t, inl (record { front = d.front; back = d.back; cut = d.cut; deep = d.deep })))
    by (inr (inl (t, inr g))) = inr (inl (t, inr g))
    by (inr (inr f)) = ⊎_elim (λ b. inl b) (λ v. inr (inr (v, f))) (flaw_in ws f.front f.back c f.cut)

pub fails_breaks : (ws : List Lexeme) (c : FaultCode) → reading (symbols_of ws) ≡ Err c → BreaksSymbols (symbols_of ws) c
fails_breaks ws c e = by (refused ws c e) e
  where
    by : {d : FaultCode} → (d ≡ BadSyntax) ⊎
        (((d ≡ TooDeep) × (NestsDeep (symbols_of ws) ⊎ HasBigPart (symbols_of ws))) ⊎ (IsValueFault d × HasFlaw d (symbols_of ws)))
        → reading (symbols_of ws) ≡ Err d → BreaksSymbols (symbols_of ws) d
    by {d = d} (inl b) e = subst (BreaksSymbols (symbols_of ws)) (sym b) (no_syntax (symbols_of ws) (e ∙ ap Err b))
    by {d = d} (inr (inl t)) e = subst (BreaksSymbols (symbols_of ws)) (sym t.0) (t.1, all_deep (symbols_of ws) (e ∙ ap Err t.0))
    by {d = d} (inr (inr (inl v, f))) e = subst (BreaksSymbols (symbols_of ws)) (sym v) (subst (λ c. HasFlaw c (symbols_of ws)) v f)
    by {d = d} (inr (inr (inr v, f))) e = subst (BreaksSymbols (symbols_of ws)) (sym v) (subst (λ c. HasFlaw c (symbols_of ws)) v f)

-- ---- what the reading of all symbols says

-- what is left is looked at
pub read_all : (ps : List Symbol) (t : Source) (r : List Symbol) → reading ps ≡ phrase t r → read_symbols ps ≡ all_read t r
unfolding read_symbols
read_all ps t r e = ap (λ o. o >>= λ p. all_read p.tree p.rest) e

-- a fault is the fault of all
pub read_fault : (ps : List Symbol) (c : FaultCode) → reading ps ≡ Err c → read_symbols ps ≡ Err c
unfolding read_symbols
read_fault ps c e = ap (λ o. o >>= λ p. all_read p.tree p.rest) e

-- words that are read spell what was read, and words that are refused break the rule
module _ (ws : List Lexeme) where
  spells_by : (o : Result Taken FaultCode) (e : Source) → reading (symbols_of ws) ≡ o → (o >>= λ p. all_read p.tree p.rest) ≡ Ok e → IsExpr ws e
  spells_by (Ok p) e is h = rest p.rest (is ∙ refl) h
    where
      rest : (r : List Symbol) → reading (symbols_of ws) ≡ phrase p.tree r → all_read p.tree r ≡ Ok e → IsExpr ws e
      rest [] is h = let same : p.tree ≡ e = cc in subst (IsExpr ws) same (reads_spells (symbols_of ws) p.tree [] is refl)
      rest (k ∷ r) is h = absurd cc
  spells_by (Err c) e is h = absurd cc

  breaks_by : (o : Result Taken FaultCode) (c : FaultCode) → reading (symbols_of ws) ≡ o → (o >>= λ p. all_read p.tree p.rest) ≡ Err c → BreaksExpr ws c
  breaks_by (Ok p) c is h = rest p.rest (is ∙ refl) h
    where
      rest : (r : List Symbol) → reading (symbols_of ws) ≡ phrase p.tree r → all_read p.tree r ≡ Err c → BreaksExpr ws c
      rest [] is h = absurd cc
      rest (k ∷ r) is h =
          let same : BadSyntax ≡ c = cc in
          let some : length (k ∷ r) ≢ 0 = λ none. omega arith in
          subst (BreaksExpr ws) same (extra_symbols (symbols_of ws) p.tree (k ∷ r) is some)
  breaks_by (Err d) c is h = let same : d ≡ c = cc in subst (BreaksExpr ws) same (fails_breaks ws d is)

  pub expr_spells : (e : Source) → expr_of ws ≡ Ok e → IsExpr ws e
  unfolding read_symbols
  expr_spells e h = spells_by (reading (symbols_of ws)) e refl h

  pub expr_breaks : (c : FaultCode) → expr_of ws ≡ Err c → BreaksExpr ws c
  unfolding read_symbols
  expr_breaks c h = breaks_by (reading (symbols_of ws)) c refl h

  pub expr_ok : (line : ℕ) (r : Result Source SourceFault) → ReadAs line (λ e. e) r (expr_of ws) → IfOk r (IsExpr ws)
  expr_ok line (Ok e) h = expr_spells e h
  expr_ok line (Err f) h = tt

  pub expr_fault : (line : ℕ) (r : Result Source SourceFault) → ReadAs line (λ e. e) r (expr_of ws) → IfErr r (NoMemoryOr (At line (BreaksExpr ws)))
  expr_fault line (Ok e) h = tt
  expr_fault line (Err f) (inl m) = inl m
  expr_fault line (Err f) (inr t) = inr (t.0, expr_breaks f.code t.1)

  -- want of memory is no fault of words
  pub never_memory : expr_of ws ≡ Err NoMemory → ⊥
  never_memory h = expr_breaks NoMemory h

-- ---- the exits of the parser

pub whole_refuses : (line : ℕ) (ps : List Symbol) (f : SourceFault) → NoMemoryOr (Told line (reading ps)) f → (f ≡ no_memory) ⊎ ((f.line ≡ line) × (read_symbols ps ≡ Err f.code))
whole_refuses line ps f (inl m) = inl m
whole_refuses line ps f (inr t) = inr (t.0, read_fault ps f.code t.1)

-- symbols are left
pub whole_extra : (ps : List Symbol) (t : Source) (r : List Symbol) (k : Symbol) (q : List Symbol) → reading ps ≡ phrase t r → r ≡ k ∷ q → read_symbols ps ≡ Err BadSyntax
whole_extra ps t r k q e more = read_all ps t r e ∙ ap (all_read t) more

-- an operand that stands alone
read_lone : (o : Result Term FaultCode) → read_symbols (Operand o ∷ []) ≡ lone_of o
read_lone (Ok t) = read_all (Operand (Ok t) ∷ []) (Plain t) [] refl
read_lone (Err c) = read_fault (Operand (Err c) ∷ []) c refl

pub whole_lone : (ps : List Symbol) (o : Result Term FaultCode) (line : ℕ) (r : Result Source SourceFault) → ps ≡ Operand o ∷ []
    → ReadAs line (λ e. e) r (lone_of o) → ReadAs line (λ e. e) r (read_symbols ps)
whole_lone ps o line r is h = subst (ReadAs line (λ e. e) r) (sym (ap read_symbols is ∙ read_lone o)) h

-- the only expression of the stack is what was read
pub whole_finished : (ps : List Symbol) (t u : Source) (r : List Symbol) (now : List Source) → reading ps ≡ phrase t r → r ≡ [] → now ≡ t ∷ [] → now ≡ u ∷ [] → read_symbols ps ≡ Ok u
whole_finished ps t u r now e none first second =
    let same : t ≡ u = ap (λ es. top_of es) (sym first ∙ second) in
    read_all ps t r e ∙ ap (all_read t) none ∙ ap Ok same

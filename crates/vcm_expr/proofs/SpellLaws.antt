-- Symbols spell one expression at most, and symbols that spell one break no rule.
use Rattle.std.proofs.Common.{Bool, true, false, ◌≡◌, inl, inr, ⊎_elim, List, [], ◌∷◌, ◌++◌, Result, Ok, Err, refl, sym, ap, ◌∙◌, arith}
use Rattle.std.specs.Prelude.{◌||◌}
use Rattle.std.specs.List.{list_any}
use Rattle.std.proofs.lemmas.List.{append-nil}
use Rattle.vcm_lines.specs.declared.fault.FaultCode.{FaultCode}
use Rattle.vcm_lines.specs.declared.fault.FaultCode.TheVariants.{BadSyntax, TooFine, NumberTooLarge, TooDeep}
use Rattle.vcm_lines.specs.Lexemes.{Lexeme}
use Rattle.vcm_spec.specs.declared.expression.BinaryOp.{BinaryOp}
use Rattle.vcm_spec.specs.declared.expression.BinaryOp.TheVariants.{Add, Sub, Mul, Div, And, Or, Compare}
use Rattle.vcm_expr.specs.declared.expression.Prefix.{Prefix}
use Rattle.vcm_expr.specs.declared.expression.Prefix.TheVariants.{Minus, Plus, Not}
use Rattle.vcm_expr.specs.declared.expression.Term.TheVariants.{Truth}
use Rattle.vcm_expr.specs.declared.symbol.Symbol.{Symbol}
use Rattle.vcm_expr.specs.declared.symbol.Symbol.TheVariants.{Operand, Closing}
use Rattle.vcm_expr.specs.Symbols.{symbols_of}
use Rattle.vcm_expr.specs.Source.{Source, Plain, is_small}
use Rattle.vcm_expr.specs.Grammar.{Written, Leaf, Paren, Signed, Joined, word_of, sign_word, spelled, meant, IsRead, SpellsExpr, HasFlaw}
use Rattle.vcm_expr.specs.Parsing.{IsExpr, BreaksExpr, expr_of}
use Rattle.vcm_expr.specs.Parser.{Taken, phrase, disjunction_by, expression}
use Rattle.vcm_expr.proofs.Complete.{TooBig}
use Rattle.vcm_expr.proofs.Ladder.{complete}
use Rattle.vcm_expr.proofs.Whole.{read_not_bad, expr_spells, expr_breaks}

-- without a limit
abbrev any_size : Source → Bool
any_size t = true

never_big : (s : Written) → TooBig any_size s → ⊥
never_big (Leaf o) h = h
never_big (Paren s) h = never_big s h
never_big (Signed op s) (inl e) = cc
never_big (Signed op s) (inr h) = never_big s h
never_big (Joined op a b) (inl e) = cc
never_big (Joined op a b) (inr (inl h)) = never_big a h
never_big (Joined op a b) (inr (inr h)) = never_big b h

abbrev unlimited : List Symbol → Result Taken FaultCode
unlimited ps = disjunction_by any_size (expression any_size 32) ps

-- symbols that spell an expression are read as that
is_read : (ps : List Symbol) (e : Source) → SpellsExpr ps e → unlimited ps ≡ phrase e []
is_read ps e s =
    let flat : ps ≡ spelled s.written ++ [] = s.symbols ∙ sym (append-nil (spelled s.written)) in
    ap unlimited flat
    ∙ ⊎_elim
    (λ r. r)
    (λ r. absurd (⊎_elim (λ b. ⊎_elim (λ n. omega (arith, n, s.nests)) (λ g. never_big s.written g) b.1) (λ b. read_not_bad s.written r.0 s.read b) r.2))
    ((complete any_size 32).by s.written [] s.fits tt)
    ∙ ap (λ t. phrase t []) s.is

abbrev tree_in : Result Taken FaultCode → Source
tree_in (Ok p) = p.tree
tree_in (Err e) = Plain (Truth false)

pub one_expression : (ps : List Symbol) (e f : Source) → SpellsExpr ps e → SpellsExpr ps f → e ≡ f
one_expression ps e f s t =
    let both : phrase e [] ≡ phrase f [] = sym (is_read ps e s) ∙ is_read ps f t in
    ap tree_in both

-- ---- an expression whose leaves have values has no flaw

abbrev is_flaw : Symbol → Bool
is_flaw (Operand (Err c)) = true
is_flaw _ = false

abbrev flawed : List Symbol → Bool
flawed ps = list_any is_flaw ps

or_nothing : (b c d : Bool) → b ≡ false → c ≡ d → (b || c) ≡ d
or_nothing false c d e f = f
or_nothing true c d e f = absurd cc

sign_fine : (op : Prefix) → is_flaw (sign_word op) ≡ false
sign_fine Minus = refl
sign_fine Plus = refl
sign_fine Not = refl

word_fine : (op : BinaryOp) → is_flaw (word_of op) ≡ false
word_fine Add = refl
word_fine Sub = refl
word_fine Mul = refl
word_fine Div = refl
word_fine And = refl
word_fine Or = refl
word_fine (Compare r) = refl

any_append : (ps qs : List Symbol) → flawed ps ≡ false → flawed (ps ++ qs) ≡ flawed qs
any_append [] qs e = refl
any_append (p ∷ ps) qs e = by (is_flaw p) (flawed ps) e (any_append ps qs)
  where
    by : (b c : Bool) → (b || c) ≡ false → (c ≡ false → flawed (ps ++ qs) ≡ flawed qs) → (b || flawed (ps ++ qs)) ≡ flawed qs
    by false c e h = h e
    by true c e h = absurd cc

spelled_fine : (s : Written) → IsRead s → flawed (spelled s) ≡ false
spelled_fine (Leaf (Ok t)) i = refl
spelled_fine (Leaf (Err c)) i = absurd i
spelled_fine (Paren s) i = any_append (spelled s) (Closing ∷ []) (spelled_fine s i)
spelled_fine (Signed op s) i = or_nothing _ _ _ (sign_fine op) (spelled_fine s i)
spelled_fine (Joined op a b) i =
    any_append (spelled a) (word_of op ∷ spelled b) (spelled_fine a i.0) ∙ or_nothing _ _ _ (word_fine op) (spelled_fine b i.1)

has_flaw : (front back : List Symbol) (c : FaultCode) → flawed (front ++ (Operand (Err c) ∷ back)) ≡ true
has_flaw [] back c = refl
has_flaw (p ∷ front) back c = by (is_flaw p) _ (has_flaw front back c)
  where
    by : (b c : Bool) → c ≡ true → (b || c) ≡ true
    by true c e = refl
    by false c e = e

no_flaw : (ps : List Symbol) (e : Source) (c : FaultCode) → SpellsExpr ps e → HasFlaw c ps → ⊥
no_flaw ps e c s f =
    let fine : flawed ps ≡ false = ap flawed s.symbols ∙ spelled_fine s.written s.read in
    let bad : flawed ps ≡ true = ap flawed f.cut ∙ has_flaw f.front f.back c in
    cc

pub spell_or_break : (ws : List Lexeme) (e : Source) (code : FaultCode) → IsExpr ws e → BreaksExpr ws code → ⊥
spell_or_break ws e BadSyntax s b = b s.0.written s.0.symbols s.0.fits
spell_or_break ws e TooFine s b = no_flaw (symbols_of ws) e TooFine s.0 b
spell_or_break ws e NumberTooLarge s b = no_flaw (symbols_of ws) e NumberTooLarge s.0 b
spell_or_break ws e TooDeep s b =
    ⊎_elim
    (λ n. omega (arith, n, s.0.nests))
    (λ g. let small : is_small (meant s.0.written) ≡ true = ap is_small s.0.is ∙ s.1 in cc)
    (b.1 s.0.written s.0.symbols s.0.fits)
spell_or_break ws e _ s b = b

-- words that spell an expression are read as that
read_by : (ws : List Lexeme) (e : Source) (r : Result Source FaultCode) → expr_of ws ≡ r → IsExpr ws e → expr_of ws ≡ Ok e
read_by ws e (Ok t) is h = is ∙ ap Ok (one_expression (symbols_of ws) t e (expr_spells ws t is).0 h.0)
read_by ws e (Err c) is h = absurd (spell_or_break ws e c h (expr_breaks ws c is))

pub spelled_read : (ws : List Lexeme) (e : Source) → IsExpr ws e → expr_of ws ≡ Ok e
spelled_read ws e h = read_by ws e (expr_of ws) refl h

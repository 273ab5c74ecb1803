-- What is told of the lines of a statement.
use Rattle.std.proofs.Common.{◌≡◌, ℕ, List, [], ◌∷◌, refl, sym, subst, ◌∙◌, Option, Some, None, Ok, Err, inl, inr, ap}
use Rattle.std.specs.Prelude.{IfOk, Result}
use Rattle.vcm_num.specs.declared.memory.NoMemory.{NoMemory}
use Rattle.vcm_lines.specs.Fault.{NoMemoryOr}
use Rattle.vcm_lines.specs.declared.fault.SourceFault.{SourceFault}
use Rattle.vcm_lines.specs.declared.logical.Logical.{Logical}
use Rattle.vcm_lines.specs.Statements.{lines_of, kept_lines, grouped}
use Rattle.vcm_lines.specs.Leftmost.{first_fault}
use Rattle.vcm_lines.specs.declared.fault.FaultCode.{FaultCode}
use Rattle.vcm_lines.proofs.OneReading.{one_statements}
use Rattle.vcm_sentences.specs.Judged.{ReadsLines, IsTaken, BeginsSpelled, BeginsFaulty, told_from, IsFaulty, in_lines, in_statement, IsJudged, Tells}

found_faulty : (first : ℕ) (text : List ℕ) (g : SourceFault) (found : Option SourceFault) → NoMemoryOr (IsFaulty text) g → Tells first g found → IsJudged first text found
found_faulty first text g None h t = absurd t
found_faulty first text g (Some f) (inl e) t = absurd (t.1 (ap (λ (x : SourceFault). x.code) e))
found_faulty first text g (Some f) (inr h) t = (g, h, t.0)

told_faulty : (first : ℕ) (text : List ℕ) (g : SourceFault) (r : Result (Option SourceFault) NoMemory) → NoMemoryOr (IsFaulty text) g → IfOk r (Tells first g)
    → IfOk r (IsJudged first text)
told_faulty first text g (Ok found) h t = found_faulty first text g found h t
told_faulty first text g (Err e) h t = tt

of_lines : (text : List ℕ) (g : SourceFault) → NoMemoryOr (λ f. first_fault (lines_of text) ≡ Some f) g → NoMemoryOr (IsFaulty text) g
of_lines text g (inl e) = inl e
of_lines text g (inr h) = inr (in_lines h)

of_statement : (text : List ℕ) (ls : List Logical) (g : SourceFault) → ReadsLines text ls → NoMemoryOr (BeginsFaulty ls) g → NoMemoryOr (IsFaulty text) g
of_statement text ls g r (inl e) = inl e
of_statement text ls g r (inr h) = inr (in_statement ls r h)

pub lines_told : (first : ℕ) (text : List ℕ) (g : SourceFault) (r : Result (Option SourceFault) NoMemory)
    → NoMemoryOr (λ f. first_fault (lines_of text) ≡ Some f) g → IfOk r (Tells first g) → IfOk r (IsJudged first text)
lines_told first text g r h t = told_faulty first text g r (of_lines text g h) t

pub statement_told : (first : ℕ) (text : List ℕ) (ls : List Logical) (g : SourceFault) (r : Result (Option SourceFault) NoMemory) → ReadsLines text ls
    → NoMemoryOr (BeginsFaulty ls) g → IfOk r (Tells first g) → IfOk r (IsJudged first text)
statement_told first text ls g r read h t = told_faulty first text g r (of_statement text ls g read h) t

-- ---- lines are judged in one way

one_list : (text : List ℕ) (xs ys : List Logical) → ReadsLines text xs → ReadsLines text ys → xs ≡ ys
one_list text xs ys p q = one_statements (grouped (kept_lines (lines_of text))) xs ys p.lines q.lines

-- a fault of the lines, and none
unlike_lines : (text : List ℕ) (f : SourceFault) (ls : List Logical) → first_fault (lines_of text) ≡ Some f → ReadsLines text ls → ⊥
unlike_lines text f ls e r = let none : None ≡ Some f = sym r.clean ∙ e in absurd cc

-- a statement that is spelled, and one that isn't
unlike_first : (ls : List Logical) (f : SourceFault) → BeginsSpelled ls → BeginsFaulty ls f → ⊥
unlike_first [] f s b = b
unlike_first (l ∷ ls) f s b = let both : Ok s.0 ≡ Err f.code = sym s.1 ∙ b.1 in absurd cc

taken_or_faulty : (text : List ℕ) (f : SourceFault) → IsTaken text → IsFaulty text f → ⊥
taken_or_faulty text f t (in_lines e) = unlike_lines text f t.statements e t.read
taken_or_faulty text f t (in_statement ls r b) = unlike_first ls f (subst BeginsSpelled (one_list text t.statements ls t.read r) t.spelled) b

same_fault : (f g : SourceFault) → f.code ≡ g.code → f.line ≡ g.line → f ≡ g
same_fault f g e h = ap (λ (c : FaultCode). record { code = c; line = f.line }) e ∙ ap (λ (n : ℕ). record { code = g.code; line = n }) h

one_first : (ls : List Logical) (f g : SourceFault) → BeginsFaulty ls f → BeginsFaulty ls g → f ≡ g
one_first [] f g p q = absurd p
one_first (l ∷ ls) f g p q = let codes : Err f.code ≡ Err g.code = sym p.1 ∙ q.1 in same_fault f g (cc) (p.0 ∙ sym q.0)

one_fault : (text : List ℕ) (f g : SourceFault) → IsFaulty text f → IsFaulty text g → f ≡ g
one_fault text f g (in_lines e) (in_lines h) = let both : Some f ≡ Some g = sym e ∙ h in cc
one_fault text f g (in_lines e) (in_statement ls r b) = absurd (unlike_lines text f ls e r)
one_fault text f g (in_statement ls r b) (in_lines e) = absurd (unlike_lines text g ls e r)
one_fault text f g (in_statement ls r b) (in_statement ks q c) = one_first ks f g (subst (λ xs. BeginsFaulty xs f) (one_list text ls ks r q) b) c

pub one_judgement : (first : ℕ) (text : List ℕ) (x y : Option SourceFault) → IsJudged first text x → IsJudged first text y → x ≡ y
one_judgement first text None None p q = refl
one_judgement first text None (Some g) p q = absurd (taken_or_faulty text q.0 p q.1)
one_judgement first text (Some f) None p q = absurd (taken_or_faulty text p.0 q p.1)
one_judgement first text (Some f) (Some g) p q = ap Some (p.2 ∙ ap (told_from first) (one_fault text p.0 q.0 p.1 q.1) ∙ sym q.2)

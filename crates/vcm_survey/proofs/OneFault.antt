-- The faults of a text are told in one way.
use Rattle.std.proofs.Common.{◌≡◌, ℕ, Bool, true, false, List, [], ◌∷◌, map, refl, sym, ap, subst, ◌∙◌, Option, Some, None}
use Rattle.std.proofs.Math.Logic.{∥∥₁_elim}
use Rattle.std.specs.Coded.{Coded, codes}
use base.Stored.{Coded-set}
use Rattle.vcm_lines.specs.contracts.fault.SourceFault as source_fault
use Rattle.vcm_lines.specs.declared.fault.SourceFault.{SourceFault}
use Rattle.vcm_sentences.specs.declared.sentences.Sentence.{Sentence}
use Rattle.vcm_sentences.specs.Judged.{IsJudged}
use Rattle.vcm_sentences.specs.Stretches.{Spoken, spoken}
use Rattle.vcm_sentences.proofs.Judging.{one_judgement}
use Rattle.vcm_survey.specs.Faults.{with_fault, faults_in, is_too_long, AreFaultsIf, AreFaults}

fault_coded : Coded (Option SourceFault)
fault_coded = hlevel (codes, source_fault.the_row.coded)

one_set : (x y : Option SourceFault) → IsProp (x ≡ y)
one_set x y = Coded-set fault_coded x y

-- sentences that say the same have the same fault
same_fault : (s t : Sentence) → spoken s ≡ spoken t → s.fault ≡ t.fault
same_fault s t e =
    let line : s.line ≡ t.line = ap (λ (x : Spoken). x.line) e in
    let lines : s.lines.items ≡ t.lines.items = ap (λ (x : Spoken). x.lines) e in
    let there : ∥ IsJudged s.line s.lines.items t.fault ∥₁ = rw (line, lines) t.judged in
    ∥∥₁_elim s.judged (one_set s.fault t.fault) (λ p. ∥∥₁_elim there (one_set s.fault t.fault) (λ q. one_judgement s.line s.lines.items s.fault t.fault p q))

first_same : (x y : Spoken) (xs ys : List Spoken) → x ∷ xs ≡ y ∷ ys → x ≡ y
first_same x y xs ys e = cc

rest_same : (x y : Spoken) (xs ys : List Spoken) → x ∷ xs ≡ y ∷ ys → xs ≡ ys
rest_same x y xs ys e = cc

same_faults : (ss ts : List Sentence) → map spoken ss ≡ map spoken ts → faults_in ss ≡ faults_in ts
same_faults [] [] e = refl
same_faults [] (t ∷ ts) e = absurd cc
same_faults (s ∷ ss) [] e = absurd cc
same_faults (s ∷ ss) (t ∷ ts) e =
    let one = same_fault s t (first_same (spoken s) (spoken t) (map spoken ss) (map spoken ts) e) in
    let others = same_faults ss ts (rest_same (spoken s) (spoken t) (map spoken ss) (map spoken ts) e) in
    ap (λ (f : Option SourceFault). with_fault f (faults_in ss)) one ∙ ap (with_fault t.fault) others

one_if : (b : Bool) (text : List ℕ) (fs gs : List SourceFault) → AreFaultsIf b text fs → AreFaultsIf b text gs → fs ≡ gs
one_if true text fs gs p q = p ∙ sym q
one_if false text fs gs p q = p.2 ∙ same_faults p.0 q.0 (p.1 ∙ sym q.1) ∙ sym q.2

pub one_answer : (text : List ℕ) (fs gs : List SourceFault) → AreFaults text fs → AreFaults text gs → fs ≡ gs
one_answer text fs gs p q = one_if (is_too_long text) text fs gs p q

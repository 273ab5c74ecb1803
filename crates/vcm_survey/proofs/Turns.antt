-- Turns of the loops over lines, rows and statements.
use Rattle.std.proofs.Common.{◌≡◌, ℕ, ◌+◌, ◌<◌, ◌≤◌, Bool, true, List, [], ◌∷◌, ◌++◌, length, get_or, drop, map, refl, sym, ap, ◌∙◌, append_assoc, arith}
use Rattle.std.proofs.lemmas.List.{drop_more, drop_all, append-nil, nil_from_length}
use Rattle.vcm_adapt.specs.declared.edit.Edit.{Edit}
use Rattle.vcm_lines.specs.declared.fault.SourceFault.{SourceFault}
use Rattle.vcm_sentences.specs.declared.sentences.Owner.{Owner}
use Rattle.vcm_sentences.specs.declared.sentences.Sentence.{Sentence}
use Rattle.vcm_classes.specs.declared.judging.Row.{Row}
use Rattle.vcm_survey.specs.Edits.{line_edits, row_edits}
use Rattle.vcm_survey.specs.Faults.{with_fault, faults_in}

-- behind i lines: what is written, and what becomes of the other lines, is what becomes of all
pub record AreEdited (owners : List Owner) (edits : List Edit) (i : ℕ) (out : List Edit) (left : List Edit) (kept : Bool) : Type 0 where
  pub whole : out ++ line_edits (drop i owners) left kept ≡ line_edits owners edits true

-- the next line
pub next_owner : (os : List Owner) (i : ℕ) (o : Owner) → i < length os → o ≡ get_or os i o → drop i os ≡ o ∷ drop (i + 1) os
next_owner os i o lt is = drop_more os i o lt ∙ ap (λ (s : Owner). s ∷ drop (i + 1) os) (sym is)

pub more_edited : (owners : List Owner) (edits : List Edit) (i : ℕ) (o : Owner) (out left after : List Edit) (kept stays : Bool) (e : Edit) → drop i owners ≡ o ∷ drop (i + 1) owners
    → ((os : List Owner) → line_edits (o ∷ os) left kept ≡ e ∷ line_edits os after stays)
    → AreEdited owners edits i out left kept → AreEdited owners edits (i + 1) (out ++ (e ∷ [])) after stays
more_edited owners edits i o out left after kept stays e d n h = record {
  whole = append_assoc out (e ∷ []) (line_edits (drop (i + 1) owners) after stays) ∙ rw (d, n (drop (i + 1) owners)) at h.whole;
}

pub all_edited : (owners : List Owner) (edits : List Edit) (i : ℕ) (out left : List Edit) (kept : Bool) → length owners ≤ i
    → AreEdited owners edits i out left kept → out ≡ line_edits owners edits true
all_edited owners edits i out left kept e h = sym (append-nil out) ∙ rw (drop_all i owners e) at h.whole

-- the next statement
pub next_sentence : (ss : List Sentence) (i : ℕ) (s : Sentence) → i < length ss → s ≡ get_or ss i s → drop i ss ≡ s ∷ drop (i + 1) ss
next_sentence ss i s lt is = drop_more ss i s lt ∙ ap (λ (t : Sentence). t ∷ drop (i + 1) ss) (sym is)

-- behind i statements: the faults so far, and those of the others, are all
pub record AreFaults (ss : List Sentence) (i : ℕ) (out : List SourceFault) : Type 0 where
  pub whole : out ++ faults_in (drop i ss) ≡ faults_in ss

pub more_faults : (ss : List Sentence) (i : ℕ) (s : Sentence) (out more : List SourceFault) → drop i ss ≡ s ∷ drop (i + 1) ss
    → ((fs : List SourceFault) → more ++ fs ≡ out ++ with_fault s.fault fs)
    → AreFaults ss i out → AreFaults ss (i + 1) more
more_faults ss i s out more d n h = record { whole = n (faults_in (drop (i + 1) ss)) ∙ rw d at h.whole }

pub all_faults : (ss : List Sentence) (i : ℕ) (out : List SourceFault) → length ss ≤ i → AreFaults ss i out → out ≡ faults_in ss
all_faults ss i out e h = sym (append-nil out) ∙ rw (drop_all i ss e) at h.whole

-- the rows so far
pub row_more : (rows : List Row) (r : Row) → row_edits (rows ++ (r ∷ [])) ≡ row_edits rows ++ (r.edit ∷ [])
row_more [] r = refl
row_more (s ∷ rows) r = ap (λ (es : List Edit). s.edit ∷ es) (row_more rows r)

pub record AreTaken (all : List Row) (taken left : List Row) (n : ℕ) (out : List Edit) : Type 0 where
  pub whole : taken ++ left ≡ all
  pub size : n ≡ length left
  pub edits : out ≡ row_edits taken

pub more_taken : (all taken left after : List Row) (r : Row) (n m : ℕ) (out : List Edit) → left ≡ r ∷ after → m + 1 ≡ n → AreTaken all taken left n out
    → AreTaken all (taken ++ (r ∷ [])) after m (out ++ (r.edit ∷ []))
more_taken all taken left after r n m out l e h = record {
  whole = append_assoc taken (r ∷ []) after ∙ rw l at h.whole;
  size =
      let was = h.size in
      let short = ap length l in
      omega arith;
  edits = ap (λ (es : List Edit). es ++ (r.edit ∷ [])) h.edits ∙ sym (row_more taken r);
}

pub all_taken : (all taken left : List Row) (n : ℕ) (out : List Edit) → n ≡ 0 → AreTaken all taken left n out → out ≡ row_edits all
all_taken all taken left n out z h =
    let none = nil_from_length left (sym h.size ∙ z) in
    h.edits ∙ ap row_edits (sym (append-nil taken) ∙ rw none at h.whole)

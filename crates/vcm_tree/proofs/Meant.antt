-- The counted statements of a text that breaks no rule of names and blocks: how many they are, their labels, the last one, how deep they nest.
use Rattle.std.proofs.Common.{◌≡◌, ℕ, ◌+◌, ◌≤◌, Bool, true, false, List, [], ◌∷◌, ◌++◌, length, Result, Ok, Err, refl, sym, ap, ◌∙◌, append_assoc, arith, subst}
use Rattle.std.specs.List.{filter}
use Rattle.vcm_macro.specs.Rules.{one_if}
use Rattle.std.proofs.lemmas.List.{append-nil}
use Rattle.vcm_lines.specs.declared.fault.FaultCode.{FaultCode}
use Rattle.vcm_spec.specs.Program.{Label, is_same_label}
use Rattle.vcm_forms.specs.declared.statement.Form.{Form}
use Rattle.vcm_macro.specs.declared.placed.Placed.{Placed}
use Rattle.vcm_forms.specs.Statements.{is_counted}
use Rattle.vcm_tree.specs.Ended.{is_ended}
use Rattle.vcm_tree.specs.Sentences.{Step, Sentence, Marks, Divides, EndsTest, EndsRepeat, EndsMeasure, BeginsDefault, EndsCase, EndsSelect}
use Rattle.vcm_tree.specs.Blocks.{Behind, Opened, InFirst, InSecond, InBody, InMeasure, InSelect, InCase, depth}
use Rattle.vcm_tree.specs.Resolving.{Meaning, Silent, Declares, Counts, resolved_here, labels_after, behind_by, behind_one, behind_all, sentences_by, sentences_from, blocks_after}
use Rattle.vcm_tree.proofs.Stated.{IsStated, meant, ending_meant, Says}
use Rattle.vcm_tree.proofs.Walking.{AllMean}
use Rattle.vcm_tree.proofs.Written.{step_labels, sentence_labels, labels_append, ends_last, depth_after, SentencesNest}
use Rattle.std.specs.Prelude.{not, ◌||◌}
use Rattle.vcm_nodes.specs.Jumps.{is_among}
use Rattle.vcm_program.specs.Program.{AreDistinct}
use Rattle.vcm_nodes.specs.inner.SameLabels.{label_sym}
use Rattle.vcm_nodes.proofs.Jumping.{from_not}
use Rattle.vcm_tree.proofs.GrownBlocks.{fits}

-- ---- labels

pub labels_step : (ls : List Label) (s : Step) → labels_after ls s ≡ ls ++ step_labels s
labels_step ls (Marks l) = refl
labels_step ls _ = sym (append-nil ls)

labels_by : (b : Behind) (form : Form) (line : ℕ) (r : Result Meaning FaultCode) → (behind_by b form r).labels ≡ b.labels ++ sentence_labels (sentences_by line r)
labels_by b form line (Ok Silent) = sym (append-nil b.labels)
labels_by b form line (Ok (Declares ws)) = sym (append-nil b.labels)
labels_by b form line (Ok (Counts s)) = labels_step b.labels s ∙ ap (λ l. b.labels ++ l) (sym (append-nil (step_labels s)))
labels_by b form line (Err e) = sym (append-nil b.labels)

pub labels_all : (b : Behind) (ss : List Placed) → (behind_all b ss).labels ≡ b.labels ++ sentence_labels (sentences_from b ss)
labels_all b [] = sym (append-nil b.labels)
labels_all b (s ∷ ss) =
    labels_all (behind_one b s) ss
    ∙ ap (λ l. l ++ sentence_labels (sentences_from (behind_one b s) ss)) (labels_by b s.statement.form s.statement.line (resolved_here b s))
    ∙ append_assoc b.labels (sentence_labels (sentences_by s.statement.line (resolved_here b s))) (sentence_labels (sentences_from (behind_one b s) ss))
    ∙ ap (λ l. b.labels ++ l) (sym (labels_append (sentences_by s.statement.line (resolved_here b s)) (sentences_from (behind_one b s) ss)))

-- ---- how many

abbrev counted : List Placed → List Placed
counted ss = filter (λ s. is_counted s.statement.form) ss

one_more : (b : Behind) (ex line : ℕ) (form : Form) (m : Meaning) → IsStated b ex form m → length (sentences_by line (Ok m)) ≡ one_if (is_counted form)
one_more b ex line form Silent t = ap one_if (sym t.counted)
one_more b ex line form (Declares ws) t = ap one_if (sym t.counted)
one_more b ex line form (Counts s) t = ap one_if (sym t.counted)

append_length : {X : Type 0} (xs ys : List X) → length (xs ++ ys) ≡ length xs + length ys
append_length [] ys = omega arith
append_length (x ∷ xs) ys = (let h = append_length xs ys in omega (arith, h))

counted_more : (s : Placed) (ss : List Placed) → length (counted (s ∷ ss)) ≡ one_if (is_counted s.statement.form) + length (counted ss)
counted_more s ss = by (is_counted s.statement.form) refl
  where
    by : (b : Bool) → is_counted s.statement.form ≡ b → length (counted (s ∷ ss)) ≡ one_if b + length (counted ss)
    by true e = rw e (omega arith)
    by false e = rw e (omega arith)

pub counted_all : (b : Behind) (ss : List Placed) → AllMean b ss → length (sentences_from b ss) ≡ length (counted ss)
counted_all b [] h = refl
counted_all b (s ∷ ss) h =
    let x = append_length (sentences_by s.statement.line (resolved_here b s)) (sentences_from (behind_one b s) ss) in
    let y = ap (λ r. length (sentences_by s.statement.line r)) h.0.1 ∙ one_more b s.expansion s.statement.line s.statement.form h.0.0 (meant b s h.0.0 h.0.1) in
    let z = counted_all (behind_one b s) ss h.1 in
    let w = counted_more s ss in
    omega (arith, x, y, z, w)

few_by : (line : ℕ) (r : Result Meaning FaultCode) → length (sentences_by line r) ≤ 1
few_by line (Ok Silent) = omega arith
few_by line (Ok (Declares ws)) = omega arith
few_by line (Ok (Counts s)) = omega arith
few_by line (Err e) = omega arith

pub few_sentences : (b : Behind) (ss : List Placed) → length (sentences_from b ss) ≤ length ss
few_sentences b [] = omega arith
few_sentences b (s ∷ ss) =
    let x = append_length (sentences_by s.statement.line (resolved_here b s)) (sentences_from (behind_one b s) ss) in
    let y = few_by s.statement.line (resolved_here b s) in
    let z = few_sentences (behind_one b s) ss in
    omega (arith, x, y, z)

-- ---- the last one

last_behind : (ps qs : List Sentence) → ends_last qs ≡ true → ends_last (ps ++ qs) ≡ true
last_behind [] qs e = e
last_behind (p ∷ []) [] e = absurd cc
last_behind (p ∷ []) (q ∷ qs) e = e
last_behind (p ∷ r ∷ ps) qs e = last_behind (r ∷ ps) qs e

pub last_ends : (b : Behind) (ss : List Placed) → is_ended ss ≡ true → AllMean b ss → ends_last (sentences_from b ss) ≡ true
last_ends b [] e h = absurd cc
last_ends b (s ∷ []) e h = ap (λ r. ends_last (sentences_by s.statement.line r ++ [])) (ending_meant b s h.0.0 e h.0.1).0
last_ends b (s ∷ t ∷ ss) e h = last_behind (sentences_by s.statement.line (resolved_here b s)) (sentences_from (behind_one b s) (t ∷ ss)) (last_ends (behind_one b s) (t ∷ ss) e h.1)

-- ---- no label stands twice

or_left : (b c : Bool) → (b || c) ≡ false → b ≡ false
or_left true c e = e
or_left false c e = refl

or_right : (b c : Bool) → (b || c) ≡ false → c ≡ false
or_right true c e = absurd cc
or_right false c e = e

or_both : (b c : Bool) → b ≡ false → c ≡ false → (b || c) ≡ false
or_both true c e f = e
or_both false c e f = f

among_push : (ls : List Label) (k l : Label) → is_among ls k ≡ false → is_same_label k l ≡ false → is_among (ls ++ l ∷ []) k ≡ false
among_push [] k l e f = or_both (is_same_label k l) false f refl
among_push (m ∷ ls) k l e f = or_both (is_same_label k m) (is_among (ls ++ l ∷ []) k) (or_left (is_same_label k m) (is_among ls k) e)
    (among_push ls k l (or_right (is_same_label k m) (is_among ls k) e) f)

distinct_push : (ls : List Label) (l : Label) → AreDistinct ls → is_among ls l ≡ false → AreDistinct (ls ++ l ∷ [])
distinct_push [] l h e = (refl, tt)
distinct_push (k ∷ ls) l h e = (
  ap not (among_push ls k l (from_not (is_among ls k) h.0) (label_sym k l ∙ or_left (is_same_label l k) (is_among ls l) e)),
  distinct_push ls l h.1 (or_right (is_same_label l k) (is_among ls l) e),
)

distinct_step : (b : Behind) (form : Form) (s : Step) → Says b form s → AreDistinct b.labels → AreDistinct (labels_after b.labels s)
distinct_step b form (Marks l) f d = distinct_push b.labels l d f
distinct_step b form _ f d = d

distinct_by : (b : Behind) (ex : ℕ) (form : Form) (m : Meaning) → IsStated b ex form m → AreDistinct b.labels → AreDistinct (behind_by b form (Ok m)).labels
distinct_by b ex form Silent t d = d
distinct_by b ex form (Declares ws) t d = d
distinct_by b ex form (Counts s) t d = distinct_step b form s t.step.says d

pub distinct_all : (b : Behind) (ss : List Placed) → AllMean b ss → AreDistinct b.labels → AreDistinct (behind_all b ss).labels
distinct_all b [] h d = d
distinct_all b (s ∷ ss) h d =
    distinct_all (behind_one b s) ss h.1
    (subst (λ r. AreDistinct (behind_by b s.statement.form r).labels) (sym h.0.1) (distinct_by b s.expansion s.statement.form h.0.0 (meant b s h.0.0 h.0.1) d))

-- ---- how deep they nest

depth_step : (bs : List Opened) (s : Step) → fits bs s ≡ true → depth (blocks_after bs s) ≡ depth_after (depth bs) s
depth_step (InFirst ∷ bs) Divides f = refl
depth_step _ Divides f = absurd cc
depth_step (InFirst ∷ bs) EndsTest f = refl
depth_step (InSecond ∷ bs) EndsTest f = refl
depth_step _ EndsTest f = absurd cc
depth_step (InBody ∷ bs) EndsRepeat f = refl
depth_step _ EndsRepeat f = absurd cc
depth_step (InMeasure i ∷ bs) EndsMeasure f = refl
depth_step _ EndsMeasure f = absurd cc
depth_step (InSelect t ∷ bs) BeginsDefault f = refl
depth_step _ BeginsDefault f = absurd cc
depth_step (InCase ∷ bs) EndsCase f = refl
depth_step _ EndsCase f = absurd cc
depth_step (InSelect t ∷ bs) EndsSelect f = refl
depth_step _ EndsSelect f = absurd cc
depth_step bs _ f = refl

nest_by : (b : Behind) (ex line : ℕ) (form : Form) (rest : List Sentence) (m : Meaning) → IsStated b ex form m → SentencesNest (depth (behind_by b form (Ok m)).blocks) rest
    → SentencesNest (depth b.blocks) (sentences_by line (Ok m) ++ rest)
nest_by b ex line form rest Silent t h = h
nest_by b ex line form rest (Declares ws) t h = h
nest_by b ex line form rest (Counts s) t h = (t.step.small, subst (λ (d : ℕ). SentencesNest d rest) (depth_step b.blocks s t.step.fits) h)

pub nest_all : (b : Behind) (ss : List Placed) → AllMean b ss → SentencesNest (depth b.blocks) (sentences_from b ss)
nest_all b [] h = tt
nest_all b (s ∷ ss) h =
    let rest = sentences_from (behind_one b s) ss in
    subst (λ r. SentencesNest (depth b.blocks) (sentences_by s.statement.line r ++ rest)) (sym h.0.1)
    (nest_by b s.expansion s.statement.line s.statement.form rest h.0.0 (meant b s h.0.0 h.0.1)
    (subst (λ r. SentencesNest (depth (behind_by b s.statement.form r).blocks) rest) h.0.1 (nest_all (behind_one b s) ss h.1)))

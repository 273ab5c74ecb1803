-- A program and its statements in writing: what holds of these holds of it.
use Rattle.std.proofs.Common.{◌≡◌, ℕ, zero, suc, ◌+◌, ◌<◌, Bool, true, false, List, [], ◌∷◌, ◌++◌, length, refl, sym, ap, ◌∙◌, subst, append_assoc, arith}
use Rattle.std.proofs.lemmas.List.{append-nil, length-append}
use Rattle.vcm_num.specs.declared.number.Kind.TheVariants as kinds
use Rattle.vcm_spec.specs.Setup.{Tables}
use Rattle.vcm_spec.specs.Program.{Label, Node, Block, Cases, simple, label, jump, choice, choice_else, do_loop, meas, select, ending, done, then, no_more, one_case, default, size, sizes, case_sizes}
use Rattle.vcm_spec.specs.Fitting.{Fits, HasKindIn, kinds as kinds_in, NodeFits, BlockFits, CasesFit}
use Rattle.std.specs.Prelude.{slice_get, Some}
use Rattle.vcm_tree.specs.Sentences.{Step, Sentence, sentence, Does, Marks, Tests, Divides, EndsTest, Repeats, EndsRepeat, Measures, EndsMeasure, Selects}
use Rattle.vcm_tree.specs.Sentences.{BeginsCase, BeginsDefault, EndsCase, EndsSelect, Ends, node_sentences, sentences, case_sentences}
use Rattle.vcm_nodes.specs.Jumps.{node_labels, labels_of, labels_among}
use Rattle.vcm_spec.specs.Whole.{is_end, is_closed}
use Rattle.vcm_program.specs.Program.{NodeNests, BlockNests, CasesNest}

-- ---- how many

two_more : (ps : List Sentence) (p : Sentence) (n : ℕ) → length ps ≡ n → length (ps ++ p ∷ []) ≡ n + 1
two_more ps p n e = (let h = length-append ps (p ∷ []) in omega (arith, h, e))

mutual
  node_length : (n : Node) → length (node_sentences n) ≡ size n
  node_length (simple line what) = refl
  node_length (label line l) = refl
  node_length (jump line l) = refl
  node_length (choice line test first close) = (let a = two_more (sentences first) (sentence close EndsTest) (sizes first) (sentences_length first) in omega (arith, a))
  node_length (choice_else line test first mid second close) =
      let a = sentences_length first in
      let b = two_more (sentences second) (sentence close EndsTest) (sizes second) (sentences_length second) in
      let c = length-append (sentences first) (sentence mid Divides ∷ (sentences second ++ sentence close EndsTest ∷ [])) in
      omega (arith, a, b, c)
  node_length (do_loop line v x y z body close) = (let a = two_more (sentences body) (sentence close EndsRepeat) (sizes body) (sentences_length body) in omega (arith, a))
  node_length (meas line f body close) = (let a = two_more (sentences body) (sentence close EndsMeasure) (sizes body) (sentences_length body) in omega (arith, a))
  node_length (select line v cases close) = (let a = two_more (case_sentences cases) (sentence close EndsSelect) (case_sizes cases) (cases_length cases) in omega (arith, a))
  node_length (ending line) = refl

  pub sentences_length : (b : Block) → length (sentences b) ≡ sizes b
  sentences_length done = refl
  sentences_length (then n b) = (let h = length-append (node_sentences n) (sentences b) in let m = node_length n in let k = sentences_length b in omega (arith, h, m, k))

  cases_length : (cs : Cases) → length (case_sentences cs) ≡ case_sizes cs
  cases_length no_more = refl
  cases_length (one_case line v b close rest) =
      let h = length-append (sentences b) (sentence close EndsCase ∷ case_sentences rest) in
      let m = sentences_length b in
      let k = cases_length rest in
      omega (arith, h, m, k)
  cases_length (default line b close) = (let a = two_more (sentences b) (sentence close EndsCase) (sizes b) (sentences_length b) in omega (arith, a))

-- ---- labels

abbrev pub step_labels : Step → List Label
step_labels (Marks l) = l ∷ []
step_labels _ = []

abbrev pub sentence_labels : List Sentence → List Label
sentence_labels [] = []
sentence_labels (p ∷ ps) = step_labels p.step ++ sentence_labels ps

pub labels_append : (ps qs : List Sentence) → sentence_labels (ps ++ qs) ≡ sentence_labels ps ++ sentence_labels qs
labels_append [] qs = refl
labels_append (p ∷ ps) qs = ap (λ l. step_labels p.step ++ l) (labels_append ps qs) ∙ sym (append_assoc (step_labels p.step) (sentence_labels ps) (sentence_labels qs))

closed_labels : (ps : List Sentence) (p : Sentence) (ls : List Label) → step_labels p.step ≡ [] → sentence_labels ps ≡ ls → sentence_labels (ps ++ p ∷ []) ≡ ls
closed_labels ps p ls none e = labels_append ps (p ∷ []) ∙ ap (λ l. sentence_labels ps ++ (l ++ [])) none ∙ append-nil (sentence_labels ps) ∙ e

mutual
  node_marks : (n : Node) → sentence_labels (node_sentences n) ≡ node_labels n
  node_marks (simple line what) = refl
  node_marks (label line l) = refl
  node_marks (jump line l) = refl
  node_marks (choice line test first close) = closed_labels (sentences first) (sentence close EndsTest) (labels_of first) refl (sentences_marks first)
  node_marks (choice_else line test first mid second close) =
      labels_append (sentences first) (sentence mid Divides ∷ (sentences second ++ sentence close EndsTest ∷ []))
      ∙ ap (λ l. l ++ sentence_labels (sentences second ++ sentence close EndsTest ∷ [])) (sentences_marks first)
      ∙ ap (λ l. labels_of first ++ l) (closed_labels (sentences second) (sentence close EndsTest) (labels_of second) refl (sentences_marks second))
  node_marks (do_loop line v x y z body close) = closed_labels (sentences body) (sentence close EndsRepeat) (labels_of body) refl (sentences_marks body)
  node_marks (meas line f body close) = closed_labels (sentences body) (sentence close EndsMeasure) (labels_of body) refl (sentences_marks body)
  node_marks (select line v cases close) = closed_labels (case_sentences cases) (sentence close EndsSelect) (labels_among cases) refl (cases_marks cases)
  node_marks (ending line) = refl

  pub sentences_marks : (b : Block) → sentence_labels (sentences b) ≡ labels_of b
  sentences_marks done = refl
  sentences_marks (then n b) = labels_append (node_sentences n) (sentences b) ∙ ap (λ l. l ++ sentence_labels (sentences b)) (node_marks n) ∙ ap (λ l. node_labels n ++ l) (sentences_marks b)

  cases_marks : (cs : Cases) → sentence_labels (case_sentences cs) ≡ labels_among cs
  cases_marks no_more = refl
  cases_marks (one_case line v b close rest) =
      labels_append (sentences b) (sentence close EndsCase ∷ case_sentences rest)
      ∙ ap (λ l. l ++ sentence_labels (case_sentences rest)) (sentences_marks b) ∙ ap (λ l. labels_of b ++ l) (cases_marks rest)
  cases_marks (default line b close) = closed_labels (sentences b) (sentence close EndsCase) (labels_of b) refl (sentences_marks b)

-- ---- nesting

-- how many blocks are open behind a statement
abbrev pub less : ℕ → ℕ
less zero = zero
less (suc d) = d

abbrev pub depth_after : ℕ → Step → ℕ
depth_after d (Tests t) = suc d
depth_after d Divides = suc (less d)
depth_after d EndsTest = less d
depth_after d (Repeats v a b c) = suc d
depth_after d EndsRepeat = less d
depth_after d (Measures f) = suc d
depth_after d EndsMeasure = less d
depth_after d (BeginsCase v) = suc d
depth_after d BeginsDefault = suc d
depth_after d EndsCase = less d
depth_after d _ = d

-- whether a statement opens a block
abbrev pub opens : Step → Bool
opens (Tests t) = true
opens (Repeats v a b c) = true
opens (Measures f) = true
opens (BeginsCase v) = true
opens BeginsDefault = true
opens _ = false

-- with so many blocks open, no statement opens a 33rd one
abbrev pub SentencesNest : ℕ → List Sentence → Type 0
SentencesNest d [] = Unit {0}
SentencesNest d (p ∷ ps) = (opens p.step ≡ true → d < 32) × SentencesNest (depth_after d p.step) ps

one_deeper : (d : ℕ) (b : Block) → BlockNests (suc d) b → BlockNests (d + 1) b
one_deeper d b h = (let e : suc d ≡ d + 1 = omega arith in subst (λ (k : ℕ). BlockNests k b) e h)

mutual
  node_nests : (n : Node) (d : ℕ) (rest : List Sentence) → SentencesNest d (node_sentences n ++ rest) → NodeNests d n × SentencesNest d rest
  node_nests (simple line what) d rest h = (tt, h.1)
  node_nests (label line l) d rest h = (tt, h.1)
  node_nests (jump line l) d rest h = (tt, h.1)
  node_nests (choice line test first close) d rest h =
      let q = sentences_nests first (suc d) (sentence close EndsTest ∷ rest) (subst (SentencesNest (suc d)) (append_assoc (sentences first) (sentence close EndsTest ∷ []) rest) h.1) in
      ((h.0 refl, one_deeper d first q.0), q.1.1)
  node_nests (choice_else line test first mid second close) d rest h =
      let q = sentences_nests first (suc d) (sentence mid Divides ∷ ((sentences second ++ sentence close EndsTest ∷ []) ++ rest))
      (subst (SentencesNest (suc d)) (append_assoc (sentences first) (sentence mid Divides ∷ (sentences second ++ sentence close EndsTest ∷ [])) rest) h.1) in
      let r = sentences_nests second (suc d) (sentence close EndsTest ∷ rest) (subst (SentencesNest (suc d)) (append_assoc (sentences second) (sentence close EndsTest ∷ []) rest) q.1.1) in
      ((h.0 refl, one_deeper d first q.0, one_deeper d second r.0), r.1.1)
  node_nests (do_loop line v x y z body close) d rest h =
      let q = sentences_nests body (suc d) (sentence close EndsRepeat ∷ rest) (subst (SentencesNest (suc d)) (append_assoc (sentences body) (sentence close EndsRepeat ∷ []) rest) h.1) in
      ((h.0 refl, one_deeper d body q.0), q.1.1)
  node_nests (meas line f body close) d rest h =
      let q = sentences_nests body (suc d) (sentence close EndsMeasure ∷ rest) (subst (SentencesNest (suc d)) (append_assoc (sentences body) (sentence close EndsMeasure ∷ []) rest) h.1) in
      ((h.0 refl, one_deeper d body q.0), q.1.1)
  node_nests (select line v cases close) d rest h =
      let q = cases_nest cases d (sentence close EndsSelect ∷ rest) (subst (SentencesNest d) (append_assoc (case_sentences cases) (sentence close EndsSelect ∷ []) rest) h.1) in
      (q.0, q.1.1)
  node_nests (ending line) d rest h = (tt, h.1)

  pub sentences_nests : (b : Block) (d : ℕ) (rest : List Sentence) → SentencesNest d (sentences b ++ rest) → BlockNests d b × SentencesNest d rest
  sentences_nests done d rest h = (tt, h)
  sentences_nests (then n b) d rest h =
      let q = node_nests n d (sentences b ++ rest) (subst (SentencesNest d) (append_assoc (node_sentences n) (sentences b) rest) h) in
      let r = sentences_nests b d rest q.1 in
      ((q.0, r.0), r.1)

  cases_nest : (cs : Cases) (d : ℕ) (rest : List Sentence) → SentencesNest d (case_sentences cs ++ rest) → CasesNest d cs × SentencesNest d rest
  cases_nest no_more d rest h = (tt, h)
  cases_nest (one_case line v b close more) d rest h =
      let q = sentences_nests b (suc d) (sentence close EndsCase ∷ (case_sentences more ++ rest))
      (subst (SentencesNest (suc d)) (append_assoc (sentences b) (sentence close EndsCase ∷ case_sentences more) rest) h.1) in
      let r = cases_nest more d rest q.1.1 in
      ((h.0 refl, one_deeper d b q.0, r.0), r.1)
  cases_nest (default line b close) d rest h =
      let q = sentences_nests b (suc d) (sentence close EndsCase ∷ rest) (subst (SentencesNest (suc d)) (append_assoc (sentences b) (sentence close EndsCase ∷ []) rest) h.1) in
      ((h.0 refl, one_deeper d b q.0), q.1.1)

-- ---- the last statement

abbrev pub is_end_step : Step → Bool
is_end_step Ends = true
is_end_step _ = false

abbrev pub ends_last : List Sentence → Bool
ends_last [] = false
ends_last (p ∷ []) = is_end_step p.step
ends_last (p ∷ q ∷ ps) = ends_last (q ∷ ps)

last_of_two : (ps : List Sentence) (q : Sentence) (qs : List Sentence) → ends_last (ps ++ q ∷ qs) ≡ ends_last (q ∷ qs)
last_of_two [] q qs = refl
last_of_two (p ∷ []) q qs = refl
last_of_two (p ∷ r ∷ ps) q qs = last_of_two (r ∷ ps) q qs

-- behind an opener the last one is the closer
last_closer : (o : Sentence) (ps : List Sentence) (p : Sentence) → ends_last (o ∷ (ps ++ p ∷ [])) ≡ is_end_step p.step
last_closer o [] p = refl
last_closer o (q ∷ ps) p = last_closer q ps p

node_last : (n : Node) → ends_last (node_sentences n) ≡ is_end n
node_last (simple line what) = refl
node_last (label line l) = refl
node_last (jump line l) = refl
node_last (choice line test first close) = last_closer (sentence line (Tests test)) (sentences first) (sentence close EndsTest)
node_last (choice_else line test first mid second close) =
    ap ends_last (sym (append_assoc (sentence line (Tests test) ∷ sentences first) (sentence mid Divides ∷ sentences second) (sentence close EndsTest ∷ [])))
    ∙ last_closer (sentence line (Tests test)) (sentences first ++ sentence mid Divides ∷ sentences second) (sentence close EndsTest)
node_last (do_loop line v x y z body close) = last_closer (sentence line (Repeats v x y z)) (sentences body) (sentence close EndsRepeat)
node_last (meas line f body close) = last_closer (sentence line (Measures f)) (sentences body) (sentence close EndsMeasure)
node_last (select line v cases close) = last_closer (sentence line (Selects v)) (case_sentences cases) (sentence close EndsSelect)
node_last (ending line) = refl

-- a node is some statement
node_first : (n : Node) → (p : Sentence) × (ps : List Sentence) × (node_sentences n ≡ p ∷ ps)
node_first (simple line what) = (_, _, refl)
node_first (label line l) = (_, _, refl)
node_first (jump line l) = (_, _, refl)
node_first (choice line test first close) = (_, _, refl)
node_first (choice_else line test first mid second close) = (_, _, refl)
node_first (do_loop line v x y z body close) = (_, _, refl)
node_first (meas line f body close) = (_, _, refl)
node_first (select line v cases close) = (_, _, refl)
node_first (ending line) = (_, _, refl)

-- a block is closed where its last statement is ENDFIL
pub closed_last : (b : Block) → ends_last (sentences b) ≡ is_closed b
closed_last done = refl
closed_last (then n done) = ap ends_last (append-nil (node_sentences n)) ∙ node_last n
closed_last (then n (then m b)) =
    let f = node_first m in
    let e : sentences (then m b) ≡ f.0 ∷ (f.1 ++ sentences b) = ap (λ l. l ++ sentences b) f.2 in
    ap (λ l. ends_last (node_sentences n ++ l)) e ∙ last_of_two (node_sentences n) f.0 (f.1 ++ sentences b) ∙ ap ends_last (sym e) ∙ closed_last (then m b)

-- ---- names

-- a statement fits the tables of names
abbrev pub StepFits : Tables → Step → Type 0
StepFits ts (Does what) = Fits (HasKindIn ts) ts what
StepFits ts (Tests t) = HasKindIn ts t kinds.Bool
StepFits ts (Repeats v a b c) = (slice_get (kinds_in ts) v ≡ Some kinds.Int) × HasKindIn ts a kinds.Int × HasKindIn ts b kinds.Int × HasKindIn ts c kinds.Int
StepFits ts (Measures f) = f < length ts.features
StepFits ts (Selects v) = HasKindIn ts v kinds.Int
StepFits ts _ = Unit {0}

abbrev pub SentencesFit : Tables → List Sentence → Type 0
SentencesFit ts [] = Unit {0}
SentencesFit ts (p ∷ ps) = StepFits ts p.step × SentencesFit ts ps

split_fit : (ts : Tables) (ps qs : List Sentence) → SentencesFit ts (ps ++ qs) → SentencesFit ts ps × SentencesFit ts qs
split_fit ts [] qs h = (tt, h)
split_fit ts (p ∷ ps) qs h = (let r = split_fit ts ps qs h.1 in ((h.0, r.0), r.1))

mutual
  node_fits : (ts : Tables) (n : Node) → SentencesFit ts (node_sentences n) → NodeFits ts n
  node_fits ts (simple line what) h = h.0
  node_fits ts (label line l) h = tt
  node_fits ts (jump line l) h = tt
  node_fits ts (choice line test first close) h = (h.0, sentences_fit ts first (split_fit ts (sentences first) (sentence close EndsTest ∷ []) h.1).0)
  node_fits ts (choice_else line test first mid second close) h =
      let q = split_fit ts (sentences first) (sentence mid Divides ∷ (sentences second ++ sentence close EndsTest ∷ [])) h.1 in
      (h.0, sentences_fit ts first q.0, sentences_fit ts second (split_fit ts (sentences second) (sentence close EndsTest ∷ []) q.1.1).0)
  node_fits ts (do_loop line v x y z body close) h =
      (h.0.0, h.0.1, h.0.2, h.0.3, sentences_fit ts body (split_fit ts (sentences body) (sentence close EndsRepeat ∷ []) h.1).0)
  node_fits ts (meas line f body close) h = (h.0, sentences_fit ts body (split_fit ts (sentences body) (sentence close EndsMeasure ∷ []) h.1).0)
  node_fits ts (select line v cases close) h = (h.0, cases_fit ts cases (split_fit ts (case_sentences cases) (sentence close EndsSelect ∷ []) h.1).0)
  node_fits ts (ending line) h = tt

  pub sentences_fit : (ts : Tables) (b : Block) → SentencesFit ts (sentences b) → BlockFits ts b
  sentences_fit ts done h = tt
  sentences_fit ts (then n b) h = (let q = split_fit ts (node_sentences n) (sentences b) h in (node_fits ts n q.0, sentences_fit ts b q.1))

  cases_fit : (ts : Tables) (cs : Cases) → SentencesFit ts (case_sentences cs) → CasesFit ts cs
  cases_fit ts no_more h = tt
  cases_fit ts (one_case line v b close rest) h =
      let q = split_fit ts (sentences b) (sentence close EndsCase ∷ case_sentences rest) h.1 in (sentences_fit ts b q.0, cases_fit ts rest q.1.1)
  cases_fit ts (default line b close) h = sentences_fit ts b (split_fit ts (sentences b) (sentence close EndsCase ∷ []) h.1).0

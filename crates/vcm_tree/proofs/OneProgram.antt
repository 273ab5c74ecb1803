-- Statements in writing are one program: read one by one, those of a program give it back.
use Rattle.std.proofs.Common.{◌≡◌, ℕ, List, [], ◌∷◌, ◌++◌, Option, Some, None, refl, sym, ap, ◌∙◌, append_assoc}
use Rattle.std.specs.Prelude.{ℤ}
use Rattle.std.proofs.lemmas.List.{append-nil}
use Rattle.vcm_spec.specs.Expression.{Tree}
use Rattle.vcm_spec.specs.Program.{Node, Block, Cases, simple, label, jump, choice, choice_else, do_loop, meas, select, ending, done, then, no_more, one_case, default}
use Rattle.vcm_nodes.specs.Nodes.{with_last, cases_of}
use Rattle.vcm_tree.specs.declared.builder.Head.{Head}
use Rattle.vcm_tree.specs.declared.builder.Head.TheVariants.{First, Second, Body, Measuring, Case}
use Rattle.vcm_tree.specs.declared.builder.Open.{Open}
use Rattle.vcm_tree.specs.declared.selection.Selection.TheVariants.{Plain}
use Rattle.vcm_tree.specs.Sentences.{Sentence, sentence, Divides, EndsTest, EndsRepeat, EndsMeasure, EndsCase, EndsSelect, node_sentences, sentences, case_sentences}
use Rattle.vcm_tree.specs.inner.Closing.{Closed}
use Rattle.vcm_tree.specs.inner.Growing.{Growing, inside, grown}

-- what statements make of it, one by one
abbrev grown_one : Option Growing → Sentence → Option Growing
grown_one None p = None
grown_one (Some g) p = grown g p.line p.step

abbrev grown_from : Option Growing → List Sentence → Option Growing
grown_from o [] = o
grown_from o (p ∷ ps) = grown_from (grown_one o p) ps

abbrev grown_all : Growing → List Sentence → Option Growing
grown_all g ps = grown_from (Some g) ps

abbrev between : List Open → Block → ℕ → Tree → List Closed → Growing
between os b from v cs = record { opens = os; block = b; waits = Some (Plain from v cs) }

abbrev in_block : Head → Block → List Open → Growing
in_block h out os = inside (record { outer = out; head = h } ∷ os) done

-- a block behind another one
abbrev joined : Block → Block → Block
joined done c = c
joined (then n b) c = then n (joined b c)

joined_done : (b : Block) → joined b done ≡ b
joined_done done = refl
joined_done (then n b) = ap (then n) (joined_done b)

joined_last : (b : Block) (n : Node) (c : Block) → joined (with_last b n) c ≡ joined b (then n c)
joined_last done n c = refl
joined_last (then m b) n c = ap (then m) (joined_last b n c)

-- the blocks of a SELECT behind others
abbrev followed : List Closed → Cases → Cases
followed [] rest = rest
followed (c ∷ cs) rest = one_case c.0 c.1 c.2 c.3 (followed cs rest)

followed_none : (cs : List Closed) → followed cs no_more ≡ cases_of cs None
followed_none [] = refl
followed_none (c ∷ cs) = ap (one_case c.0 c.1 c.2 c.3) (followed_none cs)

followed_default : (cs : List Closed) (line : ℕ) (b : Block) (close : ℕ) → followed cs (default line b close) ≡ cases_of cs (Some (line, b, close))
followed_default [] line b close = refl
followed_default (c ∷ cs) line b close = ap (one_case c.0 c.1 c.2 c.3) (followed_default cs line b close)

followed_case : (cs : List Closed) (line : ℕ) (v : ℤ) (b : Block) (close : ℕ) (rest : Cases) → followed (cs ++ (line, v, b, close) ∷ []) rest ≡ followed cs (one_case line v b close rest)
followed_case [] line v b close rest = refl
followed_case (c ∷ cs) line v b close rest = ap (one_case c.0 c.1 c.2 c.3) (followed_case cs line v b close rest)

mutual
  node_back : (n : Node) (os : List Open) (b : Block) (ps : List Sentence) → grown_all (inside os b) (node_sentences n ++ ps) ≡ grown_all (inside os (with_last b n)) ps
  node_back (simple line what) os b ps = refl
  node_back (label line l) os b ps = refl
  node_back (jump line l) os b ps = refl
  node_back (choice line t f close) os b ps =
      ap (grown_all (in_block (First line t) b os)) (append_assoc (sentences f) (sentence close EndsTest ∷ []) ps)
      ∙ block_back f (record { outer = b; head = First line t } ∷ os) done (sentence close EndsTest ∷ ps)
  node_back (choice_else line t f mid g close) os b ps =
      ap (grown_all (in_block (First line t) b os)) (append_assoc (sentences f) (sentence mid Divides ∷ (sentences g ++ sentence close EndsTest ∷ [])) ps)
      ∙ block_back f (record { outer = b; head = First line t } ∷ os) done (sentence mid Divides ∷ ((sentences g ++ sentence close EndsTest ∷ []) ++ ps))
      ∙ ap (grown_all (in_block (Second line t f mid) b os)) (append_assoc (sentences g) (sentence close EndsTest ∷ []) ps)
      ∙ block_back g (record { outer = b; head = Second line t f mid } ∷ os) done (sentence close EndsTest ∷ ps)
  node_back (do_loop line v x y z f close) os b ps =
      ap (grown_all (in_block (Body line v x y z) b os)) (append_assoc (sentences f) (sentence close EndsRepeat ∷ []) ps)
      ∙ block_back f (record { outer = b; head = Body line v x y z } ∷ os) done (sentence close EndsRepeat ∷ ps)
  node_back (meas line i f close) os b ps =
      ap (grown_all (in_block (Measuring line i) b os)) (append_assoc (sentences f) (sentence close EndsMeasure ∷ []) ps)
      ∙ block_back f (record { outer = b; head = Measuring line i } ∷ os) done (sentence close EndsMeasure ∷ ps)
  node_back (select line v cs close) os b ps =
      ap (grown_all (between os b line v [])) (append_assoc (case_sentences cs) (sentence close EndsSelect ∷ []) ps) ∙ cases_back cs os b line v [] close ps
  node_back (ending line) os b ps = refl

  block_back : (c : Block) (os : List Open) (b : Block) (ps : List Sentence) → grown_all (inside os b) (sentences c ++ ps) ≡ grown_all (inside os (joined b c)) ps
  block_back done os b ps = ap (λ x. grown_all (inside os x) ps) (sym (joined_done b))
  block_back (then n c) os b ps =
      ap (grown_all (inside os b)) (append_assoc (node_sentences n) (sentences c) ps) ∙ node_back n os b (sentences c ++ ps) ∙ block_back c os (with_last b n) ps
      ∙ ap (λ x. grown_all (inside os x) ps) (joined_last b n c)

  cases_back : (rest : Cases) (os : List Open) (b : Block) (from : ℕ) (v : Tree) (cs : List Closed) (close : ℕ) (ps : List Sentence)
      → grown_all (between os b from v cs) (case_sentences rest ++ sentence close EndsSelect ∷ ps) ≡ grown_all (inside os (with_last b (select from v (followed cs rest) close))) ps
  cases_back no_more os b from v cs close ps = ap (λ x. grown_all (inside os (with_last b (select from v x close))) ps) (sym (followed_none cs))
  cases_back (one_case line z f end rest) os b from v cs close ps =
      let ends = sentence end EndsCase ∷ case_sentences rest in
      ap (grown_all (in_block (Case from v cs line (Some z)) b os)) (append_assoc (sentences f) ends (sentence close EndsSelect ∷ ps))
      ∙ block_back f (record { outer = b; head = Case from v cs line (Some z) } ∷ os) done (ends ++ sentence close EndsSelect ∷ ps)
      ∙ cases_back rest os b from v (cs ++ (line, z, f, end) ∷ []) close ps
      ∙ ap (λ x. grown_all (inside os (with_last b (select from v x close))) ps) (followed_case cs line z f end rest)
  cases_back (default line f end) os b from v cs close ps =
      ap (grown_all (in_block (Case from v cs line None) b os)) (append_assoc (sentences f) (sentence end EndsCase ∷ []) (sentence close EndsSelect ∷ ps))
      ∙ block_back f (record { outer = b; head = Case from v cs line None } ∷ os) done (sentence end EndsCase ∷ sentence close EndsSelect ∷ ps)
      ∙ ap (λ x. grown_all (inside os (with_last b (select from v x close))) ps) (sym (followed_default cs line f end))

grown_back : (b : Block) → grown_all (inside [] done) (sentences b) ≡ Some (inside [] b)
grown_back b = ap (grown_all (inside [] done)) (sym (append-nil (sentences b))) ∙ block_back b [] done []

-- two programs that are written alike are one
pub one_writing : (a b : Block) → sentences a ≡ sentences b → a ≡ b
one_writing a b e =
    let both : Some (inside [] a) ≡ Some (inside [] b) = sym (grown_back a) ∙ ap (grown_all (inside [] done)) e ∙ grown_back b in
    let same : inside [] a ≡ inside [] b = cc in
    ap (λ (g : Growing). g.block) same

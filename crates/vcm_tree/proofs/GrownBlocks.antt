-- One statement more in what is read: what is written then, what is open, and where it may stand.
use Rattle.std.proofs.Common.{◌≡◌, ℕ, Bool, true, false, List, [], ◌∷◌, ◌++◌, Option, Some, None, Result, Ok, Err, refl, sym, ap, ◌∙◌, subst, append_assoc}
use Rattle.std.specs.Prelude.{ℤ, not, is_some}
use Rattle.std.proofs.lemmas.List.{append-nil}
use Rattle.vcm_lines.specs.declared.fault.FaultCode.{FaultCode}
use Rattle.vcm_spec.specs.Expression.{Tree}
use Rattle.vcm_spec.specs.Program.{Node, Block, simple, label, jump, choice, choice_else, do_loop, meas, select, ending, done, then}
use Rattle.vcm_forms.specs.declared.statement.Form.{Form}
use Rattle.vcm_nodes.specs.Nodes.{with_last, cases_of}
use Rattle.vcm_tree.specs.declared.builder.Head.{Head}
use Rattle.vcm_tree.specs.declared.builder.Head.TheVariants.{First, Second, Body, Measuring, Case}
use Rattle.vcm_tree.specs.declared.builder.Open.{Open}
use Rattle.vcm_tree.specs.declared.selection.Selection.{Selection}
use Rattle.vcm_tree.specs.declared.selection.Selection.TheVariants.{Plain, Defaulted}
use Rattle.vcm_tree.specs.Sentences.{Step, Sentence, sentence, Does, Marks, Leaps, Tests, Divides, EndsTest, Repeats, EndsRepeat, Measures, EndsMeasure}
use Rattle.vcm_tree.specs.Sentences.{Selects, BeginsCase, BeginsDefault, EndsCase, EndsSelect, Ends, node_sentences, sentences, case_sentences}
use Rattle.vcm_tree.specs.Blocks.{Behind, Opened, InFirst, InSecond, InBody, InSelect, InCase, is_choosing}
use Rattle.vcm_tree.specs.Resolving.{Meaning, Silent, Declares, Counts, is_measuring, blocks_after, behind_by, sentences_by}
use Rattle.vcm_tree.specs.inner.Closing.{Closed}
use Rattle.vcm_tree.specs.inner.Growing.{Growing, inside, turned, grown_inside, grown_between, grown_where, grown, grown_by, opened_by, kinds_of, kinds_where}
use Rattle.vcm_tree.specs.inner.Growing.{kinds, head_sentences, before, waits_sentences, written}

-- ---- lists

module _ {X : Type 0} (ps bs : List X) where
  node_more : (ns : List X) → ps ++ ((bs ++ ns) ++ []) ≡ (ps ++ (bs ++ [])) ++ ns
  node_more ns = simp (append_assoc, append-nil) refl

  last_more : (ns : List X) → ps ++ (bs ++ ns) ≡ (ps ++ (bs ++ [])) ++ ns
  last_more ns = simp (append_assoc, append-nil) refl

  block_more : (hs : List X) → (ps ++ (bs ++ hs)) ++ [] ≡ (ps ++ (bs ++ [])) ++ hs
  block_more hs = simp (append_assoc, append-nil) refl

  case_more : (ws ns : List X) → (ps ++ (bs ++ (ws ++ ns))) ++ [] ≡ (ps ++ (bs ++ ws)) ++ ns
  case_more ws ns = simp (append_assoc, append-nil) refl

  select_more : (ws ns : List X) → ps ++ ((bs ++ (ws ++ ns)) ++ []) ≡ (ps ++ (bs ++ ws)) ++ ns
  select_more ws ns = simp (append_assoc, append-nil) refl

  turned_more : (hs cs ns : List X) → (ps ++ (bs ++ (hs ++ (cs ++ ns)))) ++ [] ≡ ((ps ++ (bs ++ hs)) ++ (cs ++ [])) ++ ns
  turned_more hs cs ns = simp (append_assoc, append-nil) refl

  closed_more : (hs cs ns : List X) → ps ++ ((bs ++ (hs ++ (cs ++ ns))) ++ []) ≡ ((ps ++ (bs ++ hs)) ++ (cs ++ [])) ++ ns
  closed_more hs cs ns = simp (append_assoc, append-nil) refl

  chosen_more : (hs cs ns : List X) → ps ++ (bs ++ (hs ++ (cs ++ ns))) ≡ ((ps ++ (bs ++ hs)) ++ (cs ++ [])) ++ ns
  chosen_more hs cs ns = simp (append_assoc, append-nil) refl

sentences_push : (b : Block) (n : Node) → sentences (with_last b n) ≡ sentences b ++ node_sentences n
sentences_push done n = append-nil (node_sentences n)
sentences_push (then m b) n = ap (λ l. node_sentences m ++ l) (sentences_push b n) ∙ sym (append_assoc (node_sentences m) (sentences b) (node_sentences n))

-- a CASE, or DFTCAS, behind the others
case_push : (cs : List Closed) (at' : ℕ) (z : ℤ) (b : Block) (close : ℕ)
    → case_sentences (cases_of (cs ++ (at', z, b, close) ∷ []) None) ≡ case_sentences (cases_of cs None) ++ sentence at' (BeginsCase z) ∷ (sentences b ++ sentence close EndsCase ∷ [])
case_push [] at' z b close = refl
case_push (c ∷ cs) at' z b close =
    ap (λ l. sentence c.0 (BeginsCase c.1) ∷ (sentences c.2 ++ sentence c.3 EndsCase ∷ l)) (case_push cs at' z b close)
    ∙ ap (λ l. sentence c.0 (BeginsCase c.1) ∷ l) (sym (append_assoc (sentences c.2) (sentence c.3 EndsCase ∷ case_sentences (cases_of cs None)) _))

default_push : (cs : List Closed) (at' : ℕ) (b : Block) (close : ℕ)
    → case_sentences (cases_of cs (Some (at', b, close))) ≡ case_sentences (cases_of cs None) ++ sentence at' BeginsDefault ∷ (sentences b ++ sentence close EndsCase ∷ [])
default_push [] at' b close = refl
default_push (c ∷ cs) at' b close =
    ap (λ l. sentence c.0 (BeginsCase c.1) ∷ (sentences c.2 ++ sentence c.3 EndsCase ∷ l)) (default_push cs at' b close)
    ∙ ap (λ l. sentence c.0 (BeginsCase c.1) ∷ l) (sym (append_assoc (sentences c.2) (sentence c.3 EndsCase ∷ case_sentences (cases_of cs None)) _))

-- ---- what is written, and what is open

abbrev Goes : Growing → ℕ → Step → Option Growing → Type 0
Goes g line s None = Unit {0}
Goes g line s (Some h) = (written h ≡ written g ++ sentence line s ∷ []) × (kinds h ≡ blocks_after (kinds g) s)

-- a node more
longer_writes : (os : List Open) (b : Block) (n : Node) → written (inside os (with_last b n)) ≡ written (inside os b) ++ node_sentences n
longer_writes os b n = ap (λ l. before os ++ (l ++ [])) (sentences_push b n) ∙ node_more (before os) (sentences b) (node_sentences n)

-- a block that ends
closed_writes : (o : Open) (os : List Open) (b : Block) (p : Sentence) (n : Node) → node_sentences n ≡ head_sentences o.head ++ (sentences b ++ p ∷ [])
    → written (inside os (with_last o.outer n)) ≡ written (inside (o ∷ os) b) ++ p ∷ []
closed_writes o os b p n e =
    ap (λ l. before os ++ (l ++ [])) (sentences_push o.outer n ∙ ap (λ l. sentences o.outer ++ l) e) ∙ closed_more (before os) (sentences o.outer) (head_sentences o.head) (sentences b) (p ∷ [])

-- a block of a SELECT that ends
chosen_goes : (out : Block) (os : List Open) (b : Block) (line from at' : ℕ) (v : Tree) (cs : List Closed) (z : Option ℤ)
    → Goes (inside (record { outer = out; head = Case from v cs at' z } ∷ os) b) line EndsCase (turned (Case from v cs at' z) out os b line EndsCase)
chosen_goes out os b line from at' v cs (Some z) = (
  ap (λ l. before os ++ (sentences out ++ sentence from (Selects v) ∷ l))
      (case_push cs at' z b line ∙ sym (append_assoc (case_sentences (cases_of cs None)) (sentence at' (BeginsCase z) ∷ [])
      (sentences b ++ sentence line EndsCase ∷ [])))
      ∙ chosen_more (before os) (sentences out) (head_sentences (Case from v cs at' (Some z))) (sentences b) (sentence line EndsCase ∷ []),
  refl,
)
chosen_goes out os b line from at' v cs None = (
  ap (λ l. before os ++ (sentences out ++ sentence from (Selects v) ∷ l))
      (default_push cs at' b line ∙ sym (append_assoc (case_sentences (cases_of cs None)) (sentence at' BeginsDefault ∷ [])
      (sentences b ++ sentence line EndsCase ∷ [])))
      ∙ chosen_more (before os) (sentences out) (head_sentences (Case from v cs at' None)) (sentences b) (sentence line EndsCase ∷ []),
  refl,
)

turned_goes : (h : Head) (out : Block) (os : List Open) (b : Block) (line : ℕ) (s : Step) → Goes (inside (record { outer = out; head = h } ∷ os) b) line s (turned h out os b line s)
turned_goes (First from t) out os b line Divides = (turned_more (before os) (sentences out) (head_sentences (First from t)) (sentences b) (sentence line Divides ∷ []), refl)
turned_goes (First from t) out os b line EndsTest = (closed_writes (record { outer = out; head = First from t }) os b (sentence line EndsTest) (choice from t b line) refl, refl)
turned_goes (Second from t f mid) out os b line EndsTest = (
  closed_writes (record { outer = out; head = Second from t f mid }) os b (sentence line EndsTest) (choice_else from t f mid b line)
      (ap (λ l. sentence from (Tests t) ∷ l) (sym (append_assoc (sentences f) (sentence mid Divides ∷ []) (sentences b ++ sentence line EndsTest ∷ [])))),
  refl,
)
turned_goes (Body from v x y z) out os b line EndsRepeat = (closed_writes (record { outer = out; head = Body from v x y z }) os b (sentence line EndsRepeat) (do_loop from v x y z b line) refl, refl)
turned_goes (Measuring from f) out os b line EndsMeasure = (closed_writes (record { outer = out; head = Measuring from f }) os b (sentence line EndsMeasure) (meas from f b line) refl, refl)
turned_goes (Case from v cs at' z) out os b line EndsCase = chosen_goes out os b line from at' v cs z
turned_goes _ out os b line s = tt

inside_goes : (os : List Open) (b : Block) (line : ℕ) (s : Step) → Goes (inside os b) line s (grown_inside os b line s)
inside_goes os b line (Does what) = (longer_writes os b (simple line what), refl)
inside_goes os b line (Marks l) = (longer_writes os b (label line l), refl)
inside_goes os b line (Leaps l) = (longer_writes os b (jump line l), refl)
inside_goes os b line (Tests t) = (block_more (before os) (sentences b) (sentence line (Tests t) ∷ []), refl)
inside_goes os b line (Repeats v x y z) = (block_more (before os) (sentences b) (sentence line (Repeats v x y z) ∷ []), refl)
inside_goes os b line (Measures f) = (block_more (before os) (sentences b) (sentence line (Measures f) ∷ []), refl)
inside_goes os b line (Selects v) = (last_more (before os) (sentences b) (sentence line (Selects v) ∷ []), refl)
inside_goes os b line Ends = (longer_writes os b (ending line), refl)
inside_goes [] b line s = tt
inside_goes (o ∷ os) b line s = turned_goes o.head o.outer os b line s

-- ENDSEL
select_goes : (os : List Open) (b : Block) (line : ℕ) (n : Node) (ws : List Sentence) → node_sentences n ≡ ws ++ sentence line EndsSelect ∷ []
    → written (inside os (with_last b n)) ≡ (before os ++ (sentences b ++ ws)) ++ sentence line EndsSelect ∷ []
select_goes os b line n ws e = ap (λ l. before os ++ (l ++ [])) (sentences_push b n ∙ ap (λ l. sentences b ++ l) e) ∙ select_more (before os) (sentences b) ws (sentence line EndsSelect ∷ [])

between_goes : (w : Selection) (os : List Open) (b : Block) (line : ℕ) (s : Step) → Goes (record { opens = os; block = b; waits = Some w }) line s (grown_between w os b line s)
between_goes (Plain from v cs) os b line (BeginsCase z) = (case_more (before os) (sentences b) (waits_sentences (Some (Plain from v cs))) (sentence line (BeginsCase z) ∷ []), refl)
between_goes (Plain from v cs) os b line BeginsDefault = (case_more (before os) (sentences b) (waits_sentences (Some (Plain from v cs))) (sentence line BeginsDefault ∷ []), refl)
between_goes (Plain from v cs) os b line EndsSelect = (select_goes os b line (select from v (cases_of cs None) line) (waits_sentences (Some (Plain from v cs))) refl, refl)
between_goes (Defaulted from v cs) os b line EndsSelect = (select_goes os b line (select from v cs line) (waits_sentences (Some (Defaulted from v cs))) refl, refl)
between_goes _ os b line s = tt

where_goes : (w : Option Selection) (os : List Open) (b : Block) (line : ℕ) (s : Step) → Goes (record { opens = os; block = b; waits = w }) line s (grown_where w os b line s)
where_goes None os b line s = inside_goes os b line s
where_goes (Some w) os b line s = between_goes w os b line s

-- one statement more, in writing and in what is open
pub grown_on : (b : Behind) (g h : Growing) (form : Form) (line : ℕ) (r : Result Meaning FaultCode) → kinds g ≡ b.blocks → grown_by g line r ≡ Some h
    → (written h ≡ written g ++ sentences_by line r) × (kinds h ≡ (behind_by b form r).blocks)
grown_on b g h form line (Ok Silent) k e = (let same : g ≡ h = cc in (ap written (sym same) ∙ sym (append-nil (written g)), ap kinds (sym same) ∙ k))
grown_on b g h form line (Ok (Declares vs)) k e = (let same : g ≡ h = cc in (ap written (sym same) ∙ sym (append-nil (written g)), ap kinds (sym same) ∙ k))
grown_on b g h form line (Ok (Counts s)) k e =
    let goes : Goes g line s (Some h) = subst (Goes g line s) e (where_goes g.waits g.opens g.block line s) in
    (goes.0, goes.1 ∙ ap (λ bs. blocks_after bs s) k)
grown_on b g h form line (Err c) k e = absurd cc

-- a statement that is read has a meaning
pub grown_means : (g h : Growing) (line : ℕ) (r : Result Meaning FaultCode) → grown_by g line r ≡ Some h → (m : Meaning) × (r ≡ Ok m)
grown_means g h line (Ok m) e = (m, refl)
grown_means g h line (Err c) e = absurd cc

-- nothing is open
shut_where : (w : Option Selection) (os : List Open) (b : Block) → kinds_where w (kinds_of os) ≡ [] → written (record { opens = os; block = b; waits = w }) ≡ sentences b
shut_where None [] b e = append-nil (sentences b)
shut_where None (o ∷ os) b e = by o.head e
  where
    by : (h : Head) → opened_by h ++ kinds_of os ≡ [] → written (inside (o ∷ os) b) ≡ sentences b
    by (First from t) f = absurd cc
    by (Second from t f' mid) f = absurd cc
    by (Body from v x y z) f = absurd cc
    by (Measuring from i) f = absurd cc
    by (Case from v cs at' z) f = absurd cc
shut_where (Some (Plain from v cs)) os b e = absurd cc
shut_where (Some (Defaulted from v cs)) os b e = absurd cc

pub all_shut : (g : Growing) → kinds g ≡ [] → written g ≡ sentences g.block
all_shut g e = shut_where g.waits g.opens g.block e

-- ---- where a statement may stand

abbrev is_first : List Opened → Bool
is_first (InFirst ∷ bs) = true
is_first _ = false

abbrev is_test : List Opened → Bool
is_test (InFirst ∷ bs) = true
is_test (InSecond ∷ bs) = true
is_test _ = false

abbrev is_body : List Opened → Bool
is_body (InBody ∷ bs) = true
is_body _ = false

abbrev is_undefaulted : List Opened → Bool
is_undefaulted (InSelect false ∷ bs) = true
is_undefaulted _ = false

abbrev is_case : List Opened → Bool
is_case (InCase ∷ bs) = true
is_case _ = false

-- whether a statement may stand where this is open
abbrev pub fits : List Opened → Step → Bool
fits bs Divides = is_first bs
fits bs EndsTest = is_test bs
fits bs EndsRepeat = is_body bs
fits bs EndsMeasure = is_measuring bs
fits bs (BeginsCase z) = is_undefaulted bs
fits bs BeginsDefault = is_undefaulted bs
fits bs EndsCase = is_case bs
fits bs EndsSelect = is_choosing bs
fits bs s = not (is_choosing bs)

head_fits : (h : Head) (out : Block) (os : List Open) (b : Block) (line : ℕ) (s : Step) (bs : List Opened)
    → is_some (grown_inside (record { outer = out; head = h } ∷ os) b line s) ≡ fits (opened_by h ++ bs) s
head_fits (First from t) out os b line (Does what) bs = refl
head_fits (Second from t f mid) out os b line (Does what) bs = refl
head_fits (Body from v x y z) out os b line (Does what) bs = refl
head_fits (Measuring from f) out os b line (Does what) bs = refl
head_fits (Case from v cs at' z) out os b line (Does what) bs = refl
head_fits _ out os b line _ bs = refl

where_fits : (w : Option Selection) (os : List Open) (b : Block) (line : ℕ) (s : Step) → is_some (grown_where w os b line s) ≡ fits (kinds_where w (kinds_of os)) s
where_fits None (o ∷ os) b line s = head_fits o.head o.outer os b line s (kinds_of os)
where_fits None [] b line (Does what) = refl
where_fits None [] b line _ = refl
where_fits (Some (Plain from v cs)) os b line (Does what) = refl
where_fits (Some (Plain from v cs)) os b line _ = refl
where_fits (Some (Defaulted from v cs)) os b line (Does what) = refl
where_fits (Some (Defaulted from v cs)) os b line _ = refl

-- one that may stand there is read
pub grown_fits : (g : Growing) (line : ℕ) (s : Step) → fits (kinds g) s ≡ true → (h : Growing) × (grown g line s ≡ Some h)
grown_fits g line s e = by (grown g line s) refl (where_fits g.waits g.opens g.block line s ∙ e)
  where
    by : (o : Option Growing) → grown g line s ≡ o → is_some o ≡ true → (h : Growing) × (grown g line s ≡ Some h)
    by None f t = absurd cc
    by (Some h) f t = (h, f)

-- What is read of a program, and what one more of its statements makes of it.
use Rattle.std.specs.Prelude.{◌≡◌, ℕ, ℤ, true, false, List, [], ◌∷◌, ◌++◌, reverse, is_none, Option, Some, None, Result, Ok, Err}
use Rattle.vcm_lines.specs.declared.fault.FaultCode.{FaultCode}
use Rattle.vcm_spec.specs.Expression.{Tree}
use Rattle.vcm_spec.specs.Program.{Node, Block, simple, label, jump, choice, choice_else, do_loop, meas, select, ending, done}
use Rattle.vcm_nodes.specs.Nodes.{with_last, cases_of}
use Rattle.vcm_tree.specs.declared.builder.Head.{Head}
use Rattle.vcm_tree.specs.declared.builder.Head.TheVariants.{First, Second, Body, Measuring, Case}
use Rattle.vcm_tree.specs.declared.builder.Open.{Open}
use Rattle.vcm_tree.specs.declared.builder.Builder.{Builder}
use Rattle.vcm_tree.specs.declared.selection.Selection.{Selection}
use Rattle.vcm_tree.specs.declared.selection.Selection.TheVariants.{Plain, Defaulted}
use Rattle.vcm_tree.specs.Sentences.{Step, Sentence, sentence, Does, Marks, Leaps, Tests, Divides, EndsTest, Repeats, EndsRepeat, Measures, EndsMeasure}
use Rattle.vcm_tree.specs.Sentences.{Selects, BeginsCase, BeginsDefault, EndsCase, EndsSelect, Ends, sentences, case_sentences}
use Rattle.vcm_tree.specs.Blocks.{Opened, InFirst, InSecond, InBody, InMeasure, InSelect, InCase}
use Rattle.vcm_tree.specs.Resolving.{Meaning, Counts, counts}
use Rattle.vcm_tree.specs.inner.Closing.{Closed}

-- the blocks that are open, the innermost first, the nodes of the innermost one, and the SELECT whose next block is waited for, if there is one
pub record Growing : Type 0 where
  pub opens : List Open
  pub block : Block
  pub waits : Option Selection

-- in a block
abbrev pub inside : List Open → Block → Growing
inside os b = record { opens = os; block = b; waits = None }

-- in a block with one node more
abbrev pub longer : List Open → Block → Node → Option Growing
longer os b n = Some (inside os (with_last b n))

-- in a block that this opened
abbrev pub entered : List Open → Block → Head → Option Growing
entered os b h = Some (inside (record { outer = b; head = h } ∷ os) done)

-- in a SELECT outside its blocks
abbrev pub between : List Open → Block → Selection → Option Growing
between os b s = Some (record { opens = os; block = b; waits = Some s })

-- a SELECT with one block more: that of a CASE with its value, or that of DFTCAS without
abbrev pub with_block : ℕ → Tree → List Closed → ℕ → Option ℤ → Block → ℕ → Selection
with_block from v cs at' (Some z) b close = Plain from v (cs ++ (at', z, b, close) ∷ [])
with_block from v cs at' None b close = Defaulted from v (cases_of cs (Some (at', b, close)))

-- ELSE or an end in a block, by what opened the block, and the nodes before it
abbrev pub turned : Head → Block → List Open → Block → ℕ → Step → Option Growing
turned (First from t) out os b line Divides = entered os out (Second from t b line)
turned (First from t) out os b line EndsTest = longer os out (choice from t b line)
turned (Second from t f mid) out os b line EndsTest = longer os out (choice_else from t f mid b line)
turned (Body from v x y z) out os b line EndsRepeat = longer os out (do_loop from v x y z b line)
turned (Measuring from f) out os b line EndsMeasure = longer os out (meas from f b line)
turned (Case from v cs at' z) out os b line EndsCase = between os out (with_block from v cs at' z b line)
turned _ out os b line s = None

-- the same in the innermost block, if one is open
abbrev pub turned_in : List Open → Block → ℕ → Step → Option Growing
turned_in [] b line s = None
turned_in (o ∷ os) b line s = turned o.head o.outer os b line s

-- a statement in a block
abbrev pub grown_inside : List Open → Block → ℕ → Step → Option Growing
grown_inside os b line (Does what) = longer os b (simple line what)
grown_inside os b line (Marks l) = longer os b (label line l)
grown_inside os b line (Leaps l) = longer os b (jump line l)
grown_inside os b line (Tests t) = entered os b (First line t)
grown_inside os b line (Repeats v x y z) = entered os b (Body line v x y z)
grown_inside os b line (Measures f) = entered os b (Measuring line f)
grown_inside os b line (Selects v) = between os b (Plain line v [])
grown_inside os b line Ends = longer os b (ending line)
grown_inside os b line s = turned_in os b line s

-- a statement in a SELECT outside its blocks
abbrev pub grown_between : Selection → List Open → Block → ℕ → Step → Option Growing
grown_between (Plain from v cs) os b line (BeginsCase z) = entered os b (Case from v cs line (Some z))
grown_between (Plain from v cs) os b line BeginsDefault = entered os b (Case from v cs line None)
grown_between (Plain from v cs) os b line EndsSelect = longer os b (select from v (cases_of cs None) line)
grown_between (Defaulted from v cs) os b line EndsSelect = longer os b (select from v cs line)
grown_between _ os b line s = None

-- a statement in a block, or in a SELECT
abbrev pub grown_where : Option Selection → List Open → Block → ℕ → Step → Option Growing
grown_where None os b line s = grown_inside os b line s
grown_where (Some w) os b line s = grown_between w os b line s

-- what one statement more makes of it, if it may stand there
abbrev pub grown : Growing → ℕ → Step → Option Growing
grown g line s = grown_where g.waits g.opens g.block line s

-- what a statement of this meaning makes of it, if it has one
abbrev pub grown_by : Growing → ℕ → Result Meaning FaultCode → Option Growing
grown_by g line (Ok (Counts s)) = grown g line s
grown_by g line (Ok m) = Some g
grown_by g line (Err e) = None

-- ---- the blocks that are open

-- what is open from a block up to the next one around it: the block, and its SELECT if it is one of that
abbrev pub opened_by : Head → List Opened
opened_by (First from t) = InFirst ∷ []
opened_by (Second from t f mid) = InSecond ∷ []
opened_by (Body from v x y z) = InBody ∷ []
opened_by (Measuring from f) = InMeasure f ∷ []
opened_by (Case from v cs at' z) = InCase ∷ InSelect (is_none z) ∷ []

-- what is open in a block
abbrev pub kinds_of : List Open → List Opened
kinds_of [] = []
kinds_of (o ∷ os) = opened_by o.head ++ kinds_of os

-- what is open, the innermost first
abbrev pub kinds_where : Option Selection → List Opened → List Opened
kinds_where None bs = bs
kinds_where (Some (Plain from v cs)) bs = InSelect false ∷ bs
kinds_where (Some (Defaulted from v cs)) bs = InSelect true ∷ bs

-- the same of what is read
abbrev pub kinds : Growing → List Opened
kinds g = kinds_where g.waits (kinds_of g.opens)

-- ---- what is written

-- a block of a SELECT is begun by CASE with its value, or by DFTCAS without
abbrev pub begins : Option ℤ → Step
begins (Some z) = BeginsCase z
begins None = BeginsDefault

-- the statements by which a block was opened
abbrev pub head_sentences : Head → List Sentence
head_sentences (First from t) = sentence from (Tests t) ∷ []
head_sentences (Second from t f mid) = sentence from (Tests t) ∷ (sentences f ++ sentence mid Divides ∷ [])
head_sentences (Body from v x y z) = sentence from (Repeats v x y z) ∷ []
head_sentences (Measuring from f) = sentence from (Measures f) ∷ []
head_sentences (Case from v cs at' z) = sentence from (Selects v) ∷ (case_sentences (cases_of cs None) ++ sentence at' (begins z) ∷ [])

-- the statements before the innermost block
abbrev pub before : List Open → List Sentence
before [] = []
before (o ∷ os) = before os ++ (sentences o.outer ++ head_sentences o.head)

-- the statements of a SELECT whose next block is waited for
abbrev pub waits_sentences : Option Selection → List Sentence
waits_sentences None = []
waits_sentences (Some (Plain from v cs)) = sentence from (Selects v) ∷ case_sentences (cases_of cs None)
waits_sentences (Some (Defaulted from v cs)) = sentence from (Selects v) ∷ case_sentences cs

-- all statements that are read, in writing
abbrev pub written : Growing → List Sentence
written g = before g.opens ++ (sentences g.block ++ waits_sentences g.waits)

-- ---- what a builder stands for

-- the blocks of a builder, the innermost first, and a SELECT whose next block is waited for, if there is one
abbrev pub growing : Builder → Option Selection → Growing
growing b w = record { opens = reverse b.opens.items; block = b.block; waits = w }

-- what is open in the innermost block
abbrev pub blocks_of : Builder → List Opened
blocks_of b = kinds_of (reverse b.opens.items)

-- the outcome is a counted statement, which is read behind the others
abbrev pub ReadsWith : Result Step FaultCode → ℕ → Builder → Option Selection → Builder → Option Selection → Type 0
ReadsWith r line old before new after = grown_by (growing old before) line (counts r) ≡ Some (growing new after)

-- the same where no SELECT waits for a block, before or behind it
abbrev pub Reads : Result Step FaultCode → ℕ → Builder → Builder → Type 0
Reads r line old new = ReadsWith r line old None new None

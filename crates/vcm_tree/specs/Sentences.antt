-- A structured program in sentences: its statements one behind the other, with those that open, divide and close its blocks.
use Rattle.std.specs.Prelude.{ℕ, ℤ, List, [], ◌∷◌, ◌++◌}
use Rattle.vcm_spec.specs.Expression.{Tree}
use Rattle.vcm_spec.specs.Simple.{Simple}
use Rattle.vcm_spec.specs.Program.{Label, Node, Block, Cases, simple, label, jump, choice, choice_else, do_loop, meas, select, ending, done, then}
use Rattle.vcm_spec.specs.Program.{no_more, one_case, default}

-- What a counted statement says once its names are looked up: a simple statement, a jump label, JUMPTO, IF, ELSE, ENDIF, DO, ENDDO, MEAS,
-- ENDMES, SELECT, CASE, DFTCAS, ENDCAS, ENDSEL, ENDFIL
pub data Step : Type 0 where
  Does : Simple Tree → Step
  Marks : Label → Step
  Leaps : Label → Step
  Tests : Tree → Step
  Divides : Step
  EndsTest : Step
  Repeats : (variable : ℕ) (initial limit increment : Tree) → Step
  EndsRepeat : Step
  Measures : (feature : ℕ) → Step
  EndsMeasure : Step
  Selects : Tree → Step
  BeginsCase : (value : ℤ) → Step
  BeginsDefault : Step
  EndsCase : Step
  EndsSelect : Step
  Ends : Step

-- a counted statement and its line
pub record Sentence : Type 0 where
  pub line : ℕ
  pub step : Step

-- a counted statement on this line
abbrev pub sentence : ℕ → Step → Sentence
sentence line step = record { line = line; step = step }

-- the statements of a node in writing, of a block, and of the blocks of a SELECT
abbrev mutual
  pub node_sentences : Node → List Sentence
  node_sentences (simple line what) = sentence line (Does what) ∷ []
  node_sentences (label line l) = sentence line (Marks l) ∷ []
  node_sentences (jump line l) = sentence line (Leaps l) ∷ []
  node_sentences (choice line test first close) = sentence line (Tests test) ∷ (sentences first ++ sentence close EndsTest ∷ [])
  node_sentences (choice_else line test first mid second close) =
      sentence line (Tests test) ∷ (sentences first ++ sentence mid Divides ∷ (sentences second ++ sentence close EndsTest ∷ []))
  node_sentences (do_loop line v initial limit increment body close) =
      sentence line (Repeats v initial limit increment) ∷ (sentences body ++ sentence close EndsRepeat ∷ [])
  node_sentences (meas line feature body close) = sentence line (Measures feature) ∷ (sentences body ++ sentence close EndsMeasure ∷ [])
  node_sentences (select line value cases close) = sentence line (Selects value) ∷ (case_sentences cases ++ sentence close EndsSelect ∷ [])
  node_sentences (ending line) = sentence line Ends ∷ []

  pub sentences : Block → List Sentence
  sentences done = []
  sentences (then n b) = node_sentences n ++ sentences b

  pub case_sentences : Cases → List Sentence
  case_sentences no_more = []
  case_sentences (one_case line value block close rest) =
      sentence line (BeginsCase value) ∷ (sentences block ++ sentence close EndsCase ∷ case_sentences rest)
  case_sentences (default line block close) = sentence line BeginsDefault ∷ (sentences block ++ sentence close EndsCase ∷ [])

-- What the laws say of the sentences of a text.
use Rattle.std.specs.Prelude.{ℕ, not, Bool, true, false, List, [], ◌∷◌, ◌++◌, if◌then◌else◌}
use Rattle.std.specs.List.{filter}
use Rattle.vcm_lines.specs.Statements.{KeptLine, kept_line, is_empty}
use Rattle.vcm_sentences.specs.declared.sentences.Owner.{Owner}
use Rattle.vcm_sentences.specs.declared.sentences.Owner.TheVariants.{First}
use Rattle.vcm_sentences.specs.Stretches.{TextLine, text_lines, stretches, begins_statement}

-- the kept lines among these lines: those of which something is left
abbrev pub kept_in : List TextLine → List KeptLine
kept_in [] = []
kept_in (l ∷ ls) = if is_empty l.text then kept_in ls else kept_line l.number l.text ∷ kept_in ls

-- the stretches of a text that begin a statement
abbrev pub begun_in : List ℕ → List (List TextLine)
begun_in text = filter begins_statement (stretches false (text_lines text))

-- the other stretches of a text
abbrev pub others_in : List ℕ → List (List TextLine)
others_in text = filter (λ s. not (begins_statement s)) (stretches false (text_lines text))

-- the line is the first one of a sentence
abbrev pub is_first : Owner → Bool
is_first First = true
is_first _ = false

-- the numbers of the lines that are the first one of a sentence, what each of them is being given
abbrev pub first_numbers : List TextLine → List Owner → List ℕ
first_numbers [] os = []
first_numbers (l ∷ ls) [] = []
first_numbers (l ∷ ls) (o ∷ os) = if is_first o then l.number ∷ first_numbers ls os else first_numbers ls os

-- fields, put together with commas
abbrev pub with_commas : List (List ℕ) → List ℕ
with_commas [] = []
with_commas (f ∷ []) = f
with_commas (f ∷ g ∷ fs) = f ++ 44 ∷ with_commas (g ∷ fs)

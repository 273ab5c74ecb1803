-- Worked examples: the sentences of short texts, what their lines are to them, and the parts of statements.
use Rattle.std.specs.Prelude.{◌≡◌, refl, ℕ, List, [], ◌∷◌, ◌++◌, codes}
use Rattle.vcm_num.specs.Lines.{whole_lines}
use Rattle.vcm_lines.specs.Segments.{segments_from}
use Rattle.vcm_sentences.specs.declared.sentences.Owner.TheVariants.{Nobody, First, Other}
use Rattle.vcm_sentences.specs.declared.words.MajorWord.TheVariants.{Goto, Feature}
use Rattle.vcm_sentences.specs.Stretches.{Spoken, sentences_in, owners_in}
use Rattle.vcm_sentences.specs.Parted.{parts_in, fields_in}

-- a line in front of others
abbrev line : List ℕ → List ℕ → List ℕ
line bytes others = bytes ++ (10 ∷ others)

-- a sentence
abbrev at : ℕ → List ℕ → List ℕ → List ℕ → Spoken
at n lines indent bytes = record { line = n; lines = lines; indent = indent; bytes = bytes }

-- a statement over two lines, with a comment between them, and another one
abbrev pub moves : List ℕ
moves = line (codes "$$ a") (line (codes " goto/1, $") (line (codes "$$ b") (line (codes "2,3") (codes "GOHOME"))))

pub moves_are_two : sentences_in moves
    ≡ at 2 (line (codes " goto/1, $") (line (codes "$$ b") (line (codes "2,3") []))) (codes " ") (codes "GOTO/1,2,3") ∷ at 5 (codes "GOHOME") [] (codes "GOHOME") ∷ []
unfolding whole_lines segments_from
moves_are_two = refl

pub moves_have_lines : owners_in moves ≡ Nobody ∷ First ∷ Nobody ∷ Other ∷ First ∷ []
unfolding whole_lines segments_from
moves_have_lines = refl

-- a text that isn't closed leaves nothing: the line is a sentence since it breaks a rule
pub open_text_is_told : sentences_in (line (codes "'a") (codes "POP")) ≡ at 1 (line (codes "'a") []) [] [] ∷ at 2 (codes "POP") [] (codes "POP") ∷ []
unfolding whole_lines segments_from
open_text_is_told = refl

-- a statement that isn't finished goes to the end of the text
pub unfinished_is_told : sentences_in (line (codes "A $") (line (codes "$$ b") [])) ≡ at 1 (line (codes "A $") (line (codes "$$ b") [])) [] (codes "A") ∷ []
unfolding whole_lines segments_from
unfinished_is_told = refl

-- a byte order mark is read over on the first line alone
pub mark_is_read_over : sentences_in (239 ∷ 187 ∷ 191 ∷ codes "A") ≡ at 1 (239 ∷ 187 ∷ 191 ∷ codes "A") [] (codes "A") ∷ []
unfolding whole_lines segments_from
mark_is_read_over = refl

-- a statement that names what it makes, one that doesn't, and a jump target
pub feature_is_parted : parts_in (codes "F(P)=FEAT/POINT,CART,1,2")
    ≡ record { kind = codes "F"; title = codes "P"; spelled = codes "FEAT"; word = Feature; rest = codes "POINT,CART,1,2" }
feature_is_parted = refl

pub move_is_parted : parts_in (codes "GOTO/1,2,3") ≡ record { kind = []; title = []; spelled = codes "GOTO"; word = Goto; rest = codes "1,2,3" }
move_is_parted = refl

pub target_has_title : (parts_in (codes "(L)")).title ≡ codes "L"
target_has_title = refl

-- commas in a text or in parentheses divide nothing
pub fields_are_three : fields_in (codes "'A,B',F(P,1),2") ≡ codes "'A,B'" ∷ codes "F(P,1)" ∷ codes "2" ∷ []
fields_are_three = refl

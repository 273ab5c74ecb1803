-- The word of a statement: which version has it, and how it is written.
use Rattle.std.specs.Prelude.{ℕ, ◌==◌, Bool, true, false, not, if◌then◌else◌, List, [], ◌∷◌, map, codes, Option, Some, None}
use Rattle.vcm_code.specs.declared.version.Version.{Version}
use Rattle.vcm_code.specs.declared.version.Version.TheVariants.{One, Two}
use Rattle.vcm_code.specs.declared.word.Word.{Word}
use Rattle.vcm_code.specs.declared.word.Word.TheVariants as words
use Rattle.vcm_code.specs.Code.{Op}
use Rattle.vcm_code.specs.Shape.{word_in, taken_apart, all_words}

-- the word that a statement goes by
abbrev pub word_of : Op → Word
word_of o = word_in (taken_apart o)

-- whether a word is SELECT, CASE, ENDCAS, DFTCAS or ENDSEL
abbrev pub is_of_select : Word → Bool
is_of_select words.Select = true
is_of_select words.Case = true
is_of_select words.EndCas = true
is_of_select words.DftCas = true
is_of_select words.EndSel = true
is_of_select _ = false

-- whether a version has a word
abbrev pub has_word : Version → Word → Bool
has_word One w = not (is_of_select w)
has_word Two w = true

-- how each word is written: the byte that stands for it in an image, and its text in a listing
abbrev pub written_as : Word → ℕ × List ℕ
written_as words.EndFil = (0, codes "ENDFIL")
written_as words.Goto = (1, codes "GOTO")
written_as words.GoHome = (2, codes "GOHOME")
written_as words.Assign = (3, codes "ASSIGN")
written_as words.If = (4, codes "IF")
written_as words.Else = (5, codes "ELSE")
written_as words.EndIf = (6, codes "ENDIF")
written_as words.Do = (7, codes "DO")
written_as words.EndDo = (8, codes "ENDDO")
written_as words.Label = (9, codes "LABEL")
written_as words.JumpTo = (10, codes "JUMPTO")
written_as words.Feat = (11, codes "FEAT")
written_as words.Meas = (12, codes "MEAS")
written_as words.PtMeas = (13, codes "PTMEAS")
written_as words.EndMes = (14, codes "ENDMES")
written_as words.SnSet = (15, codes "SNSET")
written_as words.Trans = (16, codes "TRANS")
written_as words.Rotate = (17, codes "ROTATE")
written_as words.Recall = (18, codes "RECALL")
written_as words.Obtain = (19, codes "OBTAIN")
written_as words.Output = (20, codes "OUTPUT")
written_as words.Text = (21, codes "TEXT")
written_as words.Select = (22, codes "SELECT")
written_as words.Case = (23, codes "CASE")
written_as words.EndCas = (24, codes "ENDCAS")
written_as words.DftCas = (25, codes "DFTCAS")
written_as words.EndSel = (26, codes "ENDSEL")

-- its byte
abbrev pub word_byte : Word → ℕ
word_byte w = (written_as w).0

-- its text
abbrev pub word_text : Word → List ℕ
word_text w = (written_as w).1

-- the first of these words that has this byte
unfoldable pub with_byte : ℕ → List Word → Option Word
with_byte k [] = None
with_byte k (w ∷ ws) = if k == word_byte w then Some w else with_byte k ws

-- the texts of words, each beside its word
abbrev pub word_rows : List (List ℕ × Word)
word_rows = map (λ w. (word_text w, w)) all_words

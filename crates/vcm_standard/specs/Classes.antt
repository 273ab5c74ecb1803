-- The words of the standard.
use Rattle.std.specs.Prelude.{ℕ, List, Option, map}
use Rattle.vcm_num.specs.Words.{look_up}
use Rattle.vcm_standard.specs.declared.words.WordClass.{WordClass}
use Rattle.vcm_standard.specs.declared.words.TheConstants.{WORDS}

-- what becomes of the statements of a word: what stands beside it in the table
abbrev pub class_of : List ℕ → Option WordClass
class_of word = look_up (map (λ row. (row.0.now, row.1)) WORDS.now) word

-- The numbers that words of the language stand for.
use Rattle.std.specs.Prelude.{ℕ}
use Rattle.vcm_spec.specs.declared.words.FrameAxis.{FrameAxis}
use Rattle.vcm_spec.specs.declared.words.FrameAxis.TheVariants as axes
use Rattle.vcm_spec.specs.declared.words.Quarters.{Quarters}
use Rattle.vcm_spec.specs.declared.words.Quarters.TheVariants as turns
use Rattle.vcm_spec.specs.declared.words.FeatureWord.{FeatureWord}
use Rattle.vcm_spec.specs.declared.words.FeatureWord.TheVariants as words

-- the number of an axis
abbrev pub axis_number : FrameAxis → ℕ
axis_number axes.X = 0
axis_number axes.Y = 1
axis_number axes.Z = 2

-- how many quarter turns
abbrev pub quarters_number : Quarters → ℕ
quarters_number turns.Zero = 0
quarters_number turns.One = 1
quarters_number turns.Two = 2
quarters_number turns.Three = 3

-- the place of a word in a feature's line
abbrev pub word_number : FeatureWord → ℕ
word_number words.X = 3
word_number words.Y = 4
word_number words.Z = 5
word_number words.I = 6
word_number words.J = 7
word_number words.K = 8

-- Texts whose words are all short, told without a word being kept.
use Rattle.std.specs.Prelude.{ℕ, ◌+◌, Bool, false, ◌||◌, nat_lt, if◌then◌else◌, List, [], ◌∷◌}
use Rattle.vcm_num.specs.declared.limits.TheConstants.{LONGEST_NAME}
use Rattle.vcm_short_names.specs.declared.pieces.Stand.{Stand}
use Rattle.vcm_short_names.specs.declared.pieces.Stand.TheVariants.{Between}
use Rattle.vcm_short_names.specs.Pieces.{stand_behind, is_word}

-- how many bytes the open word has, where the reading stands here behind one more
abbrev pub count_behind : Stand → ℕ → ℕ
count_behind s count = if is_word s then count + 1 else 0

-- whether a word gets more than sixteen bytes, from here on
abbrev pub has_more_from : Stand → ℕ → List ℕ → Bool
has_more_from s count [] = false
has_more_from s count (b ∷ bs) =
    nat_lt LONGEST_NAME (count_behind (stand_behind s b) count) || has_more_from (stand_behind s b) (count_behind (stand_behind s b) count) bs

-- whether a text has a word of more than sixteen bytes
abbrev pub has_more : List ℕ → Bool
has_more text = has_more_from Between 0 text

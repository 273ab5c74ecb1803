-- What is known of the machine in a state.
use Rattle.std.specs.Prelude.{ℤ, Bool, true, not, ◌&&◌, if◌then◌else◌, List}
use Rattle.vcm_untried.specs.declared.known.Known.{Known}
use Rattle.vcm_untried.specs.Causes.{is_nought, is_lost}

-- whether the frame (0), the mode (2), the table (3) and the place of the probe (6) are known, as the variables say that carry them
abbrev pub known_in : List ℤ → Known
known_in vs = record { frame = not (is_nought vs 0); mode = not (is_lost vs 2); table = not (is_lost vs 3); place = not (is_nought vs 6) }

-- both are so, or neither
abbrev pub both : Bool → Bool → Bool
both a b = if a then b else not b

-- the same is known
abbrev pub is_same : Known → Known → Bool
is_same a b = both a.frame b.frame && (both a.mode b.mode && (both a.table b.table && both a.place b.place))

-- all of it is
abbrev pub all_known : Known
all_known = record { frame = true; mode = true; table = true; place = true }

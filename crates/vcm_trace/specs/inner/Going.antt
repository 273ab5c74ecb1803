-- What following a run wrote.
use Rattle.std.specs.Prelude.{◌≡◌, ℕ, ◌<◌, List, ◌++◌, length, take, flat_map, Option}
use Rattle.std.specs.Io.KnownBytes.{Appends}
use Rattle.vcm_steps.specs.Passages.{Passage}
use Rattle.vcm_steps.specs.declared.fault.Unfinished.{Unfinished}
use Rattle.vcm_steps.specs.declared.fault.Unfinished.TheVariants as faults
use Rattle.vcm_trace.specs.Framed.{Frames, FramedStep, framed_step, frames_behind, framed}

-- the rows of these steps were written, where features were declared in such frames before them
abbrev pub HasRows : (FramedStep → List ℕ) → Frames → Option (List ℕ) → Option (List ℕ) → List Passage → Type 0
HasRows row fs old new ps = Appends old new (flat_map row (framed fs ps))

-- and of the one behind them a front, and not all of it
abbrev pub HasBroken : (FramedStep → List ℕ) → Frames → Option (List ℕ) → Option (List ℕ) → List Passage → Passage → Unfinished → Type 0
HasBroken row fs old new ps p (faults.Write n) =
    (n ≡ p.count)
    × ((k : ℕ) × (k < length (row (framed_step (frames_behind fs ps) p)))
    × Appends old new (flat_map row (framed fs ps) ++ take k (row (framed_step (frames_behind fs ps) p))))
HasBroken row fs old new ps p f = ⊥

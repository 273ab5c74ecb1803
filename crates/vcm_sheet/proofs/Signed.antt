-- Signed numbers as the code reads them.
use Rattle.std.proofs.lemmas.Int.{ints, to_z-of_z}

-- a number that fits is read as it is
pub ruleset signed = (ints, to_z-of_z)

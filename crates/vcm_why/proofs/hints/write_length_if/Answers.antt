use Rattle.std.proofs.Common.{rules, w64, FitsSigned, to_z-of_z}
use Rattle.vcm_why.proofs.hints.write_length_if.Goals as goal

pub returns-in-Some : goal.returns-in-Some
returns-in-Some g c = let fx : FitsSigned w64 c.in-Some.length = search rules in rw c.in-Some.is (rw (to_z-of_z fx) at c.write_free_length.ensures)

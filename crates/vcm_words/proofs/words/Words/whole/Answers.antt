use Rattle.std.proofs.Common.{ap, Bor, List, ℕ}
use Rattle.std.specs.Prelude.{option_map}
use Rattle.vcm_words.proofs.SliceLaws.{left_some}
use Rattle.vcm_words.proofs.words.Words.whole.Goals as goal

pub returns-in-Some : goal.returns-in-Some
returns-in-Some c = left_some (option_map (λ r. r.now) c.self.inside.left) c.in-Some.bytes.now c.args.self.now c.self.view_is (ap (option_map (λ (r : Bor (List ℕ)). r.now)) c.in-Some.is)

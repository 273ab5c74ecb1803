-- The table is held against the definition at each of the 256 bytes, by computing.
use Rattle.std.proofs.Common.{◌≡◌, ℕ, ◌<◌, true, not, nat_eq, get_or, List, refl, arith}
use Rattle.std.proofs.lemmas.Bool.{agree_below, agree_below_at}
use Rattle.vcm_lines.specs.declared.clean.TheConstants.{BARE}
use Rattle.vcm_lines.specs.inner.Taking.{is_bare}
use Rattle.vcm_lines.proofs.clean.is_bare.Goals as goal

from_table : (table : List ℕ) (b : ℕ) → b < 256 → agree_below (λ k. not (nat_eq (get_or table k 0) 36)) is_bare 256 ≡ true → not (nat_eq (get_or table b 0) 36) ≡ is_bare b
from_table table b lt h = agree_below_at (λ k. not (nat_eq (get_or table k 0) 36)) is_bare 256 b h lt

pub returns : goal.returns
returns c = from_table BARE c.args.b (omega arith) refl

-- Single places: which of them break no rule.
use Rattle.std.proofs.Common.{◌≡◌, Bool, true, false, sym, ◌∙◌}
use Rattle.std.specs.Prelude.{IsTrue}

-- a test that is false isn't true
pub never : (b : Bool) → b ≡ false → IsTrue b → ⊥
never b e t = let both : true ≡ false = sym t ∙ e in cc

-- Three tests, one after the other.
use Rattle.std.proofs.Common.{◌≡◌, Bool, true, ◌&&◌, sym, ◌∙◌, ap}

pub last_of : (r s t a b c : Bool) → r ≡ true → r ≡ a → s ≡ true → s ≡ b → t ≡ c → t ≡ (a && b && c)
last_of r s t a b c hr er hs es et = rw (sym er ∙ hr, sym es ∙ hs) et

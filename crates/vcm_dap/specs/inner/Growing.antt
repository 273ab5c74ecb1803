-- Messages that grow.
use Rattle.std.specs.Prelude.{◌≡◌, List, ◌++◌}
use Rattle.json.specs.Token.{Token}

-- tokens were put behind others
abbrev pub Grown : List Token → List Token → Type 0
Grown old new = (ts : List Token) × (new ≡ old ++ ts)

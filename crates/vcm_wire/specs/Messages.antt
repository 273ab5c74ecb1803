-- Messages as tokens.
use Rattle.std.specs.Prelude.{◌≡◌, ℕ, List, [], ◌∷◌, ◌++◌, codes, decimal, Result, Ok, Err}
use Rattle.json.specs.Token.{Token, begin_object, key, string, number}
use Rattle.json.specs.Written.{WritesFront}

-- the front of each message
abbrev pub front : ℕ → List ℕ → List Token
front seq kind = begin_object ∷ key (codes "seq") ∷ number (decimal seq) ∷ key (codes "type") ∷ string kind ∷ []

-- a call added these tokens, or failed and added some first ones of them
abbrev pub Adds : {A E : Type 0} → List Token → List Token → List Token → Result A E → Type 0
Adds old new ts (Ok done) = new ≡ old ++ ts
Adds old new ts (Err e) = WritesFront old new ts
